use Rattle.std.proofs.Common.{◌≡◌, true, false, ℕ, ◌∙◌, refl, sym, subst, option_map}
use Rattle.smallvec.specs.SmallVec.{SmallVec}
use Rattle.hv_bdd.specs.Working.Search.{IsPutSome, tuples_of}
use Rattle.hv_bdd.proofs.Explored.{put_is}
use Rattle.hv_bdd.proofs.reach.Reached.put.Goals as goal

pub returns-in_ok-push : goal.returns-in_ok-push
returns-in_ok-push c =
    subst (λ o. IsPutSome (tuples_of c.args.self.now.tuples) c.args.self.now.links.items
    (option_map (λ (t : SmallVec ℕ). t.items) o)
    (record { parent = c.args.parent; bit = c.args.bit }) (tuples_of c.insert.new.self)
    c.push.new.self.items) (sym c.in-Some.is)
    (put_is c.args.self.now.tuples.keys c.in-Some.tuple c.insert.new.self.keys
    c.args.self.now.links.items c.push.new.self.items
    (record { parent = c.args.parent; bit = c.args.bit }) true
    (sym c.if-branch.true ∙ c.in_ok-insert.ensures.added) c.in_ok-insert.ensures.keys
    (λ _. c.in_ok-push.ensures.items) (λ e. let f : true ≡ false = e in absurd cc))

pub returns-else-branch : goal.returns-else-branch
returns-else-branch c =
    subst (λ o. IsPutSome (tuples_of c.args.self.now.tuples) c.args.self.now.links.items
    (option_map (λ (t : SmallVec ℕ). t.items) o)
    (record { parent = c.args.parent; bit = c.args.bit }) (tuples_of c.insert.new.self)
    c.args.self.now.links.items) (sym c.in-Some.is)
    (put_is c.args.self.now.tuples.keys c.in-Some.tuple c.insert.new.self.keys
    c.args.self.now.links.items c.args.self.now.links.items
    (record { parent = c.args.parent; bit = c.args.bit }) false
    (sym c.if-branch.false ∙ c.in_ok-insert.ensures.added) c.in_ok-insert.ensures.keys
    (λ e. let f : false ≡ true = e in absurd cc) (λ _. refl))
