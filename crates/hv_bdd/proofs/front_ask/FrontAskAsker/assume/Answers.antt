use Rattle.std.proofs.Common.{◌≡◌, ◌<◌, ◌∙◌, ◌++◌, ◌∷◌, [], ap, subst, sym}
use Rattle.std.proofs.lemmas.List.Elements.{All-push}
use Rattle.hv_sets.specs.Cubes.{SpeakBelow}
use Rattle.hv_sets.specs.declared.literal.Literal.{Literal}
use Rattle.hv_bdd.specs.Fronts.{AreFronts}
use Rattle.hv_bdd.specs.Working.Excluding.{HasExclusion}
use Rattle.hv_bdd.specs.Working.Fronts.{IsMetNowhere}
use Rattle.hv_bdd.proofs.Along.{along_again, fronts_pushed, none_wanted}
use Rattle.hv_bdd.proofs.Excluded.{excluded_nowhere}
use Rattle.hv_bdd.proofs.Jumped.{at_node_same}
use Rattle.hv_bdd.proofs.front_ask.FrontAskAsker.assume.Goals as goal

pub returns-then-excluded-clause-stands : goal.returns-then-excluded-clause-stands
returns-then-excluded-clause-stands g c =
    let q = c.args.self.now in
    let p = c.requires.stands.1 in
    let list = q.nodes.now in
    let after = c.assume.new.self in
    let l = c.args.literal in
    let old = q.literals.items in
    let new = c.push.new.self.items in
    let table = c.learn.new.self.words.items in
    let is : new ≡ old ++ l ∷ [] = c.in_ok-push.ensures.items in
    let less = subst (λ n. l.atom < n) p.over c.requires.atom in (
      c.in_ok-assume.ensures.stands,
      along_again list q.inside q.node (g.A.Asker.atoms q.asked) (g.A.Asker.atoms after)
          (g.A.Asker.wanted q.asked) (g.A.Asker.wanted after) (g.A.Asker.assumed after) new
          q.fronts.reached q.fronts.levels.items table c.exclude-excluded.result p.over
          c.assume.ensures.atoms c.assume.ensures.wanted
          (c.in_ok-assume.ensures.assumed ∙ (ap (λ xs. xs ++ l ∷ []) p.same ∙ sym is))
          (subst (SpeakBelow list.atoms) (sym is)
          (All-push (λ (m : Literal). m.atom < list.atoms) old l p.below less))
          (fronts_pushed list q.inside q.node old new l q.fronts.reached q.fronts.levels.items is
          p.fronts)
          c.in_ok-known.ensures.known
          (λ yes. none_wanted list q.inside q.node (g.A.Asker.atoms q.asked)
          (g.A.Asker.wanted q.asked) new (c.requires.stands.2).side
          (subst (IsMetNowhere list q.inside q.node) (sym is)
          (excluded_nowhere list q.inside q.node table c.in_ok-known.ensures.known old l
          (subst (λ ls. HasExclusion table ls l) c.as_slice.ensures.value
          (c.exclude-excluded.ensures yes))))),
      at_node_same list q.inside (g.A.Asker.wanted q.asked) (g.A.Asker.wanted after) q.node
          q.jumps.to.items q.jumps.to.items c.assume.ensures.wanted (c.requires.stands.2)
          (c.requires.stands.2).known,
    )

pub returns-clause-stands : goal.returns-clause-stands
returns-clause-stands g c =
    let q = c.args.self.now in
    let p = c.requires.stands.1 in
    let list = q.nodes.now in
    let after = c.assume.new.self in
    let l = c.args.literal in
    let old = q.literals.items in
    let new = c.push.new.self.items in
    let table = c.learn.new.self.words.items in
    let fronts = c.follow.new.self in
    let is : new ≡ old ++ l ∷ [] = c.in_ok-push.ensures.items in
    let value = c.as_slice-2.ensures.value in
    let less = subst (λ n. l.atom < n) p.over c.requires.atom in (
      c.in_ok-assume.ensures.stands,
      along_again list q.inside q.node (g.A.Asker.atoms q.asked) (g.A.Asker.atoms after)
          (g.A.Asker.wanted q.asked) (g.A.Asker.wanted after) (g.A.Asker.assumed after) new
          fronts.reached fronts.levels.items table c.in_ok-none.none p.over
          c.assume.ensures.atoms c.assume.ensures.wanted
          (c.in_ok-assume.ensures.assumed ∙ (ap (λ xs. xs ++ l ∷ []) p.same ∙ sym is))
          (subst (SpeakBelow list.atoms) (sym is)
          (All-push (λ (m : Literal). m.atom < list.atoms) old l p.below less))
          (subst (λ ls. AreFronts list q.inside q.node ls fronts.reached fronts.levels.items) value
          c.in_ok-none.ensures.fronts)
          c.in_ok-known.ensures.known
          (λ yes. none_wanted list q.inside q.node (g.A.Asker.atoms q.asked)
          (g.A.Asker.wanted q.asked) new (c.requires.stands.2).side
          (subst (IsMetNowhere list q.inside q.node) value (c.in_ok-none.ensures.none yes))),
      at_node_same list q.inside (g.A.Asker.wanted q.asked) (g.A.Asker.wanted after) q.node
          q.jumps.to.items q.jumps.to.items c.assume.ensures.wanted (c.requires.stands.2)
          (c.requires.stands.2).known,
    )
