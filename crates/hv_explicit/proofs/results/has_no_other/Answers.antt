use Rattle.std.proofs.Common.{◌≡◌, true, false, refl, sym, subst, arith, below_more, get_or}
use Rattle.std.proofs.lemmas.Bool.{both_ways}
use Rattle.std.proofs.lemmas.List.{get_or_default}
use Rattle.std.specs.List.{Contains}
use Rattle.hv_explicit.proofs.results.has_no_other.Goals as goal

pub returns-then-not-is_let : goal.returns-then-not-is_let
returns-then-not-is_let c = (
  λ e. let f : false ≡ true = e in absurd cc,
  λ all. absurd (both_ways c.is_let.result c.if-not-is_let.true
      (c.is_let.ensures.1 (all c.loop-atom.atom-index 0 c.loop-atom-test.true))),
)

pub loop-atom-preserved : goal.loop-atom-preserved
loop-atom-preserved c =
    below_more (λ k. Contains c.args.list.now (get_or c.args.atoms.now k 0)
    → Contains c.args.others.now (get_or c.args.atoms.now k 0)) c.loop-atom.atom-index
    c.loop-atom.invariant (c.is_let.ensures.0 c.if-not-is_let.false)

pub returns : goal.returns
returns c = (
  λ _ k d within. subst (λ a. Contains c.args.list.now a → Contains c.args.others.now a)
      (sym (get_or_default c.args.atoms.now k d 0 within))
      (c.loop-atom.invariant k (let end = c.loop-atom-test.false in omega arith)),
  λ _. refl,
)
