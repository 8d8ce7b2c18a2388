use Rattle.std.proofs.Common.{◌≡◌, ◌∙◌, true, false, refl, sym, subst, arith, below_more, get_or}
use Rattle.std.proofs.lemmas.Bool.{both_ways}
use Rattle.std.proofs.lemmas.List.{get_or_default}
use Rattle.std.specs.List.{Contains}
use Rattle.hv_task.proofs.Places.{names_atom-Decides}
use Rattle.hv_explicit.proofs.near.names_each.Goals as goal

pub returns-then-not-named_near : goal.returns-then-not-named_near
returns-then-not-named_near c =
    let atom = get_or c.args.atoms.now c.loop-atom.atom-index 0 in (
      λ e. let f : false ≡ true = e in absurd cc,
      λ all. absurd (both_ways c.named_near.result c.if-not-named_near.true
          (c.named_near.ensures ∙ (names_atom-Decides c.args.list.now atom).1
          (all c.loop-atom.atom-index 0 c.loop-atom-test.true))),
    )

pub loop-atom-preserved : goal.loop-atom-preserved
loop-atom-preserved c =
    let atom = get_or c.args.atoms.now c.loop-atom.atom-index 0 in
    below_more _ _ c.loop-atom.invariant ((names_atom-Decides c.args.list.now atom).0
    (sym c.named_near.ensures ∙ c.if-not-named_near.false))

pub returns : goal.returns
returns c = (
  λ _ k d within. subst (Contains c.args.list.now)
      (sym (get_or_default c.args.atoms.now k d 0 within))
      (c.loop-atom.invariant k (let end = c.loop-atom-test.false in omega arith)),
  λ _. refl,
)
