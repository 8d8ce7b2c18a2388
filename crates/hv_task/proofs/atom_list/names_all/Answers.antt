use Rattle.std.proofs.Common.{◌≡◌, true, false, refl, sym, subst, arith, below_more}
use Rattle.std.proofs.lemmas.Bool.{both_ways}
use Rattle.std.proofs.lemmas.List.{get_or_default}
use Rattle.std.specs.List.{Contains}
use Rattle.hv_task.proofs.atom_list.names_all.Goals as goal

pub returns-then-not-names_atom : goal.returns-then-not-names_atom
returns-then-not-names_atom c = (
  λ e. let f : false ≡ true = e in absurd cc,
  λ all. absurd (both_ways c.names_atom.result c.if-not-names_atom.true
      (c.names_atom.ensures.1 (all c.loop-atom.atom-index 0 c.loop-atom-test.true))),
)

pub loop-atom-preserved : goal.loop-atom-preserved
loop-atom-preserved c =
    below_more _ _ c.loop-atom.invariant
    (c.names_atom.ensures.0 c.if-not-names_atom.false)

pub returns : goal.returns
returns c = (
  λ _ k d within. subst (Contains c.args.list.now)
      (sym (get_or_default c.args.atoms.now k d 0 within))
      (c.loop-atom.invariant k (let end = c.loop-atom-test.false in omega arith)),
  λ _. refl,
)
