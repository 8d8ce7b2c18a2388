use Rattle.std.proofs.Common.{◌<◌, inl, inr, length, subst, sym}
use Rattle.std.proofs.lemmas.List.Elements.{All-contains, Contains-get_or}
use Rattle.std.specs.List.{Contains}
use Rattle.hv_rows.proofs.preconditions.place_for.Goals as goal

pub shorter-place-requires-clause-place : goal.shorter-place-requires-clause-place
shorter-place-requires-clause-place c =
    All-contains (λ n. n < length c.args.rows.now) c.args.atoms.now c.loop-atom.place c.requires
    c.loop-atom.invariant

pub loop-atom-preserved : goal.loop-atom-preserved
loop-atom-preserved c =
    elim c.shorter-place.ensures [
      | inl same ↦ subst (Contains c.args.atoms.now) (sym same) c.loop-atom.invariant
      | inr other ↦ subst (Contains c.args.atoms.now) (sym other)
          (Contains-get_or c.args.atoms.now c.loop-atom.atom-index 0 c.loop-atom-test.true)
    ]
