use Rattle.std.proofs.Common.{[], subst}
use Rattle.hv_propagation.specs.declared.watched.Scan.TheVariants as S
use Rattle.hv_propagation.specs.Working.Scan.{Scans}
use Rattle.hv_propagation.specs.Trail.{marked}
use Rattle.hv_propagation.proofs.Around.{only_added}
use Rattle.hv_propagation.proofs.unit_rounds.look_at.Goals as goal

pub returns-in_ok-add-in-Unit : goal.returns-in_ok-add-in-Unit
returns-in_ok-add-in-Unit c =
    let l = c.in-Unit.literal in
    let found = subst (λ ls. Scans (S.Unit l) [] (marked c.args.atoms ls) c.args.clause.now)
    c.as_slice.ensures.items c.in-Unit.ensures in
    let add = c.in_ok-add-in-Unit in (
      l,
      found.0,
      found.2,
      only_added c.args.cube.now c.add.new.self l add.field-0 add.ensures.added
          add.ensures.refused,
    )
