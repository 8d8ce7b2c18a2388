use Rattle.std.proofs.Common.{◌∙◌, inl, inr}
use Rattle.std.proofs.lemmas.List.Elements.{Contains-get_or}
use Rattle.hv_basic.proofs.denied.absent_atoms.Goals as goal

pub loop-operand-preserved : goal.loop-operand-preserved
loop-operand-preserved c =
    let i = c.loop-operand.invariant in
    let e = c.flag_absent.ensures in
    record {
      size = e.size ∙ i.size;
      absent = λ atom on. elim (e.absent atom on) [
        | inl was ↦ i.absent atom was
        | inr own ↦ (
          _,
          Contains-get_or c.args.positive.now c.loop-operand.operand-index _
              c.loop-operand-test.true,
          own,
        )
      ];
    }
