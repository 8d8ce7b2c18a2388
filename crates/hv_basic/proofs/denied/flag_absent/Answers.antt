use Rattle.std.proofs.Common.{◌∙◌, [], get_or, inl, inr, subst, sym}
use Rattle.hv_task.specs.Strips.{atoms}
use Rattle.hv_lines.specs.Queries.{duals_of, has_of, horns_of, twos_of}
use Rattle.hv_lines.specs.declared.formula_family.FormulaFamily.TheVariants as F
use Rattle.hv_basic.specs.Cases.{lines_in, setting_in}
use Rattle.hv_basic.specs.Working.Denied.{IsAbsentFrom}
use Rattle.hv_basic.proofs.Denying.{absent_from}
use Rattle.hv_basic.proofs.denied.flag_absent.Goals as goal

pub returns-in-Horn-clause-absent : goal.returns-in-Horn-clause-absent
returns-in-Horn-clause-absent c = λ atom on.
    let lines = lines_in c.args.case.now in
    elim (c.flag_in.ensures.denied (atoms c.args.case.now.task.now) atom (horns_of lines)
    (c.horns.ensures ∙ c.args.case.now.stored.horns) on) [
      | inl was ↦ inl was
      | inr own ↦ inr (subst (λ f. IsAbsentFrom c.args.case.now.task.now
          (has_of (setting_in c.args.case.now) lines f) c.args.operand atom) (sym c.in-Horn.is)
          (absent_from c.args.case.now.task.now (has_of (setting_in c.args.case.now) lines F.Horn)
          c.args.operand c.in-Set.number (get_or (horns_of lines) c.in-Set.number []) atom
          c.if-operand.false c.in-Set.is (λ state held. held) own))
    ]

pub returns-in-Dual-clause-absent : goal.returns-in-Dual-clause-absent
returns-in-Dual-clause-absent c = λ atom on.
    let lines = lines_in c.args.case.now in
    elim (c.flag_in-in-Dual.ensures.denied (atoms c.args.case.now.task.now) atom (duals_of lines)
    (c.duals.ensures ∙ c.args.case.now.stored.duals) on) [
      | inl was ↦ inl was
      | inr own ↦ inr (subst (λ f. IsAbsentFrom c.args.case.now.task.now
          (has_of (setting_in c.args.case.now) lines f) c.args.operand atom) (sym c.in-Dual.is)
          (absent_from c.args.case.now.task.now (has_of (setting_in c.args.case.now) lines F.Dual)
          c.args.operand c.in-Set.number (get_or (duals_of lines) c.in-Set.number []) atom
          c.if-operand.false c.in-Set.is (λ state held. held) own))
    ]

pub returns-in-Two-clause-absent : goal.returns-in-Two-clause-absent
returns-in-Two-clause-absent c = λ atom on.
    let lines = lines_in c.args.case.now in
    elim (c.flag_in-in-Two.ensures.denied (atoms c.args.case.now.task.now) atom (twos_of lines)
    (c.twos.ensures ∙ c.args.case.now.stored.twos) on) [
      | inl was ↦ inl was
      | inr own ↦ inr (subst (λ f. IsAbsentFrom c.args.case.now.task.now
          (has_of (setting_in c.args.case.now) lines f) c.args.operand atom) (sym c.in-Two.is)
          (absent_from c.args.case.now.task.now (has_of (setting_in c.args.case.now) lines F.Two)
          c.args.operand c.in-Set.number (get_or (twos_of lines) c.in-Set.number []) atom
          c.if-operand.false c.in-Set.is (λ state held. held) own))
    ]
