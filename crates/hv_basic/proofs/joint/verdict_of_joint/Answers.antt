use Rattle.std.proofs.Common.{◌∙◌, Some, ap, refl, subst}
use Rattle.hv_lines.specs.declared.line.Expr.TheVariants as E
use Rattle.hv_basic.specs.Cases.{lines_in, setting_in}
use Rattle.hv_basic.specs.Sharing.{IsJointFor}
use Rattle.hv_basic.specs.declared.joint.JointFormula.TheVariants as J
use Rattle.hv_basic.proofs.JointVerdicts.{joint_gives}
use Rattle.hv_basic.proofs.Mixing.{dual_found, found_is, found_within, horn_found, two_found}
use Rattle.hv_basic.proofs.joint.verdict_of_joint.Goals as goal

pub number_of-requires : goal.number_of-requires
number_of-requires c =
    let found = (horn_found c.args.case.now.task.now (lines_in c.args.case.now)
    c.args.case.now.store.now
    c.args.case.now.stored c.expr.ensures.table c.args.claim.right _
    (c.expr.ensures.says ∙ ap Some c.in-Horn-Horn.is-1)) in (found.number, found.named)

pub get-right-requires : goal.get-right-requires
get-right-requires c =
    found_within _ _ c.args.claim.right _ (horn_found c.args.case.now.task.now (lines_in
    c.args.case.now) c.args.case.now.store.now
    c.args.case.now.stored c.expr.ensures.table c.args.claim.right _
    (c.expr.ensures.says ∙ ap Some c.in-Horn-Horn.is-1))
    _ c.horns.ensures c.number_of.result c.number_of.ensures

pub number_of-requires-in-Dual-Dual : goal.number_of-requires-in-Dual-Dual
number_of-requires-in-Dual-Dual c =
    let found = (dual_found c.args.case.now.task.now (lines_in c.args.case.now)
    c.args.case.now.store.now
    c.args.case.now.stored c.expr.ensures.table c.args.claim.right _
    (c.expr.ensures.says ∙ ap Some c.in-Dual-Dual.is-1)) in (found.number, found.named)

pub get-right-requires-in-Dual-Dual : goal.get-right-requires-in-Dual-Dual
get-right-requires-in-Dual-Dual c =
    found_within _ _ c.args.claim.right _ (dual_found c.args.case.now.task.now (lines_in
    c.args.case.now) c.args.case.now.store.now
    c.args.case.now.stored c.expr.ensures.table c.args.claim.right _
    (c.expr.ensures.says ∙ ap Some c.in-Dual-Dual.is-1))
    _ c.duals.ensures c.number_of-in-Dual-Dual.result c.number_of-in-Dual-Dual.ensures

pub number_of-requires-in-Two-Two : goal.number_of-requires-in-Two-Two
number_of-requires-in-Two-Two c =
    let found = (two_found c.args.case.now.task.now (lines_in c.args.case.now)
    c.args.case.now.store.now
    c.args.case.now.stored c.expr.ensures.table c.args.claim.right _
    (c.expr.ensures.says ∙ ap Some c.in-Two-Two.is-1)) in (found.number, found.named)

pub get-right-requires-in-Two-Two : goal.get-right-requires-in-Two-Two
get-right-requires-in-Two-Two c =
    found_within _ _ c.args.claim.right _ (two_found c.args.case.now.task.now (lines_in
    c.args.case.now) c.args.case.now.store.now
    c.args.case.now.stored c.expr.ensures.table c.args.claim.right _
    (c.expr.ensures.says ∙ ap Some c.in-Two-Two.is-1))
    _ c.twos.ensures c.number_of-in-Two-Two.result c.number_of-in-Two-Two.ensures

pub returns-in-Horn-Horn : goal.returns-in-Horn-Horn
returns-in-Horn-Horn c =
    joint_gives (setting_in c.args.case.now) (lines_in c.args.case.now) c.args.claim.left
    c.args.claim.right (J.Horn c.in-Horn-Horn.left)
    (subst (IsJointFor (lines_in c.args.case.now) c.args.claim.left) c.in-Horn-Horn.is-0
    c.requires.joint)
    (E.Horn c.in-Horn-Horn.field-0-1) c.in-Horn-Horn.field-0-1 (c.expr.ensures.says ∙ ap Some
    c.in-Horn-Horn.is-1) refl refl
    c.args.claim.word c.get-right.result.now c.verdict_within.result c.requires.word
    (found_is _ _ c.args.claim.right _ (horn_found c.args.case.now.task.now (lines_in
    c.args.case.now) c.args.case.now.store.now
    c.args.case.now.stored c.expr.ensures.table c.args.claim.right _
    (c.expr.ensures.says ∙ ap Some c.in-Horn-Horn.is-1))
    _ c.horns.ensures c.number_of.result c.number_of.ensures
    c.get-right.result.now c.get-right.ensures)
    c.verdict_within.ensures

pub returns-in-Dual-Dual : goal.returns-in-Dual-Dual
returns-in-Dual-Dual c =
    joint_gives (setting_in c.args.case.now) (lines_in c.args.case.now) c.args.claim.left
    c.args.claim.right (J.Dual c.in-Dual-Dual.left)
    (subst (IsJointFor (lines_in c.args.case.now) c.args.claim.left) c.in-Dual-Dual.is-0
    c.requires.joint)
    (E.Dual c.in-Dual-Dual.field-0-1) c.in-Dual-Dual.field-0-1 (c.expr.ensures.says ∙ ap Some
    c.in-Dual-Dual.is-1) refl refl
    c.args.claim.word c.get-right-in-Dual-Dual.result.now c.verdict_within-in-Dual-Dual.result
    c.requires.word
    (found_is _ _ c.args.claim.right _ (dual_found c.args.case.now.task.now (lines_in
    c.args.case.now) c.args.case.now.store.now
    c.args.case.now.stored c.expr.ensures.table c.args.claim.right _
    (c.expr.ensures.says ∙ ap Some c.in-Dual-Dual.is-1))
    _ c.duals.ensures c.number_of-in-Dual-Dual.result c.number_of-in-Dual-Dual.ensures
    c.get-right-in-Dual-Dual.result.now c.get-right-in-Dual-Dual.ensures)
    c.verdict_within-in-Dual-Dual.ensures

pub returns-in-Two-Two : goal.returns-in-Two-Two
returns-in-Two-Two c =
    joint_gives (setting_in c.args.case.now) (lines_in c.args.case.now) c.args.claim.left
    c.args.claim.right (J.Two c.in-Two-Two.left)
    (subst (IsJointFor (lines_in c.args.case.now) c.args.claim.left) c.in-Two-Two.is-0
    c.requires.joint)
    (E.Two c.in-Two-Two.field-0-1) c.in-Two-Two.field-0-1 (c.expr.ensures.says ∙ ap Some
    c.in-Two-Two.is-1) refl refl
    c.args.claim.word c.get-right-in-Two-Two.result.now c.verdict_within-in-Two-Two.result
    c.requires.word
    (found_is _ _ c.args.claim.right _ (two_found c.args.case.now.task.now (lines_in
    c.args.case.now) c.args.case.now.store.now
    c.args.case.now.stored c.expr.ensures.table c.args.claim.right _
    (c.expr.ensures.says ∙ ap Some c.in-Two-Two.is-1))
    _ c.twos.ensures c.number_of-in-Two-Two.result c.number_of-in-Two-Two.ensures
    c.get-right-in-Two-Two.result.now c.get-right-in-Two-Two.ensures)
    c.verdict_within-in-Two-Two.ensures
