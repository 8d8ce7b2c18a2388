use Rattle.std.proofs.Common.{◌∙◌, ◌∷◌, ap, arith, refl, subst, sym}
use Rattle.hv_lines.specs.Good.{IsGood}
use Rattle.hv_lines.specs.Numbering.{MayFollow}
use Rattle.hv_lines.specs.Order as O
use Rattle.hv_lines.specs.Setting.{setting_of}
use Rattle.hv_lines.proofs.Reasons.{good_next}
use Rattle.hv_basic.proofs.KeptLeaves.{shared_more}
use Rattle.hv_checker.specs.Working.Judge.{JudgeState}
use Rattle.hv_checker.proofs.Judges.{judge_more, judge_same}
use Rattle.hv_checker.proofs.GoodLines.{line_stored}
use Rattle.hv_checker.proofs.piece_judge.Judge.keep_set.Goals as goal

pub add_line-requires : goal.add_line-requires
add_line-requires c =
    line_stored (setting_of c.self.inside.task.now c.self.inside.diagrams.now c.self.inside.budget)
    c.self.inside.table.lines c.args.line
    (subst (λ (b : JudgeState). IsGood b.setting b.lines c.args.line) (sym c.self.view_is)
    c.requires)

pub push-requires : goal.push-requires
push-requires c =
    subst (λ ls. MayFollow ls c.args.line) (sym c.in_ok-reserve.ensures.lines)
    (good_next (setting_of c.self.inside.task.now c.self.inside.diagrams.now c.self.inside.budget)
    c.self.inside.table.lines c.args.line
    (subst (λ (b : JudgeState). IsGood b.setting b.lines c.args.line) (sym c.self.view_is)
    c.requires))

pub invariant_of-self : goal.invariant_of-self
invariant_of-self c =
    judge_same (setting_of c.self.inside.task.now c.self.inside.diagrams.now c.self.inside.budget)
    c.self.inside.table.lines c.reserve.new.self.lines c.self.inside.store c.self.inside.store
    c.self.inside.shared c.self.invariant c.reserve.ensures.lines refl

pub invariant_of-self-in_err-add_line : goal.invariant_of-self-in_err-add_line
invariant_of-self-in_err-add_line c =
    judge_same (setting_of c.self.inside.task.now c.self.inside.diagrams.now c.self.inside.budget)
    c.self.inside.table.lines c.reserve.new.self.lines c.self.inside.store c.add_line.new.self
    c.self.inside.shared c.self.invariant c.in_ok-reserve.ensures.lines
    c.in_err-add_line.ensures.err

pub invariant_of-self-in_err-push : goal.invariant_of-self-in_err-push
invariant_of-self-in_err-push c = absurd
    (omega (arith, c.in_ok-reserve.ensures.room, c.in_err-push.ensures.full))

pub invariant_of-self-2 : goal.invariant_of-self-2
invariant_of-self-2 c =
    let setting = setting_of c.self.inside.task.now c.self.inside.diagrams.now
    c.self.inside.budget in
    let good : IsGood setting c.self.inside.table.lines c.args.line =
    subst (λ (b : JudgeState). IsGood b.setting b.lines c.args.line) (sym c.self.view_is)
    c.requires in
    judge_more setting c.self.inside.table.lines c.push.new.self.lines c.self.inside.store
    c.add_line.new.self c.self.inside.shared c.self.invariant c.args.line
    (c.in_ok-push.ensures.ok ∙ ap (λ ls. c.args.line ∷ ls) c.in_ok-reserve.ensures.lines) good
    (c.in_ok-add_line.ensures.stands c.self.inside.table.lines c.self.invariant.stored
    (good O.Number)) (shared_more c.args.line c.self.inside.table.lines c.self.inside.shared)

pub returns-in_err-push-clause-err : goal.returns-in_err-push-clause-err
returns-in_err-push-clause-err c = absurd
    (omega (arith, c.in_ok-reserve.ensures.room, c.in_err-push.ensures.full))

pub returns-clause-ok : goal.returns-clause-ok
returns-clause-ok c =
    c.in_ok-push.ensures.ok ∙ ap (λ ls. c.args.line ∷ ls)
    (c.in_ok-reserve.ensures.lines ∙ ap (λ (b : JudgeState). b.lines) c.self.view_is)
