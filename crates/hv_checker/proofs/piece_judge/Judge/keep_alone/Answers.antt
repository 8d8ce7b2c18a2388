use Rattle.std.proofs.Common.{◌∙◌, ◌∷◌, ap, refl, subst, sym}
use Rattle.hv_lines.specs.Good.{IsGood}
use Rattle.hv_lines.specs.Order as O
use Rattle.hv_lines.specs.Setting.{setting_of}
use Rattle.hv_lines.proofs.Reasons.{good_next}
use Rattle.hv_basic.proofs.KeptLeaves.{shared_more}
use Rattle.hv_checker.specs.Working.Judge.{JudgeState}
use Rattle.hv_checker.proofs.Judges.{judge_more, judge_same, stored_alone}
use Rattle.hv_checker.proofs.piece_judge.Judge.keep_alone.Goals as goal

pub push-requires : goal.push-requires
push-requires c =
    good_next (setting_of c.self.inside.task.now c.self.inside.diagrams.now c.self.inside.budget)
    c.self.inside.table.lines c.args.line
    (subst (λ (b : JudgeState). IsGood b.setting b.lines c.args.line) (sym c.self.view_is)
    c.requires.good)

pub invariant_of-self : goal.invariant_of-self
invariant_of-self c =
    judge_same (setting_of c.self.inside.task.now c.self.inside.diagrams.now c.self.inside.budget)
    c.self.inside.table.lines c.push.new.self.lines c.self.inside.store c.self.inside.store
    c.self.inside.shared c.self.invariant c.in_err-push.ensures.err refl

pub invariant_of-self-2 : goal.invariant_of-self-2
invariant_of-self-2 c =
    let setting = setting_of c.self.inside.task.now c.self.inside.diagrams.now
    c.self.inside.budget in
    let good : IsGood setting c.self.inside.table.lines c.args.line =
    subst (λ (b : JudgeState). IsGood b.setting b.lines c.args.line) (sym c.self.view_is)
    c.requires.good in
    judge_more setting c.self.inside.table.lines c.push.new.self.lines c.self.inside.store
    c.self.inside.store c.self.inside.shared c.self.invariant c.args.line
    c.in_ok-push.ensures.ok good
    (stored_alone c.self.inside.task.now c.self.inside.table.lines c.self.inside.store c.args.line
    c.requires.no_set c.self.invariant.stored (good O.Number))
    (shared_more c.args.line c.self.inside.table.lines c.self.inside.shared)

pub returns-clause-ok : goal.returns-clause-ok
returns-clause-ok c =
    c.in_ok-push.ensures.ok ∙ ap (λ (b : JudgeState). c.args.line ∷ b.lines) c.self.view_is
