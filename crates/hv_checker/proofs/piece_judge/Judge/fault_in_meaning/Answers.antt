use Rattle.std.proofs.Common.{◌↔◌, IsTrue, subst, sym}
use Rattle.hv_task.specs.State.{AreBelow}
use Rattle.hv_lines.specs.Good.{IsRuleWord}
use Rattle.hv_lines.specs.Numbering.{RefersBack, SpeaksBelow, acts_count, expr_count, known_count}
use Rattle.hv_lines.specs.Rules.{Fits}
use Rattle.hv_checker.proofs.Faults.{fault_of_basic, fault_of_rule, good_acts, good_expr, good_rule}
use Rattle.hv_checker.proofs.Told.{untold}
use Rattle.hv_checker.proofs.piece_judge.Judge.fault_in_meaning.Goals as goal

pub returns-in-Acts-clause-fault : goal.returns-in-Acts-clause-fault
returns-in-Acts-clause-fault c =
    good_acts c.args.self.now.setting c.args.self.now.lines c.args.line.now _ _ c.in-Acts.is
    c.requires.formed

pub returns-in-Expr-clause-fault : goal.returns-in-Expr-clause-fault
returns-in-Expr-clause-fault c =
    good_expr c.args.self.now.setting c.args.self.now.lines c.args.line.now _ _ c.in-Expr.is
    c.requires.formed

pub rule_fits-requires-clause-statement : goal.rule_fits-requires-clause-statement
rule_fits-requires-clause-statement c =
    subst (λ lines. SpeaksBelow (acts_count lines) (expr_count lines) c.in-Known.statement)
    (sym c.table.ensures.lines)
    (subst (RefersBack c.args.self.now.lines) c.in-Known.is c.requires.back).0

pub rule_fits-requires-clause-premises : goal.rule_fits-requires-clause-premises
rule_fits-requires-clause-premises c =
    subst (λ lines. AreBelow (known_count lines) c.in-Known.premises) (sym c.table.ensures.lines)
    (subst (RefersBack c.args.self.now.lines) c.in-Known.is c.requires.back).1

pub returns-then-not-is_rule-clause-fault : goal.returns-then-not-is_rule-clause-fault
returns-then-not-is_rule-clause-fault c =
    fault_of_basic c.args.self.now.setting c.args.self.now.lines c.args.line.now _ _
    c.in-Known.word _ c.in-Known.is c.requires.formed
    (untold c.is_rule.result (IsRuleWord c.in-Known.word) c.is_rule.ensures c.if-not-is_rule.true)
    c.in_ok-fault-in-Known.fault c.in_ok-fault-in-Known.ensures.fault

pub returns-then-not-rule_fits-clause-fault : goal.returns-then-not-rule_fits-clause-fault
returns-then-not-rule_fits-clause-fault c =
    fault_of_rule c.args.self.now.setting c.args.self.now.lines c.args.line.now _
    c.in-Known.statement c.in-Known.word
    c.in-Known.premises c.in-Known.is c.requires.formed (c.is_rule.ensures.0 c.if-not-is_rule.false)
    (untold c.rule_fits.result (Fits c.args.self.now.lines c.in-Known.statement c.in-Known.word
    c.in-Known.premises)
    (subst (λ ls. IsTrue c.rule_fits.result
    ↔ Fits ls c.in-Known.statement c.in-Known.word c.in-Known.premises) c.table.ensures.lines
    c.rule_fits.ensures)
    c.if-not-rule_fits.true)

pub returns-else-not-rule_fits-clause-fault : goal.returns-else-not-rule_fits-clause-fault
returns-else-not-rule_fits-clause-fault c =
    good_rule c.args.self.now.setting c.args.self.now.lines c.args.line.now _
    c.in-Known.statement c.in-Known.word
    c.in-Known.premises c.in-Known.is c.requires.formed (c.is_rule.ensures.0 c.if-not-is_rule.false)
    (subst (λ ls. Fits ls c.in-Known.statement c.in-Known.word c.in-Known.premises)
    c.table.ensures.lines (c.rule_fits.ensures.0 c.if-not-rule_fits.false))
