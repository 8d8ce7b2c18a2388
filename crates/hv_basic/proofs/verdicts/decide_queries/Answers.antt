use Rattle.std.proofs.Common.{◌∙◌, None, ap, length, subst}
use Rattle.std.proofs.lemmas.Bool.{iff_false}
use Rattle.hv_task.specs.Strips.{atoms}
use Rattle.hv_sets.specs.Query.{HasAnchor}
use Rattle.hv_bdd.specs.Nodes.{node_count}
use Rattle.hv_lines.specs.Queries.{count_of, duals_of, horns_of, twos_of}
use Rattle.hv_lines.specs.declared.formula_family.FormulaFamily.{FormulaFamily}
use Rattle.hv_lines.specs.declared.formula_family.FormulaFamily.TheVariants as F
use Rattle.hv_basic.specs.Cases.{lines_in, setting_in}
use Rattle.hv_basic.specs.Working.Deciding.{AreAllReady}
use Rattle.hv_basic.specs.Working.Views.{question_of}
use Rattle.hv_basic.proofs.Querying.{unoffered_listed, verdict_in}
use Rattle.hv_basic.proofs.Storing.{sets_over, sets_ready}
use Rattle.hv_basic.proofs.verdicts.decide_queries.Goals as goal

pub decide_clauses-requires-clause-over : goal.decide_clauses-requires-clause-over
decide_clauses-requires-clause-over c =
    sets_over (atoms c.args.case.now.task.now) (horns_of (lines_in c.args.case.now)) _
    (c.horns-sets.ensures ∙ c.args.case.now.stored.horns)

pub decide_clauses-requires-clause-ready : goal.decide_clauses-requires-clause-ready
decide_clauses-requires-clause-ready c =
    sets_ready (atoms c.args.case.now.task.now) (horns_of (lines_in c.args.case.now)) _
    (c.horns-sets.ensures ∙ c.args.case.now.stored.horns) _ _ _ _
    (ap (λ f. count_of (lines_in c.args.case.now) f (node_count c.args.case.now.diagrams.now))
    c.in-Horn.is) c.requires.query.ready

pub returns-in_ok-verdict-in-Horn-clause-answer : goal.returns-in_ok-verdict-in-Horn-clause-answer
returns-in_ok-verdict-in-Horn-clause-answer c =
    verdict_in (setting_in c.args.case.now) (lines_in c.args.case.now)
    (question_of c.args.question.now) F.Horn
    c.args.query.now c.args.actions.now c.in_ok-verdict-in-Horn.verdict
    c.in-Horn.is tt c.requires.enough
    (c.in_ok-verdict-in-Horn.ensures.answer (horns_of (lines_in c.args.case.now))
    (c.horns-sets.ensures ∙ c.args.case.now.stored.horns))

pub decide_clauses-requires-in-Dual-clause-over : goal.decide_clauses-requires-in-Dual-clause-over
decide_clauses-requires-in-Dual-clause-over c =
    sets_over (atoms c.args.case.now.task.now) (duals_of (lines_in c.args.case.now)) _
    (c.duals-sets.ensures ∙ c.args.case.now.stored.duals)

pub decide_clauses-requires-in-Dual-clause-ready : goal.decide_clauses-requires-in-Dual-clause-ready
decide_clauses-requires-in-Dual-clause-ready c =
    sets_ready (atoms c.args.case.now.task.now) (duals_of (lines_in c.args.case.now)) _
    (c.duals-sets.ensures ∙ c.args.case.now.stored.duals) _ _ _ _
    (ap (λ f. count_of (lines_in c.args.case.now) f (node_count c.args.case.now.diagrams.now))
    c.in-Dual.is) c.requires.query.ready

pub returns-in_ok-verdict-in-Dual-clause-answer : goal.returns-in_ok-verdict-in-Dual-clause-answer
returns-in_ok-verdict-in-Dual-clause-answer c =
    verdict_in (setting_in c.args.case.now) (lines_in c.args.case.now)
    (question_of c.args.question.now) F.Dual
    c.args.query.now c.args.actions.now c.in_ok-verdict-in-Dual.verdict
    c.in-Dual.is tt c.requires.enough
    (c.in_ok-verdict-in-Dual.ensures.answer (duals_of (lines_in c.args.case.now))
    (c.duals-sets.ensures ∙ c.args.case.now.stored.duals))

pub decide_clauses-requires-in-Two-clause-over : goal.decide_clauses-requires-in-Two-clause-over
decide_clauses-requires-in-Two-clause-over c =
    sets_over (atoms c.args.case.now.task.now) (twos_of (lines_in c.args.case.now)) _
    (c.twos-sets.ensures ∙ c.args.case.now.stored.twos)

pub decide_clauses-requires-in-Two-clause-ready : goal.decide_clauses-requires-in-Two-clause-ready
decide_clauses-requires-in-Two-clause-ready c =
    sets_ready (atoms c.args.case.now.task.now) (twos_of (lines_in c.args.case.now)) _
    (c.twos-sets.ensures ∙ c.args.case.now.stored.twos) _ _ _ _
    (ap (λ f. count_of (lines_in c.args.case.now) f (node_count c.args.case.now.diagrams.now))
    c.in-Two.is) c.requires.query.ready

pub returns-in_ok-verdict-in-Two-clause-answer : goal.returns-in_ok-verdict-in-Two-clause-answer
returns-in_ok-verdict-in-Two-clause-answer c =
    verdict_in (setting_in c.args.case.now) (lines_in c.args.case.now)
    (question_of c.args.question.now) F.Two
    c.args.query.now c.args.actions.now c.in_ok-verdict-in-Two.verdict
    c.in-Two.is tt c.requires.enough
    (c.in_ok-verdict-in-Two.ensures.answer (twos_of (lines_in c.args.case.now))
    (c.twos-sets.ensures ∙ c.args.case.now.stored.twos))

pub decide_listed-requires-clause-ready : goal.decide_listed-requires-clause-ready
decide_listed-requires-clause-ready c =
    subst (λ (f : FormulaFamily). AreAllReady
    (count_of (lines_in c.args.case.now) f (node_count c.args.case.now.diagrams.now))
    (length c.args.case.now.task.now.actions) c.args.query.now c.args.actions.now) c.in-States.is
    c.requires.query.ready

pub returns-in_ok-verdict-in-States-clause-answer :
    goal.returns-in_ok-verdict-in-States-clause-answer
returns-in_ok-verdict-in-States-clause-answer c =
    verdict_in (setting_in c.args.case.now) (lines_in c.args.case.now)
    (question_of c.args.question.now) F.States
    c.args.query.now c.args.actions.now c.in_ok-verdict-in-States.verdict
    c.in-States.is
    (subst HasAnchor (c.requires.query.is None)
    (c.has_anchor.ensures.0 c.if-not-has_anchor.false)) c.requires.enough
    c.in_ok-verdict-in-States.ensures.answer

pub returns-then-not-has_anchor-clause-answer : goal.returns-then-not-has_anchor-clause-answer
returns-then-not-has_anchor-clause-answer c =
    unoffered_listed (lines_in c.args.case.now) (question_of c.args.question.now) c.args.query.now
    (c.requires.query.is None) c.in-States.is
    (iff_false c.has_anchor.ensures c.if-not-has_anchor.true)

pub walk_nodes-requires : goal.walk_nodes-requires
walk_nodes-requires c = record {
  ready = subst (λ (f : FormulaFamily). AreAllReady
      (count_of (lines_in c.args.case.now) f (node_count c.args.case.now.diagrams.now))
      (length c.args.case.now.task.now.actions) c.args.query.now c.args.actions.now) c.in-Node.is
      c.requires.query.ready;
}

pub returns-in_ok-verdict-in-Node-clause-answer : goal.returns-in_ok-verdict-in-Node-clause-answer
returns-in_ok-verdict-in-Node-clause-answer c =
    verdict_in (setting_in c.args.case.now) (lines_in c.args.case.now)
    (question_of c.args.question.now) F.Node
    c.args.query.now c.args.actions.now c.in_ok-verdict-in-Node.verdict
    c.in-Node.is
    tt c.requires.enough c.in_ok-verdict-in-Node.ensures.answer
