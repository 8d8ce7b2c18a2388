use Rattle.std.proofs.Common.{◌<◌, ◌∙◌, ℕ, Bool, Option, ap, get_or, inl, map, subst, sym}
use Rattle.std.proofs.lemmas.List.Elements.{Contains-get_or}
use Rattle.std.specs.List.{All, Contains}
use Rattle.hv_bdd.specs.Nodes.{node_count}
use Rattle.hv_lines.proofs.Ready.{asked_exprs}
use Rattle.hv_lines.specs.Numbering.{expr_count}
use Rattle.hv_lines.specs.Queries.{asked_actions, operand_of}
use Rattle.hv_lines.specs.Shapes.{Askings}
use Rattle.hv_basic.specs.Cases.{lines_in, setting_in}
use Rattle.hv_basic.specs.Working.Deciding.{AreEnough}
use Rattle.hv_basic.specs.Working.Views.{question_of}
use Rattle.hv_basic.proofs.Querying.{acts_below_of, asks_question, query_is}
use Rattle.hv_basic.proofs.verdicts.decide_sets.Goals as goal

pub operands_of-requires : goal.operands_of-requires
operands_of-requires c =
    subst (λ (xs : Askings). All (λ a. a.0 < expr_count (lines_in c.args.case.now)) xs)
    (sym c.deref.ensures.value)
    (λ k d below.
    let a : ℕ × Bool = get_or c.args.question.now.positive.items k d in
    asked_exprs (lines_in c.args.case.now) c.requires.table
    c.requires.question.word c.requires.question.left c.requires.question.right
    (question_of c.args.question.now) c.requires.question.is a
    (inl (Contains-get_or c.args.question.now.positive.items k d below))
    )

pub actions_to_ask-requires : goal.actions_to_ask-requires
actions_to_ask-requires c = record {
  acts = acts_below_of (lines_in c.args.case.now) c.requires.table
      c.requires.question.word c.requires.question.left c.requires.question.right
      _ c.requires.question.is _ c.requires.question.is.sides;
  query = query_is (lines_in c.args.case.now) c.requires.table
      c.requires.question.word c.requires.question.left c.requires.question.right
      (question_of c.args.question.now) c.requires.question.is
      (node_count c.args.case.now.diagrams.now) c.args.case.now.nodes
      (record {
        positive = c.in_ok-query.field-0;
        negative = c.args.query.now.negative;
        action = c.args.query.now.action;
      })
      (c.in_ok-query.ensures ∙ ap (map (λ a. operand_of (lines_in c.args.case.now) a))
      c.deref.ensures.value)
      c.requires.negative;
}

pub decide_queries-requires : goal.decide_queries-requires
decide_queries-requires c = record {
  query = asks_question (lines_in c.args.case.now) c.requires.table
      c.requires.question.word c.requires.question.left c.requires.question.right
      (question_of c.args.question.now) c.requires.question.is
      (node_count c.args.case.now.diagrams.now) c.args.case.now.nodes _
      (c.in_ok-query.ensures ∙ ap (map (λ a. operand_of (lines_in c.args.case.now) a))
      c.deref.ensures.value)
      c.requires.negative c.args.case.now.task.now c.deref-2.result.now
      (subst (λ xs. (action : Option ℕ) → Contains xs action
      → Contains (asked_actions c.args.case.now.task.now (lines_in c.args.case.now)
      c.args.question.now.acts) action) (sym c.deref-2.ensures.value)
      c.in_ok-actions.ensures.among);
  enough = subst (λ xs. AreEnough (setting_in c.args.case.now) (lines_in c.args.case.now)
      (question_of c.args.question.now)
      (record {
        positive = c.in_ok-query.field-0;
        negative = c.args.query.now.negative;
        action = c.args.query.now.action;
      }) xs) (sym c.deref-2.ensures.value)
      c.in_ok-actions.ensures.enough;
}
