-- The query of a question, as it is built from the stores.
use Rattle.std.proofs.Common.{◌≡◌, ℕ, ◌+◌, ◌<◌, ◌∙◌, Bool, List, [], ◌∷◌, ◌++◌, Option, Some, None}
use Rattle.std.proofs.Common.{length, map, get_or, take, sym, ap, ap₂, subst}
use Rattle.std.proofs.lemmas.List.{map_more}
use Rattle.std.proofs.lemmas.Option.{get_or_from_slice_get, slice_get_within}
use Rattle.std.specs.List.{Contains, slice_get}
use Rattle.std.specs.Option.{IfSome}
use Rattle.hv_task.specs.Strips.{Strips}
use Rattle.hv_sets.specs.Query.{HasAnchor, IsReady}
use Rattle.hv_sets.specs.declared.operand.Which.{Which}
use Rattle.hv_sets.specs.declared.operand.Operand.{Operand}
use Rattle.hv_sets.specs.declared.query.Query.{Query}
use Rattle.hv_lines.specs.Numbering.{IsTable, acts_count, expr_count}
use Rattle.hv_lines.specs.Queries.{IsOffered, NamesNodes, asked_actions, operand_of, queries_of}
use Rattle.hv_lines.specs.Queries.{count_of, query_of, which_at}
use Rattle.hv_lines.specs.Setting.{Setting}
use Rattle.hv_lines.specs.Shapes.{Askings, HasSides, IsQuestion, QuestionState}
use Rattle.hv_lines.specs.Verdicts.{IsVerdictOfSets}
use Rattle.hv_lines.specs.declared.formula_family.FormulaFamily.{FormulaFamily}
use Rattle.hv_lines.specs.declared.formula_family.FormulaFamily.TheVariants as F
use Rattle.hv_lines.specs.declared.line.Line.{Line}
use Rattle.hv_lines.specs.declared.line.Word.{Word}
use Rattle.hv_lines.specs.declared.verdict.Verdict.{Verdict}
use Rattle.hv_lines.specs.declared.verdict.Verdict.TheVariants as V
use Rattle.hv_lines.proofs.Laws.{refers_below}
use Rattle.hv_lines.proofs.Ready.{asked_below, question_ready}
use Rattle.hv_basic.specs.Working.Asked.{AreOperands, with_action}
use Rattle.hv_basic.specs.Working.Deciding.{AreAllReady, AreEnough, IsDecidedOver}
use Rattle.hv_basic.specs.Working.Deciding.{IsQueryFor}
use Rattle.hv_basic.proofs.Membership.{step_refers}

-- one operand more
pub operands_more : (lines : List Line) (asked : Askings) (place : ℕ) (d : ℕ × Bool)
    (old new : List Operand) (which : Which) → place < length asked
    → AreOperands lines (take place asked) old
    → which ≡ which_at lines (get_or asked place d).0
    → new ≡ old ++ record {
      which = which;
      id = (get_or asked place d).0;
      after = (get_or asked place
          d).1;
    } ∷ []
    → AreOperands lines (take (place + 1) asked) new
operands_more lines asked place d old new which within are is added =
    let x = get_or asked place d in
    added ∙ (ap₂ (λ (os : List Operand) (w : Which). os ++ record {
      which = w;
      id = x.0;
      after = x.1;
    }
    ∷ []) are is ∙ sym (map_more (λ a. operand_of lines a) asked place d within))

module _ (lines : List Line) (table : IsTable lines) (word : Word) (left right : ℕ) (q :
    QuestionState)
    (is : IsQuestion lines word left right q) where
  pub acts_below_of : (acts : Option ℕ) → HasSides lines word left right acts
      → IfSome acts (λ a. a < acts_count lines)
  acts_below_of None sides = tt
  acts_below_of (Some acts) sides =
      (step_refers (acts_count lines) (expr_count lines) word sides.3.0 (sides.1, acts)
      (sym sides.3.2)
      (refers_below lines sides.0 sides.3.0 table sides.3.1)).1

  module _ (nodes : ℕ) (known : NamesNodes nodes lines) (query : Query)
      (positive : AreOperands lines q.positive query.positive)
      (negative : AreOperands lines q.negative query.negative) where
    pub query_is : (action : Option ℕ) → with_action query action ≡ query_of lines q action
    query_is action = λ i. record {
      positive = positive i;
      negative = negative i;
      action = action;
    }

    pub are_ready : (task : Strips) (actions : List (Option ℕ))
        → ((action : Option ℕ) → Contains actions action
        → Contains (asked_actions task lines q.acts) action)
        → AreAllReady (count_of lines q.family nodes) (length task.actions) query actions
    are_ready task actions among = record {
      ready = λ place action at. subst (IsReady (count_of lines q.family nodes))
          (sym (query_is action))
          (question_ready lines table word left right q is nodes known task action
          (there place action at));
      below = λ place action at. asked_below task lines q.acts action (there place action at);
    }
      where
        there : (place : ℕ) (action : Option ℕ) → slice_get actions place ≡ Some action
            → Contains (asked_actions task lines q.acts) action
        there place action at =
            among action (
              place,
              slice_get_within actions place action at,
              get_or_from_slice_get actions place action action at,
            )

    -- the query asks what the question asks
    pub asks_question : (task : Strips) (actions : List (Option ℕ))
        → ((action : Option ℕ) → Contains actions action
        → Contains (asked_actions task lines q.acts) action)
        → IsQueryFor task nodes lines q query actions
    asks_question task actions among =
        record { is = query_is; ready = are_ready task actions among }

-- all actions of the question are enough
pub all_enough : (setting : Setting) (lines : List Line) (q : QuestionState) (query : Query)
    (actions : List (Option ℕ))
    → ((action : Option ℕ) → with_action query action ≡ query_of lines q action)
    → actions ≡ asked_actions setting.task lines q.acts → AreEnough setting lines q query actions
all_enough setting lines q query actions is all verdict =
    subst (λ queries. IsDecidedOver setting lines q.family queries verdict)
    ((λ i. map (λ a. is a i) actions) ∙ ap (map (query_of lines q)) all)

-- the question, were it of this family, is offered
abbrev pub IsOfferedIn : List Line → QuestionState → FormulaFamily → Type 0
IsOfferedIn lines q family = IsOffered lines (record
    { family = family; positive = q.positive; negative = q.negative; acts = q.acts })

-- over explicit sets that goes by the query
pub unoffered_listed : (lines : List Line) (q : QuestionState) (query : Query)
    → with_action query None ≡ query_of lines q None → q.family ≡ F.States
    → (HasAnchor query → ⊥) → IsOffered lines q → ⊥
unoffered_listed lines q query same is none offered = none
    (subst HasAnchor (sym same) (subst (IsOfferedIn lines q) is offered))

-- a verdict by the queries is one of the question
verdict_by : (setting : Setting) (lines : List Line) (q : QuestionState) (verdict : Verdict)
    → IsOffered lines q
    → IsDecidedOver setting lines q.family (queries_of setting.task lines q) verdict
    → IsVerdictOfSets setting lines q verdict
verdict_by setting lines q V.True offered decided = (offered, decided)
verdict_by setting lines q V.Over offered decided = (offered, decided)
verdict_by setting lines q (V.False found) offered decided = (offered, decided)
verdict_by setting lines q V.NotOffered offered decided = absurd decided

-- the same by queries that are enough, by the family
pub verdict_in : (setting : Setting) (lines : List Line) (q : QuestionState) (family :
    FormulaFamily)
    (query : Query) (actions : List (Option ℕ)) (verdict : Verdict)
    → q.family ≡ family → IsOfferedIn lines q family → AreEnough setting lines q query actions
    → IsDecidedOver setting lines family (map (with_action query) actions) verdict
    → IsVerdictOfSets setting lines q verdict
verdict_in setting lines q family query actions verdict is offered enough decided =
    verdict_by setting lines q verdict (subst (IsOfferedIn lines q) (sym is) offered)
    (enough verdict
    (subst (λ f. IsDecidedOver setting lines f (map (with_action query) actions) verdict) (sym is)
    decided))
