-- Lines of basic statements about formulas of clauses: such a line is good where its statement is
-- true, and the formulas that it denies have no more clauses together than the budget. So are those
-- which say that a formula or its negation leads nowhere, misses the goal and holds the start.
use Rattle.std.proofs.Common.{◌≡◌, ℕ, ◌*◌, ◌<◌, ◌≤◌, ◌∙◌, ◌↔◌, ◌++◌, Bool, true, false, List, []}
use Rattle.std.proofs.Common.{◌∷◌, Option, Some, None, length, map, get_or, refl, sym, ap, subst}
use Rattle.std.proofs.Common.{inl, inr, arith}
use Rattle.std.proofs.lemmas.Bool.{both_ways, cases_Bool, false_from_ne_true}
use Rattle.std.proofs.lemmas.Option.{slice_get-map}
use Rattle.std.specs.List.{Contains, slice_get}
use Rattle.hv_task.specs.State.{successor}
use Rattle.hv_task.specs.Strips.{Strips, IsState, atoms, start_state}
use Rattle.hv_sets.specs.Cost.{choices_of, clauses_of}
use Rattle.hv_sets.specs.Query.{is_clash}
use Rattle.hv_sets.specs.Truth.{in_clauses}
use Rattle.hv_sets.specs.declared.literal.Literal.{Literal}
use Rattle.hv_sets.specs.declared.query.Query.{Query}
use Rattle.hv_bdd.specs.Nodes.{NodeList, no_nodes}
use Rattle.hv_lines.specs.DeadLines.{step_by, word_by}
use Rattle.hv_lines.specs.Drafts.{with_budget}
use Rattle.hv_lines.specs.Good.{IsBasicWord, IsGood, IsRuleWord}
use Rattle.hv_lines.specs.Working.DeadLines.{AreDeadEnd}
use Rattle.hv_lines.specs.Working.Good.{IsFormed}
use Rattle.hv_lines.specs.Literals.{IsFormula}
use Rattle.hv_lines.specs.Meaning.{IsAfter, IsBefore, IsTrueStatement, SetOfStates, acts_of}
use Rattle.hv_lines.specs.Numbering.{IsTable, expr_at, expr_count, known_count, statement_at}
use Rattle.hv_lines.specs.Pruning.{IsNoted, states_in}
use Rattle.hv_lines.specs.Queries.{IsOffered, PassesBudget, asked_actions, collected, has_of}
use Rattle.hv_lines.specs.Queries.{horn_in, operand_of, query_of, two_in, which_at}
use Rattle.hv_lines.specs.Setting.{Setting}
use Rattle.hv_lines.specs.Shapes.{Askings, IsLiteralOf, IsOfFamily, IsQuestion}
use Rattle.hv_lines.specs.Shapes.{OfSets, QuestionState, and_parts, asked_step, asks_sides_after}
use Rattle.hv_lines.specs.Shapes.{asks_step_after, family_of, or_parts}
use Rattle.hv_lines.specs.Spelling.{FitsDecimal, premises_of}
use Rattle.hv_lines.specs.Verdicts.{DecidesNothing, IsVerdict}
use Rattle.hv_lines.specs.declared.formula_family.FormulaFamily.{FormulaFamily}
use Rattle.hv_lines.specs.declared.formula_family.FormulaFamily.TheVariants as F
use Rattle.hv_lines.specs.declared.line.Constant.{Constant}
use Rattle.hv_lines.specs.declared.line.Constant.TheVariants as C
use Rattle.hv_lines.specs.declared.line.Expr.{Expr}
use Rattle.hv_lines.specs.declared.line.Expr.TheVariants as E
use Rattle.hv_lines.specs.declared.line.Line.{Line}
use Rattle.hv_lines.specs.declared.line.Line.TheVariants as L
use Rattle.hv_lines.specs.declared.line.Statement.TheVariants as T
use Rattle.hv_lines.specs.declared.line.Word.{Word}
use Rattle.hv_lines.specs.declared.line.Word.TheVariants as W
use Rattle.hv_lines.specs.declared.verdict.Verdict.TheVariants as V
use Rattle.hv_lines.proofs.Drafting.{formed_sub}
use Rattle.hv_lines.proofs.Elements.{got_in, got_mapped, head_in, tail_in}
use Rattle.hv_lines.proofs.Extended.{HasPrelude}
use Rattle.hv_lines.proofs.Judging.{good_basic}
use Rattle.hv_lines.proofs.Laws.{expr_below, set_in, set_out}
use Rattle.hv_lines.proofs.Named.{found_number, which_is}
use Rattle.hv_lines.proofs.PlainSides.{rises_none, rises_one, rises_two}
use Rattle.hv_lines.proofs.Shaped.{literal_from}
use Rattle.hv_lines.proofs.SignedSides.{AreAsked, AreSigned, Signed, both_signed, literal_signed}
use Rattle.hv_lines.proofs.SignedSides.{only, others_of, plain_signed, question_of, selves_of}
use Rattle.hv_lines.proofs.SignedSides.{step_question, still_question}
use Rattle.hv_lines.proofs.Untrue.{no_counterexample}

-- a line of a true statement is good, where it asks this, which is decided within the budget
pub good_true : (setting : Setting) (lines : List Line) → IsTable lines → (q : QuestionState)
    (id left right : ℕ) (word : Word)
    → IsFormed setting lines (L.Known id (T.Sub left right) word [])
    → IsBasicWord word → (IsRuleWord word → ⊥) → IsQuestion lines word left right q
    → IsOffered lines q
    → ((number : Option ℕ) → PassesBudget setting lines q.family (query_of lines q number) → ⊥)
    → IsTrueStatement setting.task setting.nodes lines (T.Sub left right)
    → IsGood setting lines (L.Known id (T.Sub left right) word [])
good_true setting lines table q id left right word formed basic no_rule is offered within claim =
    good_basic setting lines id (T.Sub left right) word [] formed (λ rule. absurd (no_rule rule))
    basic verdict
  where
    verdict : IsVerdict setting lines (T.Sub left right) word V.True
    verdict = (
      OfSets word q,
      (refl, is),
      (
        offered,
        λ place query at.
            let actions = asked_actions setting.task lines q.acts in
            let w = got_mapped (query_of lines q) (slice_get actions place) query
            (sym (slice_get-map (query_of lines q) actions place) ∙ at) in
            subst (DecidesNothing (PassesBudget setting lines q.family)
            (is_clash setting.task (has_of setting lines q.family)) (atoms setting.task)) w.2 (
              within w.0,
              λ state is_state.
                  false_from_ne_true (is_clash setting.task (has_of setting lines q.family)
                  (query_of lines q w.0) state)
                  (no_counterexample setting lines table word left right q is
                  formed.known.0.0.0 formed.known.0.0.1 claim w.0 (got_in actions place w.0 w.1)
                  state is_state),
            ),
      ),
    )

-- the step and its word

step_asked : (forwards : Bool) (set : ℕ)
    → asked_step (word_by forwards) (step_by forwards set) ≡ Some (set, 0)
step_asked true set = refl
step_asked false set = refl

no_parts : (forwards : Bool) (set : ℕ) → and_parts (step_by forwards set) ≡ None
no_parts true set = refl
no_parts false set = refl

basic_step : (forwards : Bool) → IsBasicWord (word_by forwards)
basic_step true = tt
basic_step false = tt

no_rule_step : (forwards : Bool) → IsRuleWord (word_by forwards) → ⊥
no_rule_step true rule = rule
no_rule_step false rule = rule

step_alone : (forwards : Bool) (left right : ℕ)
    → premises_of (T.Sub left right) (word_by forwards) ≡ Some 0
step_alone true left right = refl
step_alone false left right = refl

-- what is on the left of the claim that none of the states is a goal state
abbrev pub met : Bool → ℕ → Signed
met forwards set sign = only true 2 sign ++ only forwards set sign

pub second_in : {X : Type 0} (x y : X) → Contains (x ∷ y ∷ []) y
second_in x y = tail_in x (y ∷ []) y (head_in y [])

-- how many clauses each formula of a kind has, by its number
abbrev pub sizes_of : (Expr → List (List (List Literal))) → List Line → ℕ → ℕ
sizes_of formula_in lines number = length (get_or (collected formula_in lines) number [])

-- how many clauses the set has, where it is such a formula or a constant
abbrev pub clauses_at : Strips → (Expr → List (List (List Literal))) → List Line → ℕ → ℕ
clauses_at task formula_in lines set = clauses_of task (sizes_of formula_in lines)
    (which_at lines set)

-- the formula is one of these clauses, of this family: what it means, and what it costs
pub record IsClausal (task : Strips) (expr : Expr) (family : FormulaFamily)
    (clauses : List (List Literal)) : Type 0 where
  pub formula : IsFormula expr
  pub of_family : family_of expr ≡ Some family
  pub no_states : (states : List (List ℕ)) → expr ≡ E.States states → ⊥
  pub no_and : and_parts expr ≡ None
  pub no_or : or_parts expr ≡ None
  pub means : (lines : List Line) (set : ℕ) → IsTable lines → expr_at lines set ≡ Some expr
      → (state : List Bool) → states_in task lines set state ↔ (in_clauses clauses state ≡ true)
  pub offered : (lines : List Line) (positive negative : Askings) (acts : Option ℕ)
      → IsOffered lines (question_of family positive negative acts)
  pub formula_in : Expr → List (List (List Literal))
  pub size : (task : Strips) (lines : List Line) (set : ℕ) → expr_at lines set ≡ Some expr
      → clauses_at task formula_in lines set ≡ length clauses
  pub passes : (setting : Setting) (lines : List Line) (query : Query)
      → PassesBudget setting lines family query
      → setting.budget < choices_of setting.task (sizes_of formula_in lines) query.negative

pub horn_clausal : (task : Strips) (clauses : List (List Literal))
    → IsClausal task (E.Horn clauses) F.Horn clauses
horn_clausal task clauses = record {
  formula = tt;
  of_family = refl;
  no_states = λ states e. cc (e);
  no_and = refl;
  no_or = refl;
  means = λ lines set table at state. (
    set_out task (no_nodes (atoms task)) lines set (E.Horn clauses) table at state,
    set_in task (no_nodes (atoms task)) lines set (E.Horn clauses) table at state,
  );
  offered = λ lines positive negative acts. tt;
  formula_in = horn_in;
  size = λ own lines set at.
      ap (clauses_of own (sizes_of horn_in lines)) (which_is lines set (E.Horn clauses) at)
      ∙ ap length (found_number horn_in lines set (E.Horn clauses) clauses [] at refl).1;
  passes = λ setting lines query over. over;
}

pub two_clausal : (task : Strips) (clauses : List (List Literal))
    → IsClausal task (E.Two clauses) F.Two clauses
two_clausal task clauses = record {
  formula = tt;
  of_family = refl;
  no_states = λ states e. cc (e);
  no_and = refl;
  no_or = refl;
  means = λ lines set table at state. (
    set_out task (no_nodes (atoms task)) lines set (E.Two clauses) table at state,
    set_in task (no_nodes (atoms task)) lines set (E.Two clauses) table at state,
  );
  offered = λ lines positive negative acts. tt;
  formula_in = two_in;
  size = λ own lines set at.
      ap (clauses_of own (sizes_of two_in lines)) (which_is lines set (E.Two clauses) at)
      ∙ ap length (found_number two_in lines set (E.Two clauses) clauses [] at refl).1;
  passes = λ setting lines query over. over;
}

-- a constant is of each family
pub constant_signed : (family : FormulaFamily) (parts : Expr → Option (ℕ × ℕ)) (lines : List Line)
    (set : ℕ) (constant : Constant) → expr_at lines set ≡ Some (E.Constant constant)
    → parts (E.Constant constant) ≡ None → AreSigned family parts lines set (only true set)
constant_signed family parts lines set constant at none =
    plain_signed family parts lines set (E.Constant constant) at none (inl refl) (inr tt)

-- A formula of clauses, at its identifier.
module _ (task : Strips) (expr : Expr) (family : FormulaFamily) (clauses : List (List Literal))
    (clausal : IsClausal task expr family clauses) (lines : List Line) (set : ℕ)
    (at : expr_at lines set ≡ Some expr) where
  -- its literals: itself, and its negation

  module _ (table : IsTable lines) (state : List Bool) where
    pub literal_out : (sign : Bool) (leaf : ℕ) → IsLiteralOf lines leaf set sign
        → states_in task lines leaf state → in_clauses clauses state ≡ sign
    literal_out true leaf literal inside =
        (clausal.means lines set table at state).0
        (subst (λ l. states_in task lines l state) literal.0 inside)
    literal_out false leaf literal inside =
        false_from_ne_true (in_clauses clauses state) (λ all.
        set_out task (no_nodes (atoms task)) lines leaf (E.Not set) table literal.0 state inside
        ((clausal.means lines set table at state).1 all))

    pub literal_in : (sign : Bool) (leaf : ℕ) → IsLiteralOf lines leaf set sign
        → in_clauses clauses state ≡ sign → states_in task lines leaf state
    literal_in true leaf literal is =
        subst (λ l. states_in task lines l state) (sym literal.0)
        ((clausal.means lines set table at state).1 is)
    literal_in false leaf literal is =
        set_in task (no_nodes (atoms task)) lines leaf (E.Not set) table literal.0 state
        (λ inside. both_ways (in_clauses clauses state) is
        ((clausal.means lines set table at state).0 inside))

  -- where a line says that one is dead, this may be noted
  pub clausal_noted : (covered : SetOfStates) (sign : Bool) (leaf line : ℕ) → IsTable lines
      → IsLiteralOf lines leaf set sign → statement_at lines line ≡ Some (T.Dead leaf)
      → ((state : List Bool) → IsState task state → in_clauses clauses state ≡ sign
      → covered state)
      → IsNoted task covered lines (record { set = leaf; line = line })
  clausal_noted covered sign leaf line table literal says within = record {
    dead = record {
      literal = literal_from lines leaf set sign literal;
      says = says;
      few = λ inner states negates listed. absurd (denies_none sign literal inner negates states
          listed);
    };
    within = λ state is_state inside.
        within state is_state (literal_out table state sign leaf literal inside);
  }
    where
      denies_none : (way : Bool) → IsLiteralOf lines leaf set way → (inner : ℕ)
          → expr_at lines leaf ≡ Some (E.Not inner) → (states : List (List ℕ))
          → expr_at lines inner ≡ Some (E.States states) → ⊥
      denies_none true is inner negates states listed =
          let here = subst (λ l. expr_at lines l ≡ Some expr) (sym is.0) at in
          let same : expr ≡ E.Not inner = cc (here, negates) in
          subst IsFormula same clausal.formula
      denies_none false is inner negates states listed =
          let same : set ≡ inner = cc (is.0, negates) in
          let here = subst (λ l. expr_at lines l ≡ Some expr) same at in
          clausal.no_states states (cc (here, listed))

  -- what a question costs: the product of the numbers of clauses of what it denies
  module _ (setting : Setting) where
    abbrev product_at : Askings → ℕ
    product_at [] = 1
    product_at (a ∷ askings) =
        clauses_at setting.task clausal.formula_in lines a.0 * product_at askings

    choices_product : (askings : Askings)
        → choices_of setting.task (sizes_of clausal.formula_in lines)
        (map (λ a. operand_of lines a) askings) ≡ product_at askings
    choices_product [] = refl
    choices_product (a ∷ askings) =
        ap (λ n. clauses_at setting.task clausal.formula_in lines a.0 * n)
        (choices_product askings)

    -- the question is decided within the budget
    abbrev pub IsCheap : Askings → Type 0
    IsCheap negative = (positive : Askings) (acts : Option ℕ) (number : Option ℕ)
        → PassesBudget setting lines family
        (query_of lines (question_of family positive negative acts) number) → ⊥

    cheap_by : (negative : Askings) → product_at negative ≤ setting.budget → IsCheap negative
    cheap_by negative few positive acts number over =
        let past : setting.budget < choices_of setting.task (sizes_of clausal.formula_in lines)
        (map (λ a. operand_of lines a) negative) =
        clausal.passes setting lines
        (query_of lines (question_of family positive negative acts) number) over in
        omega (arith, past, few, choices_product negative)

    pub cheap_none : 0 < setting.budget → IsCheap []
    cheap_none some = cheap_by [] (omega (arith, some))

    module _ (enough : length clauses ≤ setting.budget) where
      pub cheap_set : (after : Bool) → IsCheap ((set, after) ∷ [])
      cheap_set after = cheap_by ((set, after) ∷ [])
          (omega (arith, enough, clausal.size setting.task lines set at))

      -- beside the empty set
      module _ (empty : expr_at lines 0 ≡ Some (E.Constant C.Empty)) where
        one : clauses_at setting.task clausal.formula_in lines 0 ≡ 1
        one = ap (clauses_of setting.task (sizes_of clausal.formula_in lines))
            (which_is lines 0 (E.Constant C.Empty) empty)

        pub cheap_empty : 0 < setting.budget → (after : Bool) → IsCheap ((0, after) ∷ [])
        cheap_empty some after = cheap_by ((0, after) ∷ []) (omega (arith, some, one))

        pub cheap_beside : (after : Bool) → IsCheap ((0, after) ∷ (set, after) ∷ [])
        cheap_beside after =
            cheap_by ((0, after) ∷ (set, after) ∷ [])
            (omega (
              arith,
              enough,
              ap (λ n. n * (clauses_at setting.task clausal.formula_in lines set * 1)) one,
              clausal.size setting.task lines set at,
            ))

  -- Claims about such a literal, after lines that begin as every draft does.
  module _ (table : IsTable lines) (begun : HasPrelude lines) (dead : ℕ) (two_before : 2 < set)
    where
      abbrev nodes : NodeList
      nodes = no_nodes (atoms task)

      of_family : IsOfFamily lines family set
      of_family = (expr, at, clausal.of_family)

      goal_asked : (way : Bool) → AreAsked family lines
          (selves_of true false false (met way set) (only true 0))
          (others_of false false false (met way set) (only true 0))
      goal_asked true = record {
        selves = rises_two false 2 set two_before;
        others = rises_one false 0;
        few = omega arith;
        some = ((set, false), inl (second_in (2, false) (set, false)), of_family);
      }
      goal_asked false = record {
        selves = rises_one false 2;
        others = rises_two false 0 set (omega (arith, two_before));
        few = omega arith;
        some = ((set, false), inr (second_in (0, false) (set, false)), of_family);
      }

      start_asked : (way : Bool) → AreAsked family lines
          (selves_of true false false (only true 1) (only way set))
          (others_of false false false (only true 1) (only way set))
      start_asked true = record {
        selves = rises_one false 1;
        others = rises_one false set;
        few = omega arith;
        some = ((set, false), inr (head_in (set, false) []), of_family);
      }
      start_asked false = record {
        selves = rises_two false 1 set (omega (arith, two_before));
        others = rises_none;
        few = omega arith;
        some = ((set, false), inl (second_in (1, false) (set, false)), of_family);
      }

      -- the claims are true

      leads_true : (way : Bool) (step both : ℕ) → expr_at lines step ≡ Some (step_by way set)
          → expr_at lines both ≡ Some (E.Or set 0) → AreDeadEnd task way clauses
          → IsTrueStatement task nodes lines (T.Sub step both)
      leads_true true step both at_step at_both ends state is_state inside =
          let w : IsAfter task (states_in task lines set) (acts_of lines 0) state =
          set_out task nodes lines step (E.After set 0) table at_step state inside in
          set_in task nodes lines both (E.Or set 0) table at_both state
          (inl ((clausal.means lines set table at state).1
          (subst (λ s. in_clauses clauses s ≡ true) w.result
          (ends.stays w.number w.action w.named w.before w.is_state w.applies
          ((clausal.means lines set table at w.before).0 w.inside)))))
      leads_true false step both at_step at_both ends state is_state inside =
          let w : IsBefore task (states_in task lines set) (acts_of lines 0) state =
          set_out task nodes lines step (E.Before set 0) table at_step state inside in
          set_in task nodes lines both (E.Or set 0) table at_both state
          (inl ((clausal.means lines set table at state).1
          (elim (cases_Bool (in_clauses clauses state)) [
            | inl all ↦ all
            | inr fails ↦
                absurd (both_ways (in_clauses clauses (successor w.action state))
                (ends.stays w.number w.action w.named state is_state w.applies fails)
                ((clausal.means lines set table at (successor w.action state)).0 w.inside))
          ])))

      module _ (forwards : Bool) (literal : IsLiteralOf lines dead set forwards) where
        misses_true : (meet : ℕ) → expr_at lines meet ≡ Some (E.And dead 2)
            → AreDeadEnd task forwards clauses → IsTrueStatement task nodes lines (T.Sub meet 0)
        misses_true meet at_meet ends state is_state inside =
            let w = set_out task nodes lines meet (E.And dead 2) table at_meet state inside in
            absurd (ends.goalless state is_state
            (literal_out table state forwards dead literal w.0)
            (set_out task nodes lines 2 (E.Constant C.Goal) table begun.goal state w.1))

        start_true : in_clauses clauses (start_state task) ≡ forwards
            → IsTrueStatement task nodes lines (T.Sub 1 dead)
        start_true starts state is_state inside =
            let same : state ≡ start_state task =
            set_out task nodes lines 1 (E.Constant C.Start) table begun.start state inside in
            literal_in table state forwards dead literal
            (subst (λ s. in_clauses clauses s ≡ forwards) (sym same) starts)

        -- and their lines are good within each budget that the clauses don't pass
        module _ (budget : ℕ) (enough : length clauses ≤ budget) (some : 0 < budget) where
          abbrev setting : Setting
          setting = with_budget task budget

          goal_cheap : (way : Bool)
              → IsCheap setting (others_of false false false (met way set) (only true 0))
          goal_cheap true = cheap_empty setting enough begun.empty some false
          goal_cheap false = cheap_beside setting enough begun.empty false

          start_cheap : (way : Bool)
              → IsCheap setting (others_of false false false (only true 1) (only way set))
          start_cheap true = cheap_set setting enough false
          start_cheap false = cheap_none setting some

          good_still : (id left right : ℕ) (lefts rights : Signed)
              → AreSigned family and_parts lines left lefts
              → AreSigned family or_parts lines right rights
              → AreAsked family lines (selves_of true false false lefts rights)
              (others_of false false false lefts rights)
              → IsCheap setting (others_of false false false lefts rights) → FitsDecimal id
              → id ≡ known_count lines → FitsDecimal left → FitsDecimal right
              → left < expr_count lines → right < expr_count lines
              → IsTrueStatement task nodes lines (T.Sub left right)
              → IsGood setting lines (L.Known id (T.Sub left right) W.B1 [])
          good_still id left right lefts rights left_are right_are asked cheap id_fits id_is
              left_fits right_fits left_there right_there =
              let selves = selves_of true false false lefts rights in
              let others = others_of false false false lefts rights in
              good_true setting lines table (question_of family selves others None) id left right
              W.B1 (formed_sub setting lines id left right W.B1 id_fits id_is left_fits right_fits
              left_there right_there refl) tt (λ rule. rule)
              (still_question family lines left right lefts rights right_are true false left_are
              asked) (clausal.offered lines selves others None) (cheap selves None)

          pub good_leads : (id step both : ℕ) → expr_at lines step ≡ Some (step_by forwards set)
              → expr_at lines both ≡ Some (E.Or set 0) → AreDeadEnd task forwards clauses
              → FitsDecimal id → id ≡ known_count lines → FitsDecimal step → FitsDecimal both
              → IsGood setting lines (L.Known id (T.Sub step both) (word_by forwards) [])
          good_leads id step both at_step at_both ends id_fits id_is step_fits both_fits =
              let early = asks_step_after (word_by forwards) in
              let late = asks_sides_after (word_by forwards) in
              let union : Signed = λ sign. only true 0 sign ++ only true set sign in
              let selves = selves_of true early late (only true set) union in
              let others = others_of false early late (only true set) union in
              good_true setting lines table (question_of family selves others (Some 0)) id step both
              (word_by forwards)
              (formed_sub setting lines id step both (word_by forwards) id_fits id_is step_fits
              both_fits (expr_below lines step (step_by forwards set) table at_step)
              (expr_below lines both (E.Or set 0) table at_both) (step_alone forwards step both))
              (basic_step forwards) (no_rule_step forwards)
              (step_question family lines step both (only true set) union
              (both_signed family or_parts lines both set 0 (E.Or set 0) at_both refl false
              (only true set) (only true 0)
              (plain_signed family or_parts lines set expr at clausal.no_or
              (inr clausal.of_family) (inl clausal.formula))
              (constant_signed family or_parts lines 0 C.Empty begun.empty refl)) true false
              (word_by forwards) set 0 (step_by forwards set) at_step (no_parts forwards set)
              (step_asked forwards set)
              (plain_signed family and_parts lines set expr at clausal.no_and
              (inr clausal.of_family) (inl clausal.formula)) (record {
                selves = rises_one early set;
                others = rises_two late 0 set (omega (arith, two_before));
                few = omega arith;
                some = ((set, early), inl (head_in (set, early) []), of_family);
              }))
              (clausal.offered lines selves others (Some 0))
              (cheap_beside setting enough begun.empty late selves (Some 0))
              (leads_true forwards step both at_step at_both ends)

          pub good_misses : (id meet : ℕ) → expr_at lines meet ≡ Some (E.And dead 2)
              → AreDeadEnd task forwards clauses → FitsDecimal id → id ≡ known_count lines
              → FitsDecimal meet → IsGood setting lines (L.Known id (T.Sub meet 0) W.B1 [])
          good_misses id meet at_meet ends id_fits id_is meet_fits =
              good_still id meet 0 (met forwards set) (only true 0)
              (both_signed family and_parts lines meet dead 2 (E.And dead 2) at_meet refl false
              (only forwards set) (only true 2)
              (literal_signed family and_parts lines set expr at clausal.no_and
              (inr clausal.of_family) refl forwards dead literal)
              (constant_signed family and_parts lines 2 C.Goal begun.goal refl))
              (constant_signed family or_parts lines 0 C.Empty begun.empty refl)
              (goal_asked forwards) (goal_cheap forwards) id_fits id_is meet_fits (omega arith)
              (expr_below lines meet (E.And dead 2) table at_meet)
              (expr_below lines 0 (E.Constant C.Empty) table begun.empty)
              (misses_true meet at_meet ends)

          pub good_start : (id : ℕ) → in_clauses clauses (start_state task) ≡ forwards
              → FitsDecimal id → id ≡ known_count lines → FitsDecimal dead
              → dead < expr_count lines
              → IsGood setting lines (L.Known id (T.Sub 1 dead) W.B1 [])
          good_start id starts id_fits id_is dead_fits dead_below =
              good_still id 1 dead (only true 1) (only forwards set)
              (constant_signed family and_parts lines 1 C.Start begun.start refl)
              (literal_signed family or_parts lines set expr at clausal.no_or
              (inr clausal.of_family) refl forwards dead literal)
              (start_asked forwards) (start_cheap forwards) id_fits id_is (omega arith) dead_fits
              (expr_below lines 1 (E.Constant C.Start) table begun.start) dead_below
              (start_true starts)
