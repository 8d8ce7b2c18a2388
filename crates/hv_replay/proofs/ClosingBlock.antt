-- The twelve lines with which a replay ends are good.
use Rattle.std.proofs.Common.{◌≡◌, ℕ, ◌+◌, ◌<◌, ◌≤◌, ◌^◌, ◌⊎◌, ◌++◌, Bool, true, false, List, []}
use Rattle.std.proofs.Common.{◌∷◌, Some, None, refl, sym, subst, inl, inr, arith}
use Rattle.std.proofs.lemmas.List.{length_push}
use Rattle.std.proofs.lemmas.List.Elements.{Contains-push}
use Rattle.hv_task.specs.State.{successor}
use Rattle.hv_task.specs.Strips.{Strips, IsTask, atoms}
use Rattle.hv_sets.specs.Truth.{InStates}
use Rattle.hv_lines.specs.DeadLines.{dead_lines}
use Rattle.hv_lines.specs.Drafts.{IsGoodTable, IsShortLine, conclusion, draft_setting, onto}
use Rattle.hv_lines.specs.Good.{IsGood}
use Rattle.hv_lines.specs.Meaning.{IsAfter, acts_of}
use Rattle.hv_lines.specs.Numbering.{IsTable, expr_at, expr_count, known_count, statement_at}
use Rattle.hv_lines.specs.Pruning.{Extends, states_in}
use Rattle.hv_lines.specs.Setting.{Setting}
use Rattle.hv_lines.specs.Shapes.{IsLiteralOf, and_parts, or_parts}
use Rattle.hv_lines.specs.Spelling.{FitsDecimal}
use Rattle.hv_lines.specs.declared.formula_family.FormulaFamily.TheVariants as F
use Rattle.hv_lines.specs.declared.line.Constant.TheVariants as C
use Rattle.hv_lines.specs.declared.line.Expr.TheVariants as E
use Rattle.hv_lines.specs.declared.line.Line.{Line}
use Rattle.hv_lines.specs.declared.line.Line.TheVariants as L
use Rattle.hv_lines.specs.declared.line.Statement.TheVariants as T
use Rattle.hv_lines.specs.declared.line.Word.TheVariants as W
use Rattle.hv_lines.specs.declared.note.Note.{Note}
use Rattle.hv_lines.proofs.Carried.{expr_onto, known_onto}
use Rattle.hv_lines.proofs.Clausal.{constant_signed, second_in}
use Rattle.hv_lines.proofs.DeadLines.{AreNext, at_both, at_meet, at_step, claim_said}
use Rattle.hv_lines.proofs.DeadLines.{good_dead, good_sets}
use Rattle.hv_lines.proofs.Drafting.{below_two, formed_expr, formed_sub, good_conclusion}
use Rattle.hv_lines.proofs.Drafting.{good_expr, next_rule, table_of}
use Rattle.hv_lines.proofs.Elements.{head_in, of_one, of_two}
use Rattle.hv_lines.proofs.Extended.{HasPrelude, extends_by, prelude_onto}
use Rattle.hv_lines.proofs.Laws.{expr_at_here, expr_below, known_below, set_in, set_out, speaks_at}
use Rattle.hv_lines.proofs.Laws.{statement_at_here}
use Rattle.hv_lines.proofs.Nexts.{next_claim}
use Rattle.hv_lines.proofs.PlainSides.{asked_size, rises_one, rises_two, to_asked}
use Rattle.hv_lines.proofs.SignedSides.{AreAsked, Signed, both_signed, joined, only, others_of}
use Rattle.hv_lines.proofs.SignedSides.{plain_signed, selves_of, step_question, still_question}
use Rattle.hv_lines.proofs.SignedSides.{those}
use Rattle.hv_replay.specs.ClosingLines.{closing_block}
use Rattle.hv_replay.specs.Working.ClosingLines.{IsClosedSearch}
use Rattle.hv_replay.specs.Working.PrunedLines.{IsPrunedUnion, IsUnionOfStates, most_pruned}
use Rattle.hv_replay.specs.Working.PrunedLines.{one_beside}
use Rattle.hv_replay.proofs.Explicit.{constant_states, good_listed, listed_anchors, listed_states}
use Rattle.hv_replay.proofs.Explicit.{start_anchors, states_at}
use Rattle.hv_replay.proofs.Spelled.{states_fit}
use Rattle.hv_replay.proofs.Unions.{leaves_below, leaves_rise, states_stay, stays_union}
use Rattle.hv_replay.proofs.Unions.{union_signed}

module _ (task : Strips) (is_task : IsTask task) (old : List Line) (good : IsGoodTable task old)
    (prelude : HasPrelude old) (s k count : ℕ)
    (states : List (List ℕ)) (union : Note) (s_is : s ≡ expr_count old) (k_is : k ≡ known_count old)
    (s_few : s + 3 < 10 ^ 18)
    (k_few : k + 7 < 10 ^ 18) (is_union : IsPrunedUnion old count union)
    (count_few : count ≤ most_pruned)
    (short : IsShortLine (L.Expr s (E.States states)))
    (closed : IsClosedSearch task states (states_in task old union.set)) where
  abbrev setting : Setting
  setting = draft_setting task

  abbrev With : List Line
  With = L.Expr s (E.States states) ∷ old

  abbrev Sets : List Line
  Sets = L.Expr (s + 3) (E.And s 2) ∷ L.Expr (s + 2) (E.Or s union.set)
      ∷ L.Expr (s + 1) (E.After s 0) ∷ With

  abbrev Led : List Line
  Led = L.Known k (T.Sub (s + 1) (s + 2)) W.B2 [] ∷ Sets

  table : IsTable old
  table = table_of task old good

  abbrev all : List ℕ
  all = is_union.leaves ++ s ∷ []

  -- Set s + 2 is the union of the expanded and the pruned states: what it holds and what is asked
  -- of it, in each draft that goes on after `old`.
  module _ (more : List Line) (now : IsGoodTable task (onto more old))
      (at_s : expr_at (onto more old) s ≡ Some (E.States states))
      (at_or : expr_at (onto more old) (s + 2) ≡ Some (E.Or s union.set)) where
    abbrev Now : List Line
    Now = onto more old

    now_table : IsTable Now
    now_table = table_of task Now now

    extends : Extends task old Now
    extends = extends_by task more old now

    whole : IsUnionOfStates Now (s + 2) all
    whole = one_beside (s + 2) union.set s is_union.leaves states
        (stays_union task old Now extends union.set is_union.leaves is_union.are)
        (leaves_below old union.set is_union.leaves is_union.are table s s_is) at_s (inr at_or)

    in_whole : (state : List Bool)
        → InStates (atoms task) states state ⊎ states_in task old union.set state
        → states_in task Now (s + 2) state
    in_whole state either =
        set_in task setting.nodes Now (s + 2) (E.Or s union.set) now_table at_or state
        (elim either [
          | inl expanded ↦
              inl (set_in task setting.nodes Now s (E.States states) now_table at_s state expanded)
          | inr pruned ↦
              inr (states_stay task old Now extends union.set state
              (speaks_at old union.line (T.Dead union.set) table is_union.says) pruned)
        ])

    -- where one set is within it, or leads into it
    whole_asked : (x : ℕ) (late : Bool) → AreAsked F.States Now
        (selves_of true false late (only true x) (those true all))
        (others_of true false late (only true x) (those true all))
    whole_asked x late = record {
      selves = rises_one false x;
      others = leaves_rise Now (s + 2) all whole late;
      few = omega (
        arith,
        asked_size late all,
        length_push is_union.leaves s,
        is_union.few,
        count_few,
      );
      some = (
        (s, late),
        inr (to_asked late all s (Contains-push is_union.leaves s)),
        (E.States states, at_s, refl),
      );
    }

  two_below : 2 < s
  two_below = omega (arith, expr_below old 2 (E.Constant C.Goal) table prelude.goal, s_is)

  s_fits : FitsDecimal s
  s_fits = omega (arith, s_few)

  good_with : IsGoodTable task With
  good_with = (
    record {
      good = good_expr setting old s (E.States states)
          (formed_expr setting old s (E.States states) s_fits
          (states_fit task states is_task closed.atom_sets closed.few) s_is tt
          (λ i d less. (closed.atom_sets i d less).below) tt);
      short = short;
    },
    good,
  )

  begun : HasPrelude With
  begun = prelude_onto (L.Expr s (E.States states) ∷ []) old (table_of task With good_with) prelude

  literal : IsLiteralOf With s s true
  literal = (refl, (E.States states, expr_at_here s (E.States states) old, inl tt))

  next : AreNext With s k
  next = record {
    set_is = omega (arith, s_is);
    claim_is = k_is;
    few_sets = s_few;
    few_claims = omega (arith, k_few);
  }

  sets : IsGoodTable task Sets
  sets = good_sets task With good_with begun true s s literal union is_union.says k next

  sets_table : IsTable Sets
  sets_table = table_of task Sets sets

  at_s : expr_at Sets s ≡ Some (E.States states)
  at_s = expr_onto (L.Expr (s + 1) (E.After s 0) ∷ L.Expr (s + 2) (E.Or s union.set)
      ∷ L.Expr (s + 3) (E.And s 2) ∷ []) With s (E.States states) sets_table
      (expr_at_here s (E.States states) old)

  after_is : expr_at Sets (s + 1) ≡ Some (E.After s 0)
  after_is = at_step task With good_with begun true s s literal union is_union.says k next

  or_is : expr_at Sets (s + 2) ≡ Some (E.Or s union.set)
  or_is = at_both task With good_with begun true s s literal union is_union.says k next

  and_is : expr_at Sets (s + 3) ≡ Some (E.And s 2)
  and_is = at_meet task With good_with begun true s s literal union is_union.says k next

  abbrev four : List Line
  four = L.Expr s (E.States states) ∷ L.Expr (s + 1) (E.After s 0)
      ∷ L.Expr (s + 2) (E.Or s union.set) ∷ L.Expr (s + 3) (E.And s 2) ∷ []

  -- each successor of an expanded state is expanded or pruned
  leads : IsGood setting Sets (L.Known k (T.Sub (s + 1) (s + 2)) W.B2 [])
  leads =
      good_listed setting Sets sets_table (selves_of true false true (only true s) (those true all))
      (others_of true false true (only true s) (those true all)) (Some 0) k (s + 1) (s + 2) W.B2
      (formed_sub setting Sets k (s + 1) (s + 2) W.B2 (omega (arith, k_few)) k_is
      (omega (arith, s_few)) (omega (arith, s_few))
      (omega (arith, s_is)) (omega (arith, s_is)) refl) tt (λ rule. rule)
      (step_question F.States Sets (s + 1) (s + 2) (only true s) (those true all)
      (union_signed Sets (s + 2) all (whole four sets at_s or_is))
      true true W.B2 s 0 (E.After s 0) after_is refl refl
      (plain_signed F.States and_parts Sets s (E.States states) at_s refl (inr refl) (inl tt))
      (whole_asked four sets at_s or_is s true))
      s (head_in (s, false) []) (listed_anchors Sets s states at_s)
      (of_one (λ a. states_at Sets a.0 ≤ setting.budget) (s, false)
      (omega (arith, closed.few, listed_states Sets s states at_s)))
      (λ state is_state inside.
      let w : IsAfter task (states_in task Sets s) (acts_of Sets 0) state =
      set_out task setting.nodes Sets (s + 1) (E.After s 0) sets_table after_is state inside in
      subst (states_in task Sets (s + 2)) w.result
      (in_whole four sets at_s or_is
      (successor w.action w.before) (closed.leads w.number w.action w.named w.before
      (set_out task setting.nodes Sets s (E.States states) sets_table at_s w.before w.inside)
      w.applies)))

  led_table : IsTable Led
  led_table = table_of task Led
      (next_claim task Sets k (T.Sub (s + 1) (s + 2)) W.B2 [] leads, sets)

  led_begun : HasPrelude Led
  led_begun = prelude_onto (four ++ L.Known k (T.Sub (s + 1) (s + 2)) W.B2 [] ∷ []) old led_table
      prelude

  abbrev met : Signed
  met sign = joined false (only true s sign) (only true 2 sign)

  -- no expanded state is a goal state
  misses : IsGood setting Led (L.Known (k + 1) (T.Sub (s + 3) 0) W.B1 [])
  misses =
      good_listed setting Led led_table ((2, false) ∷ (s, false) ∷ []) ((0, false) ∷ []) None
      (k + 1) (s + 3) 0 W.B1
      (formed_sub setting Led (k + 1) (s + 3) 0 W.B1 (omega (arith, k_few)) (omega (arith, k_is))
      (omega (arith, s_few)) (omega arith) (omega (arith, s_is)) (omega arith) refl) tt
      (λ rule. rule)
      (still_question F.States Led (s + 3) 0 met (only true 0)
      (constant_signed F.States or_parts Led 0 C.Empty led_begun.empty refl) true true
      (both_signed F.States and_parts Led (s + 3) s 2 (E.And s 2) and_is refl false (only true s)
      (only true 2)
      (plain_signed F.States and_parts Led s (E.States states) at_s refl (inr refl) (inl tt))
      (constant_signed F.States and_parts Led 2 C.Goal led_begun.goal refl))
      (record {
        selves = rises_two false 2 s two_below;
        others = rises_one false 0;
        few = omega arith;
        some = (
          (s, false),
          inl (second_in (2, false) (s, false)),
          (E.States states, at_s, refl),
        );
      }))
      s (second_in (2, false) (s, false)) (listed_anchors Led s states at_s)
      (of_two (λ a. states_at Led a.0 ≤ setting.budget) (2, false) (s, false)
      (omega (arith, constant_states Led 2 C.Goal led_begun.goal))
      (omega (arith, closed.few, listed_states Led s states at_s)))
      (λ state is_state inside.
      let w = set_out task setting.nodes Led (s + 3) (E.And s 2) led_table and_is state inside in
      absurd (closed.goalless state
      (set_out task setting.nodes Led s (E.States states) led_table at_s state w.0)
      (set_out task setting.nodes Led 2 (E.Constant C.Goal) led_table led_begun.goal state w.1)))

  abbrev Dead : List Line
  Dead = onto (dead_lines true s s union k) With

  good_expanded : IsGoodTable task Dead
  good_expanded = good_dead task With good_with begun true s s literal union is_union.says k next
      leads misses

  says : statement_at Dead union.line ≡ Some (T.Dead union.set)
  says = known_onto (dead_lines true s s union k) With
      union.line (T.Dead union.set) (table_of task Dead good_expanded) is_union.says

  -- the nine lines are good
  pub good_closing_block : IsGoodTable task (onto (closing_block s k states union) old)
  good_closing_block = (
    next_rule task Dead (k + 4) (T.Dead (s + 2)) W.Ud ((k + 3) ∷ union.line ∷ [])
        (λ basic. basic) (omega (arith, k_few)) (omega (arith, k_is))
        (omega (arith, s_few)) (omega (arith, s_is)) refl
        (below_two (k + 4) (k + 3) union.line (omega arith)
        (omega (arith, known_below old union.line (T.Dead union.set) table is_union.says, k_is))) (
          s,
          union.set,
          or_is,
          claim_said With true s s union k,
          says,
        ),
    good_expanded,
  )

  abbrev Block : List Line
  Block = onto (closing_block s k states union) old

  block_table : IsTable Block
  block_table = table_of task Block good_closing_block

  start_is : expr_at Block 1 ≡ Some (E.Constant C.Start)
  start_is = (prelude_onto (closing_block s k states union) old block_table prelude).start

  -- the initial state is expanded or pruned
  starts : IsGood setting Block (L.Known (k + 5) (T.Sub 1 (s + 2)) W.B1 [])
  starts =
      good_listed setting Block block_table
      (selves_of true false false (only true 1) (those true all))
      (others_of true false false (only true 1) (those true all)) None (k + 5) 1 (s + 2) W.B1
      (formed_sub setting Block (k + 5) 1 (s + 2) W.B1 (omega (arith, k_few)) (omega (arith, k_is))
      (omega arith) (omega (arith, s_few))
      (omega (arith, s_is, two_below)) (omega (arith, s_is)) refl) tt (λ rule. rule)
      (still_question F.States Block 1 (s + 2) (only true 1) (those true all)
      (union_signed Block (s + 2) all
      (whole (closing_block s k states union) good_closing_block at_s or_is)) true true
      (constant_signed F.States and_parts Block 1 C.Start start_is refl)
      (whole_asked (closing_block s k states union) good_closing_block at_s or_is 1 false))
      1 (head_in (1, false) []) (start_anchors Block 1 start_is)
      (of_one (λ a. states_at Block a.0 ≤ setting.budget) (1, false)
      (omega (arith, constant_states Block 1 C.Start start_is)))
      (λ state is_state inside.
      in_whole (closing_block s k states union) good_closing_block at_s or_is state
      (subst (λ t. InStates (atoms task) states t ⊎ states_in task old union.set t)
      (sym (set_out task setting.nodes Block 1 (E.Constant C.Start) block_table start_is state
      inside)) closed.starts))

  -- the twelve lines are good
  pub good_closing : IsGoodTable task (onto (conclusion (k + 5) (s + 2) (k + 4))
      (onto (closing_block s k states union) old))
  good_closing =
      good_conclusion task Block good_closing_block (k + 5) (s + 2) (k + 4) (omega (arith, k_is))
      (omega (arith, k_few)) (omega (arith, s_few))
      start_is (omega (arith, s_is)) (statement_at_here (k + 4) (T.Dead (s + 2)) W.Ud
      ((k + 3) ∷ union.line ∷ []) Dead) starts
