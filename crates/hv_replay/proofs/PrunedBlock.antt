-- The five lines of a pruned state are good.
use Rattle.std.proofs.Common.{◌≡◌, ℕ, ◌+◌, ◌<◌, ◌≤◌, ◌^◌, ◌∙◌, ◌⊎◌, ◌++◌, Bool, true, false, List}
use Rattle.std.proofs.Common.{[], ◌∷◌, Some, None, length, refl, sym, ap, subst, inl, inr, arith}
use Rattle.std.proofs.lemmas.List.{length_push}
use Rattle.std.proofs.lemmas.List.Elements.{All-cons, All-nil}
use Rattle.std.specs.List.{All, Contains}
use Rattle.hv_task.specs.State.{state_of}
use Rattle.hv_task.specs.Strips.{Strips, IsTask, atoms}
use Rattle.hv_lines.specs.Drafts.{IsGoodTable, default_budget, draft_setting, onto}
use Rattle.hv_lines.specs.Good.{IsGood}
use Rattle.hv_lines.specs.Working.Good.{IsFormed}
use Rattle.hv_lines.specs.Literals.{IsPlainExpr}
use Rattle.hv_lines.specs.Numbering.{IsTable, expr_at, expr_count, known_count}
use Rattle.hv_lines.specs.Pruning.{Extends, states_in}
use Rattle.hv_lines.specs.Setting.{Setting}
use Rattle.hv_lines.specs.Shapes.{Askings, IsLiteralOf, IsOfFamily, and_parts, family_of, or_parts}
use Rattle.hv_lines.specs.Spelling.{FitsDecimal, premises_of}
use Rattle.hv_lines.specs.declared.line.Expr.{Expr}
use Rattle.hv_lines.specs.declared.line.Expr.TheVariants as E
use Rattle.hv_lines.specs.declared.line.Line.{Line}
use Rattle.hv_lines.specs.declared.line.Line.TheVariants as L
use Rattle.hv_lines.specs.declared.line.Statement.TheVariants as T
use Rattle.hv_lines.specs.declared.line.Word.{Word}
use Rattle.hv_lines.specs.declared.line.Word.TheVariants as W
use Rattle.hv_lines.specs.declared.formula_family.FormulaFamily.{FormulaFamily}
use Rattle.hv_lines.specs.declared.formula_family.FormulaFamily.TheVariants as F
use Rattle.hv_lines.specs.declared.note.Note.{Note}
use Rattle.hv_lines.proofs.Carried.{expr_onto, known_onto}
use Rattle.hv_lines.proofs.Clausal.{second_in}
use Rattle.hv_lines.proofs.Drafting.{below_two, formed_expr, formed_sub, good_expr, next_or}
use Rattle.hv_lines.proofs.Drafting.{next_rule, table_of}
use Rattle.hv_lines.proofs.Elements.{cons_cases, head_in, nothing_in, of_one, of_two}
use Rattle.hv_lines.proofs.Extended.{extends_by}
use Rattle.hv_lines.proofs.Laws.{expr_at_here, expr_below, known_below, set_in, set_out, speaks_at}
use Rattle.hv_lines.proofs.Laws.{statement_at_here}
use Rattle.hv_lines.proofs.Nexts.{next_claim}
use Rattle.hv_lines.proofs.PlainSides.{rises_none, rises_one, rises_two}
use Rattle.hv_lines.proofs.SignedSides.{AreAsked, literal_signed, only, others_of, plain_signed}
use Rattle.hv_lines.proofs.SignedSides.{selves_of, still_question}
use Rattle.hv_replay.specs.Logs.{IsAtomSet}
use Rattle.hv_replay.specs.PrunedLines.{pruned_lines, pruned_word, word_of_formula, word_of_literal}
use Rattle.hv_replay.specs.Working.PrunedLines.{IsPrunedUnion, one_beside}
use Rattle.hv_replay.proofs.Explicit.{constant_states, good_listed, listed_anchors, listed_states}
use Rattle.hv_replay.proofs.Explicit.{states_at}
use Rattle.hv_replay.proofs.Mixed.{IsOther, good_mixed}
use Rattle.hv_replay.proofs.Spelled.{short_state, states_fit}
use Rattle.hv_replay.proofs.Unions.{IsHeld, leaves_below, states_stay, stays_union}

-- the new lines are those of a good draft, and have the union of the pruned states with this one
pub record ShowPruned (task : Strips) (old new : List Line) (pruned : ℕ) (held : List ℕ)
    (union all : Note) : Type 0 where
  pub good : IsGoodTable task new
  pub union_is : IsPrunedUnion new (pruned + 1) all
  pub inside : states_in task new all.set (state_of (atoms task) held)
  pub keeps : (state : List Bool) → states_in task old union.set state
      → states_in task new all.set state

module _ (task : Strips) (is_task : IsTask task) (old : List Line) (good : IsGoodTable task old)
    (p k pruned : ℕ) (held : List ℕ)
    (holder union : Note) (p_is : p ≡ expr_count old) (k_is : k ≡ known_count old)
    (p_few : p + 1 < 10 ^ 18) (k_few : k + 2 < 10 ^ 18)
    (atom_set : IsAtomSet (atoms task) held) (is_held : IsHeld task old held holder)
    (is_union : IsPrunedUnion old pruned union) where
  abbrev setting : Setting
  setting = draft_setting task

  abbrev word : Word
  word = pruned_word old holder.set

  abbrev L1 : Line
  L1 = L.Expr p (E.States (held ∷ []))

  abbrev L2 : Line
  L2 = L.Known k (T.Sub p holder.set) word []

  abbrev L3 : Line
  L3 = L.Known (k + 1) (T.Dead p) W.Sd (k ∷ holder.line ∷ [])

  abbrev L4 : Line
  L4 = L.Expr (p + 1) (E.Or union.set p)

  abbrev L5 : Line
  L5 = L.Known (k + 2) (T.Dead (p + 1)) W.Ud (union.line ∷ (k + 1) ∷ [])

  abbrev B1 : List Line
  B1 = L1 ∷ old

  abbrev B2 : List Line
  B2 = L2 ∷ B1

  abbrev B3 : List Line
  B3 = L3 ∷ B2

  abbrev B4 : List Line
  B4 = L4 ∷ B3

  abbrev B5 : List Line
  B5 = L5 ∷ B4

  table : IsTable old
  table = table_of task old good

  p_fits : FitsDecimal p
  p_fits = omega (arith, p_few)

  y_below : holder.set < p
  y_below = omega (arith, speaks_at old holder.line (T.Dead holder.set) table is_held.says, p_is)

  y_fits : FitsDecimal holder.set
  y_fits = omega (arith, y_below, p_few)

  d_below : union.set < p
  d_below = omega (arith, speaks_at old union.line (T.Dead union.set) table is_union.says, p_is)

  j_below : holder.line < k
  j_below = omega (arith, known_below old holder.line (T.Dead holder.set) table is_held.says, k_is)

  m_below : union.line < k
  m_below = omega (arith, known_below old union.line (T.Dead union.set) table is_union.says, k_is)

  one_state : All (IsAtomSet (atoms task)) (held ∷ [])
  one_state = All-cons (IsAtomSet (atoms task)) held [] atom_set (All-nil (IsAtomSet (atoms task)))

  good1 : IsGoodTable task B1
  good1 = (
    record {
      good = good_expr setting old p (E.States (held ∷ []))
          (formed_expr setting old p (E.States (held ∷ [])) p_fits
          (states_fit task (held ∷ []) is_task one_state (omega arith)) p_is tt
          (All-cons (λ xs. All (λ n. n < atoms task) xs) held [] atom_set.below
          (All-nil (λ xs. All (λ n. n < atoms task) xs))) tt);
      short = short_state task p held is_task atom_set p_fits;
    },
    good,
  )

  table1 : IsTable B1
  table1 = table_of task B1 good1

  at_p : expr_at B1 p ≡ Some (E.States (held ∷ []))
  at_p = expr_at_here p (E.States (held ∷ [])) old

  -- the set has the one state alone, which is in the set that is said to be dead
  in_p : (state : List Bool) → states_in task B1 p state → state_of (atoms task) held ≡ state
  in_p state inside =
      elim (cons_cases (state_of (atoms task) held) [] state
      (set_out task setting.nodes B1 p (E.States (held ∷ [])) table1 at_p state inside)) [
        | inl same ↦ same
        | inr none ↦ absurd (nothing_in state none)
      ]

  in_y : (state : List Bool) → states_in task B1 p state → states_in task B1 holder.set state
  in_y state inside =
      subst (states_in task B1 holder.set) (in_p state inside)
      (states_stay task old B1 (extends_by task (L1 ∷ []) old good1) holder.set
      (state_of (atoms task) held) (omega (arith, y_below, p_is)) is_held.inside)

  formed2 : (w : Word) → premises_of (T.Sub p holder.set) w ≡ Some 0
      → IsFormed setting B1 (L.Known k (T.Sub p holder.set) w [])
  formed2 w none =
      formed_sub setting B1 k p holder.set w (omega (arith, k_few)) k_is p_fits y_fits
      (omega (arith, p_is)) (omega (arith, p_is, y_below)) none

  p_states : states_at B1 p ≤ 1
  p_states = omega (arith, listed_states B1 p (held ∷ []) at_p)

  -- the literal is of the formula or constant x, which has an earlier line
  module _ (sign : Bool) (x : ℕ) (literal : IsLiteralOf B1 holder.set x sign) (before : x < p) where
    abbrev Selves : Askings
    Selves = selves_of sign false false (only true p) (only sign x)

    abbrev Others : Askings
    Others = others_of true false false (only true p) (only sign x)

    -- it is a constant or an explicit set
    by_listed : (expr : Expr) → expr_at B1 x ≡ Some expr → or_parts expr ≡ None
        → (family_of expr ≡ None) ⊎ (family_of expr ≡ Some F.States)
        → (sign ≡ false → states_at B1 x ≤ setting.budget)
        → IsGood setting B1 (L.Known k (T.Sub p holder.set) W.B1 [])
    by_listed expr at none of few =
        good_listed setting B1 table1 Selves Others None k p holder.set W.B1 (formed2 W.B1 refl) tt
        (λ rule. rule) (still_question F.States B1 p holder.set (only true p) (only sign x)
        (literal_signed F.States or_parts B1 x expr at none of refl sign holder.set literal) sign
        true (plain_signed F.States and_parts B1 p (E.States (held ∷ [])) at_p refl (inr refl)
        (inl tt)) (asked sign)) p (there sign) (listed_anchors B1 p (held ∷ []) at_p)
        (each sign few) (λ state is_state inside. in_y state inside)
      where
        p_of : IsOfFamily B1 F.States p
        p_of = (E.States (held ∷ []), at_p, refl)

        asked : (way : Bool) → AreAsked F.States B1
            (selves_of way false false (only true p) (only way x))
            (others_of true false false (only true p) (only way x))
        asked true = record {
          selves = rises_one false p;
          others = rises_one false x;
          few = omega arith;
          some = ((p, false), inl (head_in (p, false) []), p_of);
        }
        asked false = record {
          selves = rises_two false x p before;
          others = rises_none;
          few = omega arith;
          some = ((p, false), inl (second_in (x, false) (p, false)), p_of);
        }

        there : (way : Bool) → Contains (selves_of way false false (only true p) (only way x))
            (p, false)
        there true = head_in (p, false) []
        there false = second_in (x, false) (p, false)

        each : (way : Bool) → (way ≡ false → states_at B1 x ≤ setting.budget) → (a : ℕ × Bool)
            → Contains (selves_of way false false (only true p) (only way x)) a
            → states_at B1 a.0 ≤ setting.budget
        each true most = of_one (λ a. states_at B1 a.0 ≤ setting.budget) (p, false)
            (omega (arith, p_states))
        each false most = of_two (λ a. states_at B1 a.0 ≤ setting.budget) (x, false) (p, false)
            (most refl) (omega (arith, p_states))

    -- it is another formula
    by_formula : (expr : Expr) (family : FormulaFamily) → IsOther expr family
        → expr_at B1 x ≡ Some expr → IsGood setting B1 (L.Known k (T.Sub p holder.set) W.B4 [])
    by_formula expr family other at =
        good_mixed setting B1 table1 k p holder.set x (held ∷ []) expr family at_p at other
        (omega arith) (formed2 W.B4 refl)
        (λ state is_state inside. in_y state inside) sign literal

    by_plain : (expr : Expr) → IsPlainExpr expr → expr_at B1 x ≡ Some expr
        → (sign ≡ false → (states : List (List ℕ)) → expr ≡ E.States states
        → length states ≤ default_budget)
        → IsGood setting B1 (L.Known k (T.Sub p holder.set) (word_of_formula (Some expr)) [])
    by_plain (E.Constant constant) plain at few =
        by_listed (E.Constant constant) at refl (inl refl)
        (λ is. omega (arith, constant_states B1 x constant at))
    by_plain (E.States states) plain at few =
        by_listed (E.States states) at refl (inr refl)
        (λ is. omega (arith, listed_states B1 x states at, few is states refl))
    by_plain (E.Horn clauses) plain at few = by_formula (E.Horn clauses) F.Horn
        (tt, refl, λ e. cc (e)) at
    by_plain (E.Dual clauses) plain at few = by_formula (E.Dual clauses) F.Dual
        (tt, refl, λ e. cc (e)) at
    by_plain (E.Two clauses) plain at few = by_formula (E.Two clauses) F.Two
        (tt, refl, λ e. cc (e)) at
    by_plain (E.Node node) plain at few = by_formula (E.Node node) F.Node (tt, refl, λ e. cc (e)) at
    by_plain _ plain at few = elim plain
        [ inl formula ↦ absurd formula | inr constant ↦ absurd constant ]

  -- the word of a literal that is no negation
  plain_word : (expr : Expr) → IsPlainExpr expr
      → word_of_literal old (Some expr) ≡ word_of_formula (Some expr)
  plain_word (E.Not set) plain = elim plain
      [ inl formula ↦ absurd formula | inr constant ↦ absurd constant ]
  plain_word _ plain = refl

  abbrev IsGoodBy : Word → Type 0
  IsGoodBy w = IsGood setting B1 (L.Known k (T.Sub p holder.set) w [])

  line2 : IsGood setting B1 L2
  line2 =
      elim is_held.literal [
        | inl (x, at, plain) ↦
            let now = expr_onto (L1 ∷ []) old holder.set x table1 at in
            subst IsGoodBy (sym (ap (word_of_literal old) at ∙ plain_word x plain))
            (by_plain true holder.set (refl, (x, now, plain)) y_below x plain now
            (λ is. absurd (cc (is))))
        | inr (inner, at, (x, at_inner, plain)) ↦
            let now = expr_onto (L1 ∷ []) old inner x table1 at_inner in
            subst IsGoodBy (sym (ap (word_of_literal old) at ∙ ap word_of_formula at_inner))
            (by_plain false inner (
              expr_onto (L1 ∷ []) old holder.set (E.Not inner) table1 at,
              (x, now, plain),
            ) (omega (arith, expr_below old inner x table at_inner, p_is)) x plain
            now (λ is states same. is_held.few inner states at (at_inner ∙ ap Some same)))
      ]

  good2 : IsGoodTable task B2
  good2 = (next_claim task B1 k (T.Sub p holder.set) word [] line2, good1)

  table2 : IsTable B2
  table2 = table_of task B2 good2

  good3 : IsGoodTable task B3
  good3 = (
    next_rule task B2 (k + 1) (T.Dead p) W.Sd (k ∷ holder.line ∷ [])
        (λ basic. basic) (omega (arith, k_few)) (omega (arith, k_is)) p_fits
        (omega (arith, p_is)) refl (below_two (k + 1) k holder.line (omega arith)
        (omega (arith, j_below))) (
          holder.set,
          statement_at_here k (T.Sub p holder.set) word [] B1,
          known_onto (L1 ∷ L2 ∷ []) old holder.line (T.Dead holder.set) table2 is_held.says,
        ),
    good2,
  )

  good4 : IsGoodTable task B4
  good4 = (
    next_or task B3 (p + 1) union.set p (omega (arith, p_few)) (omega (arith, p_is))
        (omega (arith, d_below)) (omega arith),
    good3,
  )

  table4 : IsTable B4
  table4 = table_of task B4 good4

  -- the five lines are good
  good_pruned : IsGoodTable task (onto (pruned_lines p k held word holder union) old)
  good_pruned = (
    next_rule task B4 (k + 2) (T.Dead (p + 1)) W.Ud (union.line ∷ (k + 1) ∷ [])
        (λ basic. basic) (omega (arith, k_few)) (omega (arith, k_is))
        (omega (arith, p_few)) (omega (arith, p_is)) refl
        (below_two (k + 2) union.line (k + 1) (omega (arith, m_below)) (omega arith)) (
          union.set,
          p,
          expr_at_here (p + 1) (E.Or union.set p) B3,
          known_onto (L1 ∷ L2 ∷ L3 ∷ L4 ∷ []) old union.line (T.Dead union.set) table4
              is_union.says,
          statement_at_here (k + 1) (T.Dead p) W.Sd (k ∷ holder.line ∷ []) B2,
        ),
    good4,
  )

  table5 : IsTable B5
  table5 = table_of task B5 good_pruned

  at_u : expr_at B5 (p + 1) ≡ Some (E.Or union.set p)
  at_u = expr_at_here (p + 1) (E.Or union.set p) B3

  at_p5 : expr_at B5 p ≡ Some (E.States (held ∷ []))
  at_p5 = expr_onto (L2 ∷ L3 ∷ L4 ∷ L5 ∷ []) B1 p (E.States (held ∷ [])) table5 at_p

  extends : Extends task old B5
  extends = extends_by task (L1 ∷ L2 ∷ L3 ∷ L4 ∷ L5 ∷ []) old good_pruned

  -- the union holds the pruned state, and all that it held before
  pub shown_pruned : ShowPruned task old (onto (pruned_lines p k held word holder union) old) pruned
      held union (record { set = p + 1; line = k + 2 })
  shown_pruned = record {
    good = good_pruned;
    union_is = record {
      says = statement_at_here (k + 2) (T.Dead (p + 1)) W.Ud (union.line ∷ (k + 1) ∷ []) B4;
      leaves = is_union.leaves ++ p ∷ [];
      are = one_beside (p + 1) union.set p is_union.leaves (held ∷ [])
          (stays_union task old B5 extends union.set is_union.leaves is_union.are)
          (leaves_below old union.set is_union.leaves is_union.are table p p_is) at_p5 (inl at_u);
      few = omega (arith, is_union.few, length_push is_union.leaves p);
    };
    inside = set_in task setting.nodes B5 (p + 1) (E.Or union.set p) table5 at_u
        (state_of (atoms task) held)
        (inr (set_in task setting.nodes B5 p (E.States (held ∷ [])) table5 at_p5
        (state_of (atoms task) held) (0, omega arith, refl)));
    keeps = λ state inside.
        set_in task setting.nodes B5 (p + 1) (E.Or union.set p) table5 at_u state
        (inl (states_stay task old B5 extends union.set state (omega (arith, d_below, p_is)) inside));
  }
