-- A statement with its word has one verdict, up to the state of a counterexample.
use Rattle.std.proofs.Common.{◌≡◌, ℕ, ◌<◌, ◌∙◌, Bool, true, false, List, [], Option, Some, None}
use Rattle.std.proofs.Common.{length, sym, ap, subst, inl, inr, arith}
use Rattle.std.proofs.lemmas.Bool.{cases_lt}
use Rattle.std.proofs.lemmas.Option.{same_Some}
use Rattle.std.specs.List.{slice_get}
use Rattle.std.specs.Option.{option_map}
use Rattle.hv_task.specs.Strips.{Strips, atoms}
use Rattle.hv_sets.specs.Query.{is_clash}
use Rattle.hv_sets.specs.declared.query.Query.{Query}
use Rattle.hv_lines.specs.Mixed.{Signed, cost_of, is_between}
use Rattle.hv_lines.specs.Order.{without_state}
use Rattle.hv_lines.specs.Queries.{PassesBudget, has_of, queries_of}
use Rattle.hv_lines.specs.Setting.{Setting}
use Rattle.hv_lines.specs.Shapes.{BasicState, OfSets, OfTwo, OfActs, AreTwo, IsShaped}
use Rattle.hv_lines.specs.Shapes.{QuestionState}
use Rattle.hv_lines.specs.Verdicts.{IsDecided, IsDecisive, IsOutside, DecidesNothing, IsVerdict}
use Rattle.hv_lines.specs.Verdicts.{IsVerdictOf, IsVerdictOfActs, IsVerdictOfSets, IsVerdictOfSides}
use Rattle.hv_lines.specs.Verdicts.{IsVerdictOfTwo}
use Rattle.hv_lines.specs.declared.line.Line.{Line}
use Rattle.hv_lines.specs.declared.line.Statement.{Statement}
use Rattle.hv_lines.specs.declared.line.Statement.TheVariants as T
use Rattle.hv_lines.specs.declared.line.Word.{Word}
use Rattle.hv_lines.specs.declared.line.Word.TheVariants as W
use Rattle.hv_lines.specs.declared.reason.Clash.{Clash}
use Rattle.hv_lines.specs.declared.reason.Reason.TheVariants as R
use Rattle.hv_lines.specs.declared.verdict.Verdict.{Verdict}
use Rattle.hv_lines.specs.declared.verdict.Verdict.TheVariants as V
use Rattle.hv_lines.proofs.Questions.{question_once, two_no_question}
use Rattle.hv_lines.proofs.Shaped.{literal_once}

-- the two verdicts are one, up to the state of a counterexample
abbrev pub IsSame : Verdict → Verdict → Type 0
IsSame V.True V.True = Unit {0}
IsSame (V.False found) (V.False other) = found.action ≡ other.action
IsSame V.Over V.Over = Unit {0}
IsSame V.NotOffered V.NotOffered = Unit {0}
IsSame _ _ = ⊥

module _ (Passes : Query → Type 0) (clash : Query → List Bool → Bool) (atoms : ℕ)
    (queries : List Query) where
  -- the first query that decides is one
  first_once : (p q : Query) → IsDecisive Passes clash atoms queries p
      → (DecidesNothing Passes clash atoms p → ⊥)
      → IsDecisive Passes clash atoms queries q → (DecidesNothing Passes clash atoms q → ⊥) → p ≡ q
  first_once p q (i, at_i, before_i) open_p (j, at_j, before_j) open_q =
      elim (cases_lt i j) [
        | inl less ↦ absurd (open_p (before_j i p less at_i))
        | inr upto ↦ elim (cases_lt j i) [
          | inl less ↦ absurd (open_q (before_i j q less at_j))
          | inr also ↦
              let same : i ≡ j = omega (arith, upto, also) in
              same_Some p q (sym (subst (λ k. slice_get queries k ≡ Some p) same at_i) ∙ at_j)
        ]
      ]

  clash_opens : (query : Query) (state : List Bool) → length state ≡ atoms
      → clash query state ≡ true
      → DecidesNothing Passes clash atoms query → ⊥
  clash_opens query state size is settled = let both : true ≡ false = sym is
      ∙ settled.1 state size in cc (both)

  decided_once : (v w : Verdict) → IsDecided Passes clash atoms queries v
      → IsDecided Passes clash atoms queries w → IsSame v w
  decided_once V.True V.True is also = tt
  decided_once V.True (V.False other) is also =
      clash_opens also.0 also.3.1.0 also.3.1.2 also.3.1.3 (is also.1.0 also.0 also.1.1)
  decided_once V.True V.Over is also = (is also.1.0 also.0 also.1.1).0 also.2
  decided_once V.True V.NotOffered is also = also
  decided_once (V.False found) V.True is also =
      clash_opens is.0 is.3.1.0 is.3.1.2 is.3.1.3 (also is.1.0 is.0 is.1.1)
  decided_once (V.False found) (V.False other) is also =
      let same : is.0 ≡ also.0 = first_once is.0 also.0 is.1
      (clash_opens is.0 is.3.1.0 is.3.1.2 is.3.1.3) also.1
      (clash_opens also.0 also.3.1.0 also.3.1.2 also.3.1.3) in
      is.3.0 ∙ (ap (λ (x : Query). x.action) same ∙ sym also.3.0)
  decided_once (V.False found) V.Over is also =
      let same : is.0 ≡ also.0 = first_once is.0 also.0 is.1
      (clash_opens is.0 is.3.1.0 is.3.1.2 is.3.1.3) also.1 (λ settled. settled.0 also.2) in
      is.2 (subst Passes (sym same) also.2)
  decided_once (V.False found) V.NotOffered is also = also
  decided_once V.Over V.True is also = (also is.1.0 is.0 is.1.1).0 is.2
  decided_once V.Over (V.False other) is also =
      let same : is.0 ≡ also.0 = first_once is.0 also.0 is.1
      (λ settled. settled.0 is.2) also.1 (clash_opens also.0 also.3.1.0 also.3.1.2 also.3.1.3)
      in
      also.2 (subst Passes same is.2)
  decided_once V.Over V.Over is also = tt
  decided_once V.Over V.NotOffered is also = also
  decided_once V.NotOffered w is also = absurd is

module _ (setting : Setting) (left right : Signed) where
  cost_once : (a b : ℕ) → cost_of setting.nodes left right ≡ Some a
      → cost_of setting.nodes left right ≡ Some b → a ≡ b
  cost_once a b is also = same_Some a b (sym is ∙ also)

  no_cost : (a : ℕ) → cost_of setting.nodes left right ≡ Some a
      → cost_of setting.nodes left right ≡ None → ⊥
  no_cost a is none = let both : Some a ≡ None = sym is ∙ none in cc (both)

  not_both : (state : List Bool) → is_between setting left right state ≡ true
      → is_between setting left right state ≡ false → ⊥
  not_both state is out = let both : true ≡ false = sym is ∙ out in cc (both)

  sides_once : (v w : Verdict) → IsVerdictOfSides setting left right v
      → IsVerdictOfSides setting left right w → IsSame v w
  sides_once V.True V.True is also = tt
  sides_once V.True (V.False other) is also = not_both also.2.0 also.2.3 (is.1 also.2.0 also.2.2)
  sides_once V.True V.Over is also = let same = cost_once is.0.0 also.0 is.0.1 also.1 in
      let upto = is.0.2 in let past = also.2 in omega (arith, same, upto, past)
  sides_once V.True V.NotOffered is also = no_cost is.0.0 is.0.1 also
  sides_once (V.False found) V.True is also = not_both is.2.0 is.2.3 (also.1 is.2.0 is.2.2)
  sides_once (V.False found) (V.False other) is also = is.1 ∙ sym also.1
  sides_once (V.False found) V.Over is also = let same = cost_once is.0.0 also.0 is.0.1 also.1 in
      let upto = is.0.2 in let past = also.2 in omega (arith, same, upto, past)
  sides_once (V.False found) V.NotOffered is also = no_cost is.0.0 is.0.1 also
  sides_once V.Over V.True is also = let same = cost_once is.0 also.0.0 is.1 also.0.1 in
      let upto = also.0.2 in let past = is.2 in omega (arith, same, upto, past)
  sides_once V.Over (V.False other) is also = let same = cost_once is.0 also.0.0 is.1 also.0.1 in
      let upto = also.0.2 in let past = is.2 in omega (arith, same, upto, past)
  sides_once V.Over V.Over is also = tt
  sides_once V.Over V.NotOffered is also = no_cost is.0 is.1 also
  sides_once V.NotOffered V.True is also = no_cost also.0.0 also.0.1 is
  sides_once V.NotOffered (V.False other) is also = no_cost also.0.0 also.0.1 is
  sides_once V.NotOffered V.Over is also = no_cost also.0 also.1 is
  sides_once V.NotOffered V.NotOffered is also = tt

module _ (task : Strips) (lines : List Line) (first second : ℕ) where
  outside_once : (a b : ℕ) → IsOutside task lines first second a
      → ((lower : ℕ) → lower < a → IsOutside task lines first second lower → ⊥)
      → IsOutside task lines first second b
      → ((lower : ℕ) → lower < b → IsOutside task lines first second lower → ⊥) → a ≡ b
  outside_once a b out before also earlier =
      elim (cases_lt a b) [
        | inl less ↦ absurd (earlier a less out)
        | inr upto ↦ elim (cases_lt b a) [
          | inl less ↦ absurd (before b less also)
          | inr more ↦ omega (arith, upto, more)
        ]
      ]

  acts_verdict_once : (v w : Verdict) → IsVerdictOfActs task lines first second v
      → IsVerdictOfActs task lines first second w → IsSame v w
  acts_verdict_once V.True V.True is also = tt
  acts_verdict_once V.True (V.False other) is also = is also.0 also.3
  acts_verdict_once V.True V.Over is also = also
  acts_verdict_once V.True V.NotOffered is also = also
  acts_verdict_once (V.False found) V.True is also = also is.0 is.3
  acts_verdict_once (V.False found) (V.False other) is also =
      is.1 ∙ (ap Some (outside_once is.0 also.0 is.3 is.4 also.3 also.4) ∙ sym also.1)
  acts_verdict_once (V.False found) V.Over is also = also
  acts_verdict_once (V.False found) V.NotOffered is also = also
  acts_verdict_once V.Over w is also = absurd is
  acts_verdict_once V.NotOffered w is also = absurd is

module _ (setting : Setting) (lines : List Line) where
  DecidedBy : QuestionState → Verdict → Type 0
  DecidedBy q v =
      IsDecided (PassesBudget setting lines q.family)
      (is_clash setting.task (has_of setting lines q.family)) (atoms setting.task)
      (queries_of setting.task lines q) v

  by_queries : (q : QuestionState) (v w : Verdict) → DecidedBy q v → DecidedBy q w → IsSame v w
  unfolding DecidedBy
  by_queries q v w is also =
      decided_once (PassesBudget setting lines q.family)
      (is_clash setting.task (has_of setting lines q.family))
      (atoms setting.task) (queries_of setting.task lines q) v w is also

  sets_verdict_once : (question : QuestionState) (v w : Verdict)
      → IsVerdictOfSets setting lines question v
      → IsVerdictOfSets setting lines question w → IsSame v w
  unfolding DecidedBy
  sets_verdict_once q V.NotOffered V.NotOffered is also = tt
  sets_verdict_once q V.NotOffered V.True is also = is also.0
  sets_verdict_once q V.NotOffered V.Over is also = is also.0
  sets_verdict_once q V.NotOffered (V.False other) is also = is also.0
  sets_verdict_once q V.True V.NotOffered is also = also is.0
  sets_verdict_once q V.Over V.NotOffered is also = also is.0
  sets_verdict_once q (V.False found) V.NotOffered is also = also is.0
  sets_verdict_once q V.True V.True is also = tt
  sets_verdict_once q V.Over V.Over is also = tt
  sets_verdict_once q V.True (V.False other) is also = by_queries q V.True (V.False other) is.1
      also.1
  sets_verdict_once q V.True V.Over is also = by_queries q V.True V.Over is.1 also.1
  sets_verdict_once q V.Over V.True is also = by_queries q V.Over V.True is.1 also.1
  sets_verdict_once q V.Over (V.False other) is also = by_queries q V.Over (V.False other) is.1
      also.1
  sets_verdict_once q (V.False found) V.True is also = by_queries q (V.False found) V.True is.1
      also.1
  sets_verdict_once q (V.False found) V.Over is also = by_queries q (V.False found) V.Over is.1
      also.1
  sets_verdict_once q (V.False found) (V.False other) is also = by_queries q (V.False found)
      (V.False other) is.1 also.1

  -- two formulas have one verdict
  two_verdict_once : (x y : ℕ × Bool) (v w : Verdict) → IsVerdictOfTwo setting lines x y v
      → IsVerdictOfTwo setting lines x y w → IsSame v w
  two_verdict_once x y v w (a, b, at_a, at_b, is) (c, d, at_c, at_d, also) =
      let first : a ≡ c = same_Some a c (sym at_a ∙ at_c) in
      let second : b ≡ d = same_Some b d (sym at_b ∙ at_d) in
      sides_once setting (c, x.1) (d, y.1) v w
      (subst (λ e. IsVerdictOfSides setting (c, x.1) (e, y.1) v) second
      (subst (λ e. IsVerdictOfSides setting (e, x.1) (b, y.1) v) first is)) also

  verdict_of_once : (basic : BasicState) (v w : Verdict) → IsVerdictOf setting lines basic v
      → IsVerdictOf setting lines basic w → IsSame v w
  verdict_of_once (OfSets word question) v w is also = sets_verdict_once question v w is also
  verdict_of_once (OfTwo x y) v w is also = two_verdict_once x y v w is also
  verdict_of_once (OfActs first second) v w is also = acts_verdict_once setting.task lines first
      second v w is also

  -- two formulas with their signs are those of the sides
  two_once : (left right : ℕ) (x y u v : ℕ × Bool) → AreTwo lines left right x y
      → AreTwo lines left right u v → OfTwo x y ≡ OfTwo u v
  two_once left right x y u v is also =
      let first = literal_once lines left x.0 u.0 x.1 u.1 is.left_is also.left_is in
      let second = literal_once lines right y.0 v.0 y.1 v.1 is.right_is also.right_is in
      λ i. OfTwo (first.0 i, first.1 i) (second.0 i, second.1 i)

  -- a statement with its word asks one thing
  pub shaped_once : (statement : Statement) (word : Word) (a b : BasicState)
      → IsShaped lines statement word a → IsShaped lines statement word b → a ≡ b
  shaped_once (T.Sub left right) word (OfSets w p) (OfSets u q) is also =
      let same : p ≡ q = question_once lines word left right p q is.1 also.1 in
      let words : w ≡ u = is.0 ∙ sym also.0 in
      λ i. OfSets (words i) (same i)
  shaped_once (T.Sub left right) word (OfSets w p) (OfTwo u v) is also = absurd
      (two_no_question lines word left right p also.0 is.1)
  shaped_once (T.Sub left right) word (OfSets w p) (OfActs c d) is also = absurd also
  shaped_once (T.Sub left right) word (OfTwo x y) (OfTwo u v) is also = two_once left right x y u v
      is.1 also.1
  shaped_once (T.Sub left right) word (OfTwo x y) (OfSets u q) is also = absurd
      (two_no_question lines word left right q is.0 also.1)
  shaped_once (T.Sub left right) word (OfTwo x y) (OfActs c d) is also = absurd also
  shaped_once (T.Sub left right) word (OfActs c d) b is also = absurd is
  shaped_once (T.ActSub left right) W.B5 (OfActs c d) (OfActs e f) is also =
      let first : c ≡ e = is.0 ∙ sym also.0 in
      let second : d ≡ f = is.1 ∙ sym also.1 in
      λ i. OfActs (first i) (second i)
  shaped_once (T.ActSub left right) W.B5 (OfActs c d) (OfSets u q) is also = absurd also
  shaped_once (T.ActSub left right) W.B5 (OfActs c d) (OfTwo u v) is also = absurd also
  shaped_once (T.ActSub left right) W.B5 (OfSets w p) b is also = absurd is
  shaped_once (T.ActSub left right) W.B5 (OfTwo x y) b is also = absurd is
  shaped_once (T.ActSub left right) _ a b is also = absurd is
  shaped_once (T.Dead set) word a b is also = absurd is
  shaped_once T.Unsolvable word a b is also = absurd is

  pub verdict_once : (statement : Statement) (word : Word) (v w : Verdict)
      → IsVerdict setting lines statement word v
      → IsVerdict setting lines statement word w → IsSame v w
  verdict_once statement word v w (a, shaped, is) (b, formed, also) =
      verdict_of_once b v w (subst (λ x. IsVerdictOf setting lines x v)
      (shaped_once statement word a b shaped formed) is) also

  -- whether a state is named, and nothing of it
  abbrev bare : Option (List Bool) → Option (List Bool)
  bare state = option_map (λ _. []) state

  -- two counterexamples to a statement are one, but for the state
  module _ (a b : Clash) where
    both_stated : (s t : Option (List Bool)) (x y : List Bool) → s ≡ Some x → t ≡ Some y
        → bare s ≡ bare t
    both_stated s t x y is also = ap bare is ∙ sym (ap bare also)

    outlines : a.action ≡ b.action → bare a.state ≡ bare b.state
        → without_state (R.False a) ≡ without_state (R.False b)
    outlines actions states = λ i. R.False (record { action = actions i; state = states i })

    clash_of_once : (basic : BasicState) → IsVerdictOf setting lines basic (V.False a)
        → IsVerdictOf setting lines basic (V.False b)
        → without_state (R.False a) ≡ without_state (R.False b)
    clash_of_once (OfSets word question) is also =
        outlines (verdict_of_once (OfSets word question) (V.False a) (V.False b) is also)
        (both_stated a.state b.state is.1.3.1.0 also.1.3.1.0 is.1.3.1.1 also.1.3.1.1)
    clash_of_once (OfTwo x y) is also =
        outlines (verdict_of_once (OfTwo x y) (V.False a) (V.False b) is also)
        (both_stated a.state b.state is.4.2.0 also.4.2.0 is.4.2.1 also.4.2.1)
    clash_of_once (OfActs first second) is also =
        outlines (verdict_of_once (OfActs first second) (V.False a) (V.False b) is also)
        (ap bare (is.2 ∙ sym also.2))

    pub clash_once : (statement : Statement) (word : Word)
        → IsVerdict setting lines statement word (V.False a)
        → IsVerdict setting lines statement word (V.False b)
        → without_state (R.False a) ≡ without_state (R.False b)
    clash_once statement word (x, shaped, is) (y, formed, also) =
        clash_of_once y (subst (λ z. IsVerdictOf setting lines z (V.False a))
        (shaped_once statement word x y shaped formed) is) also
