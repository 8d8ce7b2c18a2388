-- Settled clauses of one kind: they are true where the open atoms are left out, or where the marks
-- are put over a state in which they are true.
use Rattle.std.proofs.Common.{◌≡◌, ℕ, ◌<◌, ◌∙◌, Bool, true, false, not, cond, List, [], ◌∷◌, length}
use Rattle.std.proofs.Common.{get_or, None, Some, refl, sym, ap, subst, arith, inl, inr}
use Rattle.std.proofs.lemmas.Bool.{and_from, and_parts}
use Rattle.std.proofs.lemmas.List.Elements.{All-contains, All-cons, All-from_get_or, All-head}
use Rattle.std.proofs.lemmas.List.Elements.{All-nil, All-tail}
use Rattle.std.proofs.lemmas.List.Folds.{list_any_at}
use Rattle.std.specs.List.{All, Contains}
use Rattle.hv_task.specs.State.{has_atom}
use Rattle.hv_sets.specs.declared.literal.Literal.{Literal}
use Rattle.hv_sets.specs.Cubes.{SpeakBelow}
use Rattle.hv_formula.specs.Kinded.{CompletesClauses}
use Rattle.hv_sets.specs.Truth.{in_clause, in_clauses, in_literal}
use Rattle.hv_propagation.specs.declared.completion.Completion.{Completion}
use Rattle.hv_propagation.specs.declared.completion.Completion.TheVariants as C
use Rattle.hv_propagation.specs.Clauses.{AreClauses}
use Rattle.hv_propagation.specs.Completion.{Completes}
use Rattle.hv_propagation.specs.Marks.{filled, known, or_else, over, AllKnown, low}
use Rattle.hv_propagation.specs.Units.{IsSettled, value_of, AreSettled}
use Rattle.hv_propagation.proofs.Marked.{agrees_filled, agrees_over, has_atom-filled}
use Rattle.hv_propagation.proofs.Marked.{has_atom-over_none, length-filled, length-over, value_none}
use Rattle.hv_propagation.proofs.Marked.{value_open, value_true}

-- a literal that is true makes its clause true
pub clause_true : (clause : List Literal) (l : Literal) (state : List Bool) → Contains clause l
    → in_literal l state ≡ true
    → in_clause clause state ≡ true
clause_true clause l state c e =
    list_any_at (λ l. in_literal l state) clause c.0 l c.1 (ap (λ k. in_literal k state) c.2 ∙ e)

-- each clause is true where all are, and the other way round
pub clauses_true : (clauses : List (List Literal)) (state : List Bool)
    → All (λ clause. in_clause clause state ≡ true) clauses
    → in_clauses clauses state ≡ true
clauses_true [] state all = refl
clauses_true (clause ∷ clauses) state all =
    and_from (in_clause clause state) (in_clauses clauses state)
    (All-head (λ clause. in_clause clause state ≡ true) clause clauses all)
    (clauses_true clauses state (All-tail (λ clause. in_clause clause state ≡ true) clause clauses
    all))

pub each_true : (clauses : List (List Literal)) (state : List Bool)
    → in_clauses clauses state ≡ true
    → All (λ clause. in_clause clause state ≡ true) clauses
each_true [] state e = All-nil (λ clause. in_clause clause state ≡ true)
each_true (clause ∷ clauses) state e =
    let parts = and_parts (in_clause clause state) (in_clauses clauses state) e in
    All-cons (λ clause. in_clause clause state ≡ true) clause clauses parts.0
    (each_true clauses state parts.1)

module _ (effect marks : List ℕ) where
  -- an open literal is true where its atom has the value of its sign
  pub open_filled : (value : Bool) (l : Literal) → l.positive ≡ value
      → value_of effect marks l ≡ None → l.atom < length marks
      → in_literal l (over effect (filled value marks)) ≡ true
  open_filled value l sign none within =
      let long = length-filled value marks in
      value_open effect marks l (filled value marks) none (omega arith)
      ∙ of_sign l.positive value (has_atom (filled value marks) l.atom) sign
      (has_atom-filled value marks l.atom within
      ∙ ap (λ o. or_else o value) (value_none effect marks l none).1)
    where
      of_sign : (positive value flag : Bool) → positive ≡ value → flag ≡ value
          → cond positive flag (not flag) ≡ true
      of_sign true true flag e f = f
      of_sign true false flag e f = absurd (cc)
      of_sign false true flag e f = absurd (cc)
      of_sign false false flag e f = ap not f

  -- a literal that is known to be true is true in each state with the marks over it
  pub known_true : (l : Literal) (state : List Bool) → length marks ≡ length state
      → value_of effect marks l ≡ Some true
      → l.atom < length marks
      → in_literal l (over effect (over marks state)) ≡ true
  known_true l state size e within =
      let long = length-over marks state in
      value_true effect marks l (over marks state) e (agrees_over marks state size) (omega arith)

  -- an open literal is as it was when the marks are put over the state
  pub open_over : (l : Literal) (state : List Bool) → length marks ≡ length state
      → value_of effect marks l ≡ None
      → l.atom < length marks
      → in_literal l (over effect (over marks state)) ≡ in_literal l (over effect state)
  open_over l state size none within =
      let long = length-over marks state in
      value_open effect marks l (over marks state) none (omega arith)
      ∙ ap (λ f. cond l.positive f (not f))
      (has_atom-over_none marks state l.atom (value_none effect marks l none).1)
      ∙ sym (value_open effect marks l state none (omega arith))

  module _ (clause : List Literal) (speaks : SpeakBelow (length marks) clause) where
    pub below : (l : Literal) → Contains clause l → l.atom < length marks
    below l c = All-contains (λ l. l.atom < length marks) clause l speaks c

    pub known_filled : (value : Bool) (l : Literal) → Contains clause l
        → value_of effect marks l ≡ Some true
        → in_clause clause (over effect (filled value marks)) ≡ true
    known_filled value l c e =
        let long = length-filled value marks in
        clause_true clause l (over effect (filled value marks)) c
        (value_true effect marks l (filled value marks) e (agrees_filled value marks)
        (let within = below l c in omega arith))

    -- a settled clause has a literal that is known to be true where nothing is open
    pub clause_known : AllKnown (length marks) marks → IsSettled effect marks clause
        → in_clause clause (over effect (low marks)) ≡ true
    clause_known all settled =
        elim settled [
          | inl it ↦ known_filled false it.0 it.1 it.2
          | inr two ↦ absurd (all two.0.atom (below two.0 two.2)
              (value_none effect marks two.0 two.5).1)
        ]

module _ (n : ℕ) (effect : List ℕ) (clauses : List (List Literal)) (marks : List ℕ)
    (size : length marks ≡ n)
    (speak : AreClauses n clauses)
    (settled : AreSettled effect clauses marks) where
  speaks_at : (k : ℕ) → k < length clauses → SpeakBelow (length marks) (get_or clauses k [])
  speaks_at k within = subst (λ bound. SpeakBelow bound (get_or clauses k [])) (sym size)
      (speak k [] within)

  module _ (IsOf : List Literal → Type 0) (kind : All IsOf clauses) where
    filled_true : (value : Bool) → CompletesClauses (C.Fill value) IsOf
        → in_clauses clauses (over effect (filled value marks)) ≡ true
    filled_true value law =
        clauses_true clauses (over effect (filled value marks))
        (All-from_get_or (λ clause. in_clause clause (over effect (filled value marks)) ≡ true)
        clauses []
        (λ k within. law effect marks (get_or clauses k []) (speaks_at k within) (kind k [] within)
        (settled k [] within)))

    over_true : CompletesClauses C.Try IsOf → (state : List Bool) → length state ≡ n
        → in_clauses clauses (over effect state) ≡ true
        → in_clauses clauses (over effect (over marks state)) ≡ true
    over_true law state long e =
        let all = each_true clauses (over effect state) e in
        clauses_true clauses (over effect (over marks state))
        (All-from_get_or (λ clause. in_clause clause (over effect (over marks state)) ≡ true)
        clauses []
        (λ k within.
        law effect marks (get_or clauses k []) (speaks_at k within) state (size ∙ sym long)
        (kind k [] within)
        (settled k [] within)
        (all k [] within)))

  pub all_known : AllKnown n marks → in_clauses clauses (over effect (low marks)) ≡ true
  all_known known =
      clauses_true clauses (over effect (low marks))
      (All-from_get_or (λ clause. in_clause clause (over effect (low marks)) ≡ true) clauses []
      (λ k within.
      clause_known effect marks (get_or clauses k []) (speaks_at k within)
      (subst (λ bound. AllKnown bound marks) (sym size) known)
      (settled k [] within)))

-- settled marks can be completed for clauses of one kind
pub completes : (how : Completion) (IsOf : List Literal → Type 0) → CompletesClauses how IsOf
    → (n : ℕ) (effect : List ℕ)
    (clauses : List (List Literal)) → AreClauses n clauses → All IsOf clauses
    → Completes how (λ state. in_clauses clauses (over effect state) ≡ true)
    (AreSettled effect clauses) n
completes (C.Fill value) IsOf law n effect clauses speak kind = λ marks size settled.
    filled_true n effect clauses marks size speak settled IsOf kind value law
completes C.Try IsOf law n effect clauses speak kind = (
  λ marks state size long settled e. over_true n effect clauses marks size speak settled IsOf kind
      law state long e,
  λ marks size known settled. all_known n effect clauses marks size speak settled known,
)
