-- Clauses that are true in each state of a cube, and cubes as marks.
use Rattle.std.proofs.Common.{◌≡◌, ℕ, ◌<◌, ◌∙◌, Bool, true, false, List, [], length, get_or, None}
use Rattle.std.proofs.Common.{Some, refl, sym, ap, arith, subst}
use Rattle.std.proofs.lemmas.Bool.{true_from_ne_false}
use Rattle.std.proofs.lemmas.Bool.Decides.{Decides-by_and}
use Rattle.std.proofs.lemmas.List.Elements.{All-contains}
use Rattle.std.proofs.lemmas.List.Folds.{list_all_at, list_any_none}
use Rattle.std.specs.List.{Contains}
use Rattle.hv_sets.specs.declared.literal.Literal.{Literal}
use Rattle.hv_sets.specs.Cubes.{SpeakBelow}
use Rattle.hv_sets.specs.Truth.{in_clause, in_clauses, in_cube, in_literal}
use Rattle.hv_sets.specs.Walks.{Covers}
use Rattle.hv_propagation.specs.Clauses.{AreClauses}
use Rattle.hv_propagation.proofs.Holding.{clause_true, in_cube-Decides}
use Rattle.hv_propagation.specs.Marks.{known, over, Agrees, KeepsKnown, low}
use Rattle.hv_propagation.specs.Units.{value_of, AreFalse, AreKnownTrue, IsConcluded}
use Rattle.hv_propagation.proofs.Marked.{agrees_extends, agrees_low, length-low, over-nil}
use Rattle.hv_propagation.proofs.Marked.{value_false, value_true}

module _ (clause : List Literal) (marks : List ℕ) (state : List Bool)
    (size : length state ≡ length marks)
    (agrees : Agrees marks state) where
  -- a clause with a literal that is known to be true is true
  pub true_where_known : SpeakBelow (length marks) clause
      → (l : Literal) × Contains clause l × (value_of [] marks l ≡ Some true)
      → in_clause clause state ≡ true
  true_where_known speaks found =
      let within : found.0.atom < length state =
      let less = All-contains (λ (l : Literal). l.atom < length marks) clause found.0 speaks
      found.1 in omega arith in
      clause_true clause state found.0 found.1
      (ap (in_literal found.0) (sym (over-nil state))
      ∙ value_true [] marks found.0 state found.2 agrees within)

  -- and so is one that can't be denied
  pub true_where_undenied : ((state : List Bool) → length state ≡ length marks
      → in_clause clause (over [] state) ≡ false
      → Agrees marks state → ⊥)
      → in_clause clause state ≡ true
  true_where_undenied broken =
      true_from_ne_false (in_clause clause state)
      (λ e. broken state size (ap (in_clause clause) (over-nil state) ∙ e) agrees)

-- with marks that say nothing each state agrees
pub agrees_none : (marks : List ℕ) → ((p : ℕ) → known marks p ≡ None) → (state : List Bool)
    → Agrees marks state
agrees_none marks none state = λ atom value e. let f = none atom in absurd cc

-- a cube that was forced where there is no effect
pub forced_cube : (e : List ℕ) (cube : List Literal) (m k : List ℕ) (r : Bool) → e ≡ []
    → IsConcluded (λ state. in_cube cube (over e state) ≡ true) (AreKnownTrue e cube) m k r
    → IsConcluded (λ state. in_cube cube (over [] state) ≡ true) (AreKnownTrue [] cube) m k r
forced_cube e cube m k r none one =
    subst (λ x. IsConcluded (λ state. in_cube cube (over x state) ≡ true) (AreKnownTrue x cube) m k
    r) none one

-- each state that agrees with marks by which the literals of a cube are true is in the cube
pub cube_holds : (cube : List Literal) (m : List ℕ) (state : List Bool) → AreKnownTrue [] cube m
    → SpeakBelow (length state) cube → Agrees m state
    → in_cube cube state ≡ true
cube_holds cube m state all speaks agrees =
    (in_cube-Decides cube state).1
    (λ k d within.
    let l = get_or cube k d in
    ap (in_literal l) (sym (over-nil state))
    ∙ value_true [] m l state (all k d within) agrees (speaks k d within))

-- marks to which the literals of a cube were forced, from marks that say nothing
module _ (cube : List Literal) (clear firm : List ℕ) (result : Bool)
    (none : (p : ℕ) → known clear p ≡ None)
    (forced : IsConcluded (λ state. in_cube cube (over [] state) ≡ true) (AreKnownTrue [] cube)
    clear firm result) where
  -- no state is in a cube that can't be forced
  pub cube_empty : result ≡ false → (state : List Bool) → length state ≡ length clear
      → in_cube cube state ≡ true → ⊥
  cube_empty failed state size inside =
      forced.broken failed state size (ap (in_cube cube) (over-nil state) ∙ inside)
      (agrees_none clear none state)

  -- each state of the cube agrees with the marks
  pub cube_agrees : (state : List Bool) → length state ≡ length clear → in_cube cube state ≡ true
      → Agrees firm state
  cube_agrees state size inside =
      forced.follows state size (ap (in_cube cube) (over-nil state) ∙ inside)
      (agrees_none clear none state)

  -- each state that agrees with the marks is in the cube
  pub agrees_cube : result ≡ true → SpeakBelow (length clear) cube → (state : List Bool)
      → length state ≡ length clear
      → Agrees firm state
      → in_cube cube state ≡ true
  agrees_cube done speaks state size agrees =
      (in_cube-Decides cube state).1
      (λ k d within.
      let l = get_or cube k d in
      let less = speaks k d within in
      ap (in_literal l) (sym (over-nil state))
      ∙ value_true [] firm l state (forced.done done k d within) agrees (omega arith))

-- the state of the atoms that are marked as in is outside clauses, one of which has only literals
-- that are known to be false
pub outside_low : (clauses : List (List Literal)) (place : ℕ) (clause : List Literal)
    (marks : List ℕ) → place < length clauses
    → clause ≡ get_or clauses place clause → SpeakBelow (length marks) clause
    → AreFalse [] clause marks
    → in_clauses clauses (low marks) ≡ false
outside_low clauses place clause marks within at speaks lies =
    list_all_at (λ c. in_clause c (low marks)) clauses place clause within
    (ap (λ c. in_clause c (low marks)) (sym at)
    ∙ list_any_none (λ l. in_literal l (low marks)) clause
    (λ k d less.
    let l = get_or clause k d in
    let size = length-low marks in
    let below = speaks k d less in
    ap (in_literal l) (sym (over-nil (low marks)))
    ∙ value_false [] marks l (low marks) (lies k d less) (agrees_low marks) (omega arith)))

-- clauses each of which is true
pub all_true : (clauses : List (List Literal)) (state : List Bool)
    → ((k : ℕ) (d : List Literal) → k < length clauses
    → in_clause (get_or clauses k d) state ≡ true)
    → in_clauses clauses state ≡ true
all_true clauses state each =
    (Decides-by_and (λ (c : List Literal). in_clause c state)
    (λ (c : List Literal). in_clause c state ≡ true)
    (λ cs. in_clauses cs state)
    (λ c. (λ e. e, λ e. e)) refl (λ _ _. refl) clauses).1 each

-- the state of the atoms that are marked as in is a state of the cube outside the clauses
pub outside_found : (atoms : ℕ) (clauses : List (List Literal)) (cube : List Literal)
    (clear firm trial : List ℕ) (place : ℕ)
    (clause literals : List Literal) (found : List Bool)
    → ((p : ℕ) → known clear p ≡ None)
    → IsConcluded (λ state. in_cube cube (over [] state) ≡ true) (AreKnownTrue [] cube) clear firm
    true
    → length clear ≡ atoms → length trial ≡ atoms → AreClauses atoms clauses → SpeakBelow atoms cube
    → place < length clauses → clause ≡ get_or clauses place clause → literals ≡ clause
    → AreFalse [] literals trial → KeepsKnown firm trial → found ≡ low trial
    → Covers false atoms (in_clauses clauses) cube found
outside_found atoms clauses cube clear firm trial place clause literals found none forced clear_size
    trial_size
    speak cube_speaks within at same lies grows is =
    subst (λ s. Covers false atoms (in_clauses clauses) cube s) (sym is) (record {
      of_task = size;
      of_cube = agrees_cube cube clear firm true none forced refl
          (subst (λ n. SpeakBelow n cube) (sym clear_size) cube_speaks)
          (low trial) (size ∙ sym clear_size) (agrees_extends firm trial (low trial) grows
          (agrees_low trial));
      of_set = outside_low clauses place clause trial within at
          (subst (λ n. SpeakBelow n clause) (sym trial_size)
          (subst (SpeakBelow atoms) (sym at) (speak place clause within)))
          (subst (λ ls. AreFalse [] ls trial) same lies);
    })
  where
    size : length (low trial) ≡ atoms
    size = length-low trial ∙ trial_size
