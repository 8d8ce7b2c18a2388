-- Whether clauses are true in some state of a cube.
use Rattle.std.proofs.Common.{◌≡◌, ℕ, ◌∙◌, Bool, true, false, List, [], length, refl, sym, ap}
use Rattle.std.proofs.Common.{subst}
use Rattle.std.proofs.lemmas.Bool.{false_from_ne_true}
use Rattle.hv_sets.specs.declared.literal.Literal.{Literal}
use Rattle.hv_sets.specs.Cubes.{SpeakBelow}
use Rattle.hv_sets.specs.Truth.{in_clauses, in_cube}
use Rattle.hv_sets.specs.Walks.{Meets}
use Rattle.hv_propagation.specs.Chase.{IsFollowed}
use Rattle.hv_propagation.specs.Completion.{IsCompleted}
use Rattle.hv_propagation.specs.Marks.{over, Agrees}
use Rattle.hv_propagation.specs.Trail.{Knowledge, marks_of}
use Rattle.hv_propagation.specs.Units.{AreKnownTrue, IsConcluded}
use Rattle.hv_propagation.proofs.Covered.{cube_holds}
use Rattle.hv_propagation.proofs.Marked.{agrees_extends, over-nil}
use Rattle.hv_propagation.proofs.Trailed.{length-marks}

-- What is known before follows from the clauses, and then the literals of the cube were made true.
module _ (atoms : ℕ) (clauses : List (List Literal)) (cube : List Literal)
    (start forced : Knowledge) (wide : length start.roots ≡ atoms)
    (follows : (state : List Bool) → length state ≡ length start.roots
    → in_clauses clauses state ≡ true → Agrees (marks_of start) state) where
  agrees_start : (state : List Bool) → length state ≡ atoms → in_clauses clauses state ≡ true
      → Agrees (marks_of start) state
  agrees_start state size holds = follows state (size ∙ sym wide) holds

  sized : (state : List Bool) → length state ≡ atoms → length state ≡ length (marks_of start)
  sized state size = size ∙ sym (length-marks start ∙ wide)

  -- no state of the clauses is in the cube
  pub meets_unforced : IsConcluded (λ state. in_cube cube (over [] state) ≡ true)
      (AreKnownTrue [] cube) (marks_of start) (marks_of forced) false
      → (found : List Bool) → Meets false atoms (in_clauses clauses) cube found
  meets_unforced first found = λ state size inside.
      false_from_ne_true (in_clauses clauses state)
      (λ holds. first.broken refl state (sized state size)
      (ap (in_cube cube) (over-nil state) ∙ inside) (agrees_start state size holds))

  module _ (first : IsConcluded (λ state. in_cube cube (over [] state) ≡ true)
      (AreKnownTrue [] cube) (marks_of start) (marks_of forced) true)
      (same : forced.roots ≡ start.roots) (closed : Knowledge) where
    agrees_forced : (state : List Bool) → length state ≡ atoms → in_cube cube state ≡ true
        → in_clauses clauses state ≡ true → Agrees (marks_of forced) state
    agrees_forced state size inside holds =
        first.follows state (sized state size) (ap (in_cube cube) (over-nil state) ∙ inside)
        (agrees_start state size holds)

    forced_wide : (state : List Bool) → length state ≡ atoms → length state ≡ length forced.roots
    forced_wide state size = size ∙ sym (ap length same ∙ wide)

    -- no state that agrees with what is known meets the clauses
    pub meets_never : IsFollowed (λ state. in_clauses clauses (over [] state) ≡ true) forced closed
        false
        → (found : List Bool) → Meets false atoms (in_clauses clauses) cube found
    meets_never second found = λ state size inside.
        false_from_ne_true (in_clauses clauses state)
        (λ holds. second.broken refl state (forced_wide state size)
        (ap (in_clauses clauses) (over-nil state) ∙ holds)
        (agrees_forced state size inside holds))

    -- what is known was completed to a state, or no state meets the clauses
    pub meets_completed : SpeakBelow atoms cube
        → IsFollowed (λ state. in_clauses clauses (over [] state) ≡ true) forced closed true
        → (found : List Bool) → length found ≡ atoms → (result : Bool)
        → IsCompleted (λ state. in_clauses clauses (over [] state) ≡ true) (marks_of closed) found
        result
        → Meets result atoms (in_clauses clauses) cube found
    meets_completed speaks second found long true completed =
        let parts = completed.found refl in
        record {
          of_task = long;
          of_cube = cube_holds cube (marks_of forced) found (first.done refl)
              (subst (λ n. SpeakBelow n cube) (sym long) speaks)
              (agrees_extends (marks_of forced) (marks_of closed) found second.grows parts.1);
          of_set = ap (in_clauses clauses) (sym (over-nil found)) ∙ parts.0;
        }
    meets_completed speaks second found long false completed = λ state size inside.
        false_from_ne_true (in_clauses clauses state)
        (λ holds. completed.refuted refl state
        (size ∙ sym (length-marks closed ∙ (ap length second.roots ∙ (ap length same ∙ wide))))
        (ap (in_clauses clauses) (over-nil state) ∙ holds))
