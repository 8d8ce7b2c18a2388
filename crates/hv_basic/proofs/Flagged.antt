-- An action that can turn a literal changes an atom that has a flag.
use Rattle.std.proofs.Common.{◌≡◌, ℕ, ◌<◌, Bool, true, false, List, Some, refl, sym}
use Rattle.std.proofs.Common.{inl, inr, slice_get, subst}
use Rattle.std.proofs.lemmas.List.Elements.{All-contains}
use Rattle.std.proofs.lemmas.Option.{get_or_from_slice_get, slice_get_within}
use Rattle.std.specs.List.{All, Contains}
use Rattle.hv_task.specs.declared.action.Action.{Action}
use Rattle.hv_task.specs.Strips.{IsOver, IsTask, Strips, atoms}
use Rattle.hv_sets.specs.declared.literal.Literal.{Literal}
use Rattle.hv_basic.specs.ChangeRows.{changed_to}
use Rattle.hv_basic.specs.Working.Flags.{flag_or_false}
use Rattle.hv_basic.specs.Working.Framed.{AreFlagsFor, CanTurn, ChangesOne, IsFlagged}
use Rattle.hv_basic.specs.Working.Framed.{sign_to}

pub over_at : (task : Strips) → IsTask task → (number : ℕ) (action : Action)
    → slice_get task.actions number ≡ Some action → IsOver (atoms task) action
over_at task is number action at =
    subst (IsOver (atoms task)) (get_or_from_slice_get task.actions number action action at)
    (is.actions number action (slice_get_within task.actions number action at))

module _ (n : ℕ) (clauses : List (List Literal)) (value : Bool) (action : Action)
    (over : IsOver n action) (clause : List Literal) (literal : Literal)
    (among : Contains clauses clause) (inside : Contains clause literal)
  where
    flag_set : (sign : Bool) (flags : List Bool) → AreFlagsFor value sign n clauses flags
        → sign_to value literal.positive ≡ sign → literal.atom < n
        → flag_or_false flags literal.atom ≡ true
    flag_set sign flags are is below =
        All-contains (IsFlagged value sign flags) clause literal
        (All-contains (λ c. All (IsFlagged value sign flags) c) clauses clause are.1 among) inside is (subst (λ m. literal.atom < m) (sym are.0) below)

    -- the action that can turn the literal changes an atom with a flag
    pub changes_flagged : (added deleted : List Bool) → AreFlagsFor value true n clauses added
        → AreFlagsFor value false n clauses deleted → CanTurn value literal action
        → ChangesOne added deleted action
    changes_flagged added deleted adds deletes turns =
        by (sign_to value literal.positive) refl
      where
        by : (sign : Bool) → sign_to value literal.positive ≡ sign → ChangesOne added deleted action
        by true e =
            let has = subst (λ s. Contains (changed_to s action) literal.atom) e turns in
            inl (
              literal.atom,
              has,
              flag_set true added adds e
                  (All-contains (λ a. a < n) action.add literal.atom over.add has),
            )
        by false e =
            let has = subst (λ s. Contains (changed_to s action) literal.atom) e turns in
            inr (
              literal.atom,
              has,
              flag_set false deleted deletes e
                  (All-contains (λ a. a < n) action.del literal.atom over.del has),
            )
