-- What lists of atoms tell of a log: where the goal is held, and which actions lead out.
use Rattle.std.proofs.Common.{◌≡◌, ◌∙◌, ◌<◌, ◌≤◌, ◌↔◌, ℕ, Bool, true, false, List, Option, Some}
use Rattle.std.proofs.Common.{get_or, length, inl, inr, refl, sym, ap, subst, arith}
use Rattle.std.specs.Prelude.{not, slice_get}
use Rattle.std.proofs.lemmas.Bool.{cases_lt, false_from_ne_true}
use Rattle.std.proofs.lemmas.List.{get_or_default}
use Rattle.std.proofs.lemmas.List.Elements.{All-contains}
use Rattle.std.specs.Global.{Vec}
use Rattle.std.specs.List.{All, Contains}
use Rattle.hv_task.specs.declared.action.Action.{Action}
use Rattle.hv_task.specs.Atoms.{is_after}
use Rattle.hv_task.specs.State.{AreBelow, applicable, has_all, has_atom, names_atom, state_of}
use Rattle.hv_task.specs.State.{successor}
use Rattle.hv_task.specs.Strips.{IsOver, Strips, atoms, is_goal, start_state}
use Rattle.hv_task.proofs.Places.{has_all-Decides, has_atom_past, has_atom-state_of}
use Rattle.hv_task.proofs.Places.{length-state_of, names_atom-Decides}
use Rattle.hv_explicit.specs.Codes.{IsSetOf}
use Rattle.hv_explicit.specs.ListedStates.{ListedStates, in_listing}
use Rattle.hv_explicit.proofs.Clashes.{applies, applies_not, stands_after, stands_list}
use Rattle.hv_lines.proofs.Elements.{cons_cases}
use Rattle.hv_rows.specs.ActionRows.{AreActionRows}
use Rattle.hv_rows.specs.Rows.{IsInRow}
use Rattle.hv_rows.proofs.Rowed.{tested_row}
use Rattle.hv_replay.specs.Closed.{IsGoalFree, state_in}
use Rattle.hv_replay.specs.Working.Following.{StaysListed}
use Rattle.hv_replay.specs.Logs.{LogEntry, SearchLog, StandsInLog}
use Rattle.hv_replay.proofs.Followed.{same_entry}

-- a list has all of these atoms exactly where its state has
pub holds_all : (n : ℕ) (held wanted : List ℕ) → AreBelow n held → AreBelow n wanted → (has : Bool)
    → (has ≡ true) ↔ All (λ p. Contains held p) wanted → has ≡ has_all wanted (state_of n held)
holds_all n held wanted below over true tells = sym (applies n held wanted below (tells.0 refl))
holds_all n held wanted below over false tells =
    sym (applies_not n held wanted over (λ all. let f : false ≡ true = tells.1 all in absurd cc))

pub goal_free : (task : Strips) (log : SearchLog) (place : ℕ) (x : LogEntry)
    → StandsInLog log place x → x.expanded ≡ true → (has : Bool)
    → has ≡ is_goal task (state_in log x) → (not has ≡ true) ↔ IsGoalFree task log place
goal_free task log place x stands expanded true same = (
  λ no. let f : false ≡ true = no in absurd cc,
  λ free. let f : true ≡ false = same
      ∙ free x stands expanded in absurd cc,
)
goal_free task log place x stands expanded false same = (
  λ no e at holds. subst (λ y. is_goal task (state_in log y) ≡ false)
      (same_entry log place x e stands at) (sym same),
  λ free. refl,
)

-- the initial state is looked up by its list
pub start_found : (task : Strips) (held : List ℕ) (set : ListedStates) → AreBelow (atoms task) held
    → held ≡ task.start → set.atoms ≡ atoms task
    → (found : Bool) → ((state : List Bool) → length state ≡ set.atoms
    → IsSetOf (names_atom held) state → found ≡ in_listing set state)
    → found ≡ in_listing set (start_state task)
start_found task held set below is over found tells =
    let stands = stands_list task held below in
    tells (state_of (atoms task) held) (stands.of_task ∙ sym over) stands.same
    ∙ ap (λ h. in_listing set (state_of (atoms task) h)) is

-- a lesser number that leads out, or the same one
pub exit_more : (P : ℕ → Type 0) (bound old new : ℕ) → new ≤ old → (old < bound → P old → ⊥)
    → (new < old → P new → ⊥)
    → new < bound → P new → ⊥
exit_more P bound old new upto before here small =
    elim (cases_lt new old) [
      | inl lt ↦ here lt
      | inr ge ↦ let same : new ≡ old = omega arith in
          λ holds. before (omega arith) (subst P same holds)
    ]

module _ (task : Strips) (set : ListedStates) (held : List ℕ) (below : AreBelow (atoms task) held)
  where
    abbrev state : List Bool
    state = state_of (atoms task) held

    module _ (number : ℕ) (action : Action) (named : slice_get task.actions number ≡ Some action)
        (over : IsOver (atoms task) action) where
      same_action : (a : Action) → slice_get task.actions number ≡ Some a → action ≡ a
      same_action a at = let f : ◌≡◌ {A = Option Action} (Some action) (Some a) = sym named ∙ at in cc

      -- an action whose precondition isn't held leads nowhere
      pub stays_put : (All (λ p. has_atom state p ≡ true) action.pre → ⊥)
          → StaysListed task set state number
      stays_put none = λ a at can.
          let no : has_all action.pre state ≡ false =
          false_from_ne_true (has_all action.pre state)
          (λ yes. none ((has_all-Decides action.pre state).0 yes)) in
          let f : false ≡ true = sym no ∙ (ap (λ (x : Action). applicable x state) (same_action a at)
          ∙ can) in absurd cc

      -- the result of another is looked up
      pub stays_listed : set.atoms ≡ atoms task → All (λ p. has_atom state p ≡ true) action.pre
          → (found : Bool)
          → ((s : List Bool) → length s ≡ set.atoms → IsSetOf (is_after action held) s
          → found ≡ in_listing set s)
          → (found ≡ true) ↔ StaysListed task set state number
      stays_listed size all found tells =
          let stands = stands_after task action held below over in
          let is : found ≡ in_listing set (successor action state) = tells (successor action state)
          (stands.of_task ∙ sym size) stands.same in (
            λ yes a at can. subst (λ (x : Action). in_listing set (successor x state) ≡ true)
                (same_action a at) (sym is ∙ yes),
            λ stays. is ∙ stays action named ((has_all-Decides action.pre state).1 all),
          )

    -- an atom that the state has is in the list
    held_at : (p : ℕ) → has_atom state p ≡ true → (i : ℕ) × (i < length held) × (get_or held i 0 ≡ p)
    held_at p has =
        elim (cases_lt p (atoms task)) [
          | inl less ↦
              let w = (names_atom-Decides held p).0
              (sym (has_atom-state_of (atoms task) held p less) ∙ has) in
              (w.0, w.1, get_or_default held w.0 0 p w.1 ∙ w.2)
          | inr past ↦
              let f : true ≡ false = sym has ∙ has_atom_past state p
              (omega (arith, length-state_of (atoms task) held)) in absurd cc
        ]

    -- the actions in the rows of the held atoms, and in the last row, are all that may be
    -- applicable
    pub all_asked : (rows : List (Vec ℕ)) → AreActionRows task rows → (least : ℕ)
        → ((k : ℕ) → IsInRow rows (atoms task) k → k < least → StaysListed task set state k)
        → ((i : ℕ) → i < length held → (k : ℕ) → IsInRow rows (get_or held i 0) k → k < least
        → StaysListed task set state k)
        → (k : ℕ) → k < least → StaysListed task set state k
    all_asked rows waits least last each k less = λ a at can.
        let w = tested_row (atoms task) rows a.pre k (waits.each k a at) in
        elim (cons_cases (atoms task) a.pre w.0 w.1) [
          | inl past ↦ last k (subst (λ p. IsInRow rows p k) (sym past) w.2) less a at can
          | inr needed ↦
              let has : has_atom state w.0 ≡ true =
              All-contains (λ p. has_atom state p ≡ true) a.pre w.0
              ((has_all-Decides a.pre state).0 can) needed in
              let place = held_at w.0 has in
              each place.0 place.1 k (subst (λ p. IsInRow rows p k) (sym place.2) w.2) less a at
              can
        ]
