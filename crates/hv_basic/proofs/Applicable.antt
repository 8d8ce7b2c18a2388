-- The actions that are found in the rows of the atoms of few states.
use Rattle.std.proofs.Common.{◌≡◌, ℕ, ◌+◌, ◌<◌, ◌∙◌, Bool, true, false, List, [], ◌∷◌, Some}
use Rattle.std.proofs.Common.{length, map, get_or, slice_get, refl, sym, ap, subst, inl, inr, arith}
use Rattle.std.proofs.lemmas.Bool.{cases_lt}
use Rattle.std.proofs.lemmas.List.Elements.{All-contains}
use Rattle.std.proofs.lemmas.Option.{get_or_from_slice_get, slice_get-get_or, slice_get-map}
use Rattle.std.proofs.lemmas.Option.{slice_get_within}
use Rattle.std.specs.List.{All, Contains}
use Rattle.std.specs.Global.{Vec}
use Rattle.hv_task.specs.declared.action.Action.{Action}
use Rattle.hv_task.specs.State.{applicable, has_all, has_atom, state_of}
use Rattle.hv_task.specs.Strips.{Strips, atoms, start_state}
use Rattle.hv_task.proofs.Places.{beq-Decides, has_all-Decides, has_atom-state_of, has_atom_past}
use Rattle.hv_task.proofs.Places.{length-state_of, names_atom-Decides}
use Rattle.hv_sets.specs.Query.{in_which}
use Rattle.hv_sets.specs.Truth.{in_states}
use Rattle.hv_sets.specs.declared.operand.Which.{Which}
use Rattle.hv_sets.specs.declared.operand.Which.TheVariants as W
use Rattle.hv_sets.proofs.Listed.{in_states-Decides}
use Rattle.hv_explicit.specs.ListedStates.{ListedStates}
use Rattle.hv_lines.proofs.Elements.{all_from, cons_cases, got_mapped, in_mapped}
use Rattle.hv_rows.specs.ActionRows.{AreActionRows}
use Rattle.hv_rows.specs.Rows.{IsInRow}
use Rattle.hv_rows.proofs.Rowed.{tested_row}
use Rattle.hv_basic.specs.Stores.{listing}
use Rattle.hv_basic.specs.Working.Candidates.{AreCandidates, AreFound}

-- an atom of the state of a list is in the list
held_atom : (n : ℕ) (held : List ℕ) (p : ℕ) → has_atom (state_of n held) p ≡ true
    → Contains held p
held_atom n held p has =
    elim (cases_lt p n) [
      | inl less ↦ (names_atom-Decides held p).0 (sym (has_atom-state_of n held p less) ∙ has)
      | inr past ↦
          let long = length-state_of n held in
          let none : has_atom (state_of n held) p ≡ false =
          has_atom_past (state_of n held) p (omega (arith, past, long)) in
          let no : true ≡ false = sym has ∙ none in absurd cc
    ]

-- an action that is applicable in the state of a list has its whole precondition there
pub held_all : (n : ℕ) (held : List ℕ) (action : Action) (state : List Bool)
    → state_of n held ≡ state → applicable action state ≡ true
    → All (λ p. Contains held p) action.pre
held_all n held action state same applies =
    let all = (has_all-Decides action.pre (state_of n held)).0
    (ap (λ s. has_all action.pre s) same ∙ applies) in
    λ k d less. held_atom n held (get_or action.pre k d) (all k d less)

-- what was found in the rows of the atoms of these states, and in the last row
pub found_in : (task : Strips) (rows : List (Vec ℕ)) (states : List (List ℕ)) (listed : List ℕ)
    → AreActionRows task rows
    → ((k : ℕ) → Contains listed k → k < length task.actions)
    → (0 < length task.actions → Contains listed 0)
    → ((k : ℕ) → IsInRow rows (atoms task) k → k < length task.actions → Contains listed k)
    → ((held : List ℕ) (p k : ℕ) → Contains states held → Contains held p → IsInRow rows p k
    → k < length task.actions → Contains listed k)
    → AreFound task states listed
found_in task rows states listed are below first past has = record {
  below = all_from (λ k. k < length task.actions) listed below;
  first = first;
  each = λ number action held at among within.
      let less = slice_get_within task.actions number action at in
      let w = tested_row (atoms task) rows action.pre number (are.each number action at) in
      elim (cons_cases (atoms task) action.pre w.0 w.1) [
        | inl last ↦ past number (subst (λ p. IsInRow rows p number) (sym last) w.2) less
        | inr inside ↦
            has held w.0 number among
            (All-contains (λ p. Contains held p) action.pre w.0 within inside) w.2 less
      ];
}

-- what was found in a set's states are candidates
pub candidates_in : (task : Strips) (sets : ℕ → List Bool → Bool) (which : Which)
    (states : List (List ℕ)) (listed : List ℕ)
    → ((state : List Bool) → length state ≡ atoms task → in_which task sets which state ≡ true
    → (held : List ℕ) × Contains states held × (state_of (atoms task) held ≡ state))
    → AreFound task states listed → AreCandidates task sets which listed
candidates_in task sets which states listed only found = record {
  below = found.below;
  first = found.first;
  each = λ number action state at size inside applies.
      let w = only state size inside in
      found.each number action w.0 at w.1
      (held_all (atoms task) w.0 action state w.2 applies);
}

-- a number of a row, by the row that was found at a place
pub row_at : (rows : List (Vec ℕ)) (p : ℕ) (row : Vec ℕ) (listed : List ℕ) → p < length rows
    → row ≡ get_or rows p row → listed ≡ row.items → (k : ℕ) → IsInRow rows p k → Contains listed k
row_at rows p row listed within is same k here =
    subst (λ xs. Contains xs k) (sym same)
    (here row (slice_get-get_or rows p row within ∙ ap Some (sym is)))

-- one number more of a row is put in
pub put_more : (row : List ℕ) (actions i : ℕ) (old new : List ℕ)
    → ((k : ℕ) → Contains old k → Contains new k)
    → (get_or row i 0 < actions → Contains new (get_or row i 0))
    → ((j : ℕ) → j < i → get_or row j 0 < actions → Contains old (get_or row j 0)) → (j : ℕ)
    → j < i + 1 → get_or row j 0 < actions → Contains new (get_or row j 0)
put_more row actions i old new kept here before j less below =
    elim (cases_lt j i) [
      | inl earlier ↦ kept (get_or row j 0) (before j earlier below)
      | inr upto ↦
          let same : i ≡ j = omega (arith, less, upto) in
          subst (λ n. get_or row n 0 < actions → Contains new (get_or row n 0)) same here below
    ]

-- one row more is put in
pub put_row_more : (rows : List (Vec ℕ)) (atoms : List ℕ) (actions i : ℕ) (old new : List ℕ)
    → ((k : ℕ) → Contains old k → Contains new k)
    → ((k : ℕ) → IsInRow rows (get_or atoms i 0) k → k < actions → Contains new k)
    → ((j : ℕ) → j < i → (k : ℕ) → IsInRow rows (get_or atoms j 0) k → k < actions
    → Contains old k)
    → (j : ℕ) → j < i + 1 → (k : ℕ) → IsInRow rows (get_or atoms j 0) k → k < actions
    → Contains new k
put_row_more rows atoms actions i old new kept here before j less k inside below =
    elim (cases_lt j i) [
      | inl earlier ↦ kept k (before j earlier k inside below)
      | inr upto ↦
          let same : j ≡ i = omega (arith, less, upto) in
          here k (subst (λ n. IsInRow rows (get_or atoms n 0) k) same inside) below
    ]

-- the rows of one state more are put in
pub put_state_more : (rows : List (Vec ℕ)) (states : List (List ℕ)) (actions i : ℕ)
    (old new held : List ℕ) → slice_get states i ≡ Some held
    → ((k : ℕ) → Contains old k → Contains new k)
    → ((p k : ℕ) → Contains held p → IsInRow rows p k → k < actions → Contains new k)
    → ((j : ℕ) → j < i → (p k : ℕ) → Contains (get_or states j []) p → IsInRow rows p k
    → k < actions → Contains old k)
    → (j : ℕ) → j < i + 1 → (p k : ℕ) → Contains (get_or states j []) p → IsInRow rows p k
    → k < actions → Contains new k
put_state_more rows states actions i old new held at kept here before j less p k has inside below =
    elim (cases_lt j i) [
      | inl earlier ↦ kept k (before j earlier p k has inside below)
      | inr upto ↦
          let same : j ≡ i = omega (arith, less, upto) in
          let is : get_or states j [] ≡ held =
          ap (λ n. get_or states n []) same ∙ get_or_from_slice_get states i held [] at in
          here p k (subst (λ xs. Contains xs p) is has) inside below
    ]

-- the only state in the set of the initial state is that one
pub only_start : (task : Strips) (sets : ℕ → List Bool → Bool) (state : List Bool)
    → length state ≡ atoms task → in_which task sets W.Start state ≡ true
    → (held : List ℕ) × Contains (task.start ∷ []) held × (state_of (atoms task) held ≡ state)
only_start task sets state size inside =
    (task.start, (0, omega arith, refl), (beq-Decides (start_state task) state).0 inside)

-- the states in a set of listed ones are those
pub only_listed : (task : Strips) (states : List (List ℕ)) (state : List Bool)
    → in_states (atoms task) states state ≡ true
    → (held : List ℕ) × Contains states held × (state_of (atoms task) held ≡ state)
only_listed task states state inside =
    in_mapped (state_of (atoms task)) states state
    ((in_states-Decides (atoms task) states state).0 inside)

-- the states of a set of the store are those of its line
pub stored_states : (n : ℕ) (sets : List ListedStates) (xs : List (List (List ℕ)))
    → sets ≡ map (listing n) xs → (number : ℕ) (set : ListedStates)
    → slice_get sets number ≡ Some set → set.states ≡ get_or xs number []
stored_states n sets xs is number set at =
    let found = got_mapped (listing n) (slice_get xs number) set
    (sym (slice_get-map (listing n) xs number) ∙ (ap (λ ys. slice_get ys number) (sym is) ∙ at)) in
    ap (λ (s : ListedStates). s.states) (sym found.2)
    ∙ sym (get_or_from_slice_get xs number found.0 [] found.1)
