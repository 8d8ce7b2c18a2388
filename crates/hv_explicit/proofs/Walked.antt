-- A walk over listed states.
use Rattle.std.proofs.Common.{◌≡◌, ◌<◌, ◌≤◌, ◌+◌, ◌-◌, ◌∙◌, ℕ, zero, suc, Bool, true, false, cond}
use Rattle.std.proofs.Common.{List, [], ◌∷◌, length, drop, get_or, refl, sym, ap, arith, subst}
use Rattle.std.proofs.lemmas.List.{drop_more, length-map, get_or-map}
use Rattle.hv_task.specs.State.{AreBelow, has_atom, names_atom, put_all, state_of}
use Rattle.hv_task.proofs.Places.{has_atom-put_all, has_atom-state_of, length-put_all}
use Rattle.hv_task.proofs.Places.{length-state_of, same_state}
use Rattle.hv_sets.specs.Truth.{is_same}
use Rattle.hv_explicit.specs.ListedStates.{AreStates, ListedStates, full_cube, full_cubes}
use Rattle.hv_explicit.specs.Walked.{StandsAfter, last_atoms, path_at}
use Rattle.hv_explicit.specs.Working.Laws.{full_cube_is}
use Rattle.hv_paths.specs.Along.{IsCubeOfOne, LeavesRest}
use Rattle.hv_paths.proofs.Taken.{first_taken}

path_next : (set : ListedStates) (k : ℕ) → path_at set (k + 1) ≡ full_cube set.atoms
    (get_or set.states k [])
path_next set k = let e : suc k ≡ k + 1 = omega arith in ap (path_at set) (sym e)

left_next : (set : ListedStates) (k : ℕ) → k < length set.states
    → drop k (full_cubes set) ≡ path_at set (k + 1) ∷ drop (k + 1) (full_cubes set)
left_next set k less =
    drop_more (full_cubes set) k [] few
    ∙ ap (λ x. x ∷ drop (k + 1) (full_cubes set))
    (get_or-map (λ held. full_cube set.atoms held) set.states k [] [] less ∙ sym (path_next set k))
  where
    few : k < length (full_cubes set)
    few = omega (arith, less, length-map set.states (λ held. full_cube set.atoms held))

-- the next state is taken
pub state_taken : (set : ListedStates) (k : ℕ) (states : List (List ℕ)) → k < length states
    → states ≡ set.states
    → LeavesRest (path_at set (k + 1)) (drop k (full_cubes set)) (drop (k + 1) (full_cubes set))
state_taken set k states less same =
    first_taken (path_at set (k + 1)) (drop k (full_cubes set)) (drop (k + 1) (full_cubes set))
    (left_next set k (subst (λ xs. k < length xs) same less))

pub stop_is : (set : ListedStates) (taken : ℕ) (state : List Bool) (held : List ℕ)
    → StandsAfter set taken state
    → (taken ≡ 0 → ⊥) → ((place : ℕ) → suc place ≡ taken → held ≡ get_or set.states place [])
    → (state ≡ state_of set.atoms held) × IsCubeOfOne set.atoms (path_at set taken) state
stop_is set zero state held is some at = absurd (some refl)
stop_is set (suc place) state held is some at =
    let e = at place refl in (
      is.last ∙ ap (state_of set.atoms) (sym e),
      λ s size. full_cube_is (get_or set.states place []) s set.atoms size
          ∙ ap (λ t. is_same t s) (sym is.last),
    )

-- the last of so many states
pub last_is : (states : List (List ℕ)) (taken : ℕ) (held : List ℕ) → (taken ≡ 0 → ⊥)
    → get_or states (taken - 1) [] ≡ held → held ≡ last_atoms states taken
last_is states zero held some is = absurd (some refl)
last_is states (suc place) held some is =
    let e : suc place - 1 ≡ place = omega arith in
    sym is ∙ ap (λ k. get_or states k []) e

pub last_next : (states : List (List ℕ)) (k : ℕ)
    → last_atoms states (k + 1) ≡ get_or states k []
last_next states k = let e : suc k ≡ k + 1 = omega arith in ap (last_atoms states) (sym e)

-- it is a state of the task
pub last_below : (n : ℕ) (states : List (List ℕ)) (taken : ℕ) → AreStates n states
    → taken ≤ length states → AreBelow n (last_atoms states taken)
last_below n states zero all upto = λ k d within. let none : k < 0 = within in absurd (omega arith)
last_below n states (suc place) all upto = all place [] (omega (arith, upto))

taken_out : (named : Bool) → cond named false named ≡ false
taken_out true = refl
taken_out false = refl

put_in : (named : Bool) → cond named true false ≡ named
put_in true = refl
put_in false = refl

-- a state where its atoms are taken out and others are put in
pub changed : (n : ℕ) (before after : List ℕ)
    → put_all true after (put_all false before (state_of n before)) ≡ state_of n after
changed n before after =
    same_state (put_all true after out) (state_of n after) (size ∙ sym (length-state_of n after)) at
  where
    old : List Bool
    old = state_of n before

    out : List Bool
    out = put_all false before old

    size : length (put_all true after out) ≡ n
    size = length-put_all true after out ∙ (length-put_all false before old
        ∙ length-state_of n before)

    at : (p : ℕ) → p < length (put_all true after out)
        → has_atom (put_all true after out) p ≡ has_atom (state_of n after) p
    at p within =
        let less : p < n = omega (arith, size) in
        let in_old : p < length old = omega (arith, length-state_of n before) in
        let in_out : p < length out =
        omega (arith, length-state_of n before, length-put_all false before old) in
        has_atom-put_all true after out p in_out
        ∙ (ap (λ b. cond (names_atom after p) true b)
        (has_atom-put_all false before old p in_old
        ∙ (ap (λ b. cond (names_atom before p) false b) (has_atom-state_of n before p less)
        ∙ taken_out (names_atom before p)))
        ∙ (put_in (names_atom after p) ∙ sym (has_atom-state_of n after p less)))
