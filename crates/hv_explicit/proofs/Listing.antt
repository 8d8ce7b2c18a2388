-- Listed states in cubes, and their cubes one by one.
use Rattle.std.proofs.Common.{◌≡◌, ℕ, zero, suc, ◌+◌, ◌<◌, ◌∙◌, ◌↔◌, Bool, true, false, List, []}
use Rattle.std.proofs.Common.{◌∷◌, ◌++◌, length, get_or, drop, map, sym, ap, arith, subst}
use Rattle.std.proofs.Common.{IsTrue}
use Rattle.std.proofs.lemmas.Bool.Decides.{same_from_decides}
use Rattle.std.proofs.lemmas.List.{drop_more, get_or-map, length-map}
use Rattle.std.proofs.lemmas.List.Elements.{All-append}
use Rattle.std.proofs.lemmas.List.Folds.{list_any_at, list_any_none}
use Rattle.std.proofs.lemmas.Bool.{false_from_ne_true}
use Rattle.std.specs.List.{Contains}
use Rattle.hv_task.specs.State.{AreBelow, names_atom, state_of}
use Rattle.hv_task.proofs.Places.{beq-Decides, length-state_of, names_atom-Decides}
use Rattle.hv_sets.specs.declared.literal.Literal.{Literal}
use Rattle.hv_sets.specs.Cubes.{SpeakBelow, atoms_of}
use Rattle.hv_sets.specs.Truth.{in_cube, in_states, is_same}
use Rattle.hv_sets.specs.Walks.{Meets}
use Rattle.hv_explicit.specs.ListedStates.{full_cube}

-- the cube of one state speaks of the atoms of its task alone
pub full_below : (n : ℕ) (held : List ℕ) → SpeakBelow n (full_cube n held)
full_below zero held = λ k d within. absurd (omega arith)
full_below (suc n) held =
    All-append (λ (l : Literal). l.atom < suc n) (full_cube n held)
    (record { atom = n; positive = names_atom held n } ∷ [])
    (λ k d within. let less = full_below n held k d within in omega arith)
    (λ k d within. let first : k ≡ 0 = omega arith in
    subst (λ j. (get_or (record { atom = n; positive = names_atom held n } ∷ []) j d).atom < suc n)
    (sym first) (omega arith))

pub atoms_below : (n : ℕ) (held : List ℕ) → AreBelow n (atoms_of (full_cube n held))
atoms_below n held k d within =
    let size = length-map (full_cube n held) (λ (l : Literal). l.atom) in
    let e : Literal = record { atom = d; positive = false } in
    let at = get_or-map (λ (l : Literal). l.atom) (full_cube n held) k e d (omega arith) in
    let less = full_below n held k e (omega arith) in omega arith

-- one more literal of it
pub full_more : (n : ℕ) (held : List ℕ) (positive : Bool) (new : List Literal)
    → (IsTrue positive ↔ Contains held n)
    → new ≡ full_cube n held ++ record { atom = n; positive = positive } ∷ []
    → new ≡ full_cube (n + 1) held
full_more n held positive new asked is =
    let same : positive ≡ names_atom held n = same_from_decides positive (names_atom held n) asked
    (names_atom-Decides held n) in
    let next : n + 1 ≡ suc n = omega arith in
    is ∙ (ap (λ b. full_cube n held ++ record { atom = n; positive = b } ∷ []) same
    ∙ ap (λ m. full_cube m held) (sym next))

-- a listed state in the cube was found
pub found_meets : (n : ℕ) (states : List (List ℕ)) (cube : List Literal) (i : ℕ) (held : List ℕ)
    (state : List Bool) → i < length states
    → held ≡ get_or states i held → state ≡ state_of n held → in_cube cube state ≡ true
    → Meets true n (in_states n states) cube state
found_meets n states cube i held state within at is inside = record {
  of_task = ap length is ∙ length-state_of n held;
  of_cube = inside;
  of_set = list_any_at (λ h. is_same (state_of n h) state) states i held within
      ((beq-Decides (state_of n (get_or states i held)) state).1
      (ap (state_of n) (sym at) ∙ sym is));
}

-- no listed state is in the cube
pub none_meets : (n : ℕ) (states : List (List ℕ)) (cube : List Literal) (found : List Bool)
    → ((k : ℕ) (d : List ℕ) → k < length states
    → in_cube cube (state_of n (get_or states k d)) ≡ false)
    → Meets false n (in_states n states) cube found
none_meets n states cube found none = λ state size inside.
    list_any_none (λ h. is_same (state_of n h) state) states
    (λ k d within. false_from_ne_true (is_same (state_of n (get_or states k d)) state)
    (λ same.
    let is = (beq-Decides (state_of n (get_or states k d)) state).0 same in
    let out : in_cube cube state ≡ false = ap (in_cube cube) (sym is) ∙ none k d within in
    let clash : true ≡ false = sym inside ∙ out in absurd cc))

-- the cubes that are left before and after one is taken
pub cube_taken : (n : ℕ) (states : List (List ℕ)) (place : ℕ) (held : List ℕ) (cube : List Literal)
    → place < length states
    → held ≡ get_or states place held → cube ≡ full_cube n held
    → drop place (map (full_cube n) states) ≡ cube ∷ drop (place + 1) (map (full_cube n) states)
cube_taken n states place held cube within at is =
    let size = length-map states (full_cube n) in
    let first : get_or (map (full_cube n) states) place cube ≡ cube =
    get_or-map (full_cube n) states place held cube within ∙ (ap (full_cube n) (sym at) ∙ sym is) in
    drop_more (map (full_cube n) states) place cube (omega arith)
    ∙ ap (λ x. x ∷ drop (place + 1) (map (full_cube n) states)) first
