-- Cubes that are filled literal by literal, and steps without a cube.
use Rattle.std.proofs.Common.{◌≡◌, ℕ, zero, suc, ◌<◌, ◌+◌, ◌∙◌, ◌⊎◌, ◌&&◌, Bool, true, false, not}
use Rattle.std.proofs.Common.{◌||◌, Option, None, Some, List, [], ◌∷◌, length, get_or, take, cond}
use Rattle.std.proofs.Common.{refl, sym, ap, arith, inl, inr, subst}
use Rattle.std.proofs.lemmas.List.Elements.{All-contains, All-contains_itself, Contains-get_or}
use Rattle.std.proofs.lemmas.List.Folds.{list_all_more}
use Rattle.std.proofs.lemmas.List.Sorted.{All-permutation, Contains-permutation, IsPermutation-sym}
use Rattle.std.proofs.lemmas.Bool.{and_from, and_parts, false_from_ne_true}
use Rattle.std.specs.List.{Contains}
use Rattle.std.specs.List.Sorted.{IsPermutation}
use Rattle.std.specs.Cmp.Derive.{one_truth}
use Rattle.hv_task.specs.State.{has_atom}
use Rattle.hv_sets.specs.declared.literal.Literal.{Literal}
use Rattle.hv_sets.specs.Cubes.{Adds, SpeakBelow, opposite}
use Rattle.hv_sets.specs.Truth.{in_cube, in_literal}
use Rattle.hv_sets.specs.Walks.{in_cubes, in_steps}
use Rattle.hv_paths.specs.Along.{cubes_of}
use Rattle.hv_paths.proofs.Fronts.{cube_front}

-- a literal of a cube is true in its states
pub cube_has : (cube : List Literal) (s : List Bool) (l : Literal) → in_cube cube s ≡ true
    → Contains cube l → in_literal l s ≡ true
cube_has [] s l h (k, less, at) = absurd (omega (arith, less))
cube_has (x ∷ xs) s l h (zero, less, at) =
    ap (λ y. in_literal y s) (sym at) ∙ (and_parts (in_literal x s) (in_cube xs s) h).0
cube_has (x ∷ xs) s l h (suc k, less, at) =
    cube_has xs s l (and_parts (in_literal x s) (in_cube xs s) h).1 (k, omega (arith, less), at)

cube_from : (cube : List Literal) (s : List Bool)
    → ((l : Literal) → Contains cube l → in_literal l s ≡ true) → in_cube cube s ≡ true
cube_from [] s f = refl
cube_from (x ∷ xs) s f =
    and_from (in_literal x s) (in_cube xs s) (f x (0, omega arith, refl))
    (cube_from xs s (λ l c. f l (suc c.0, omega (arith, c.1), c.2)))

-- a state is in the cube with a literal put in where it is in the cube and the literal is true
cube_added : (old new : List Literal) (l : Literal) (s : List Bool) → Adds old l new
    → in_cube new s ≡ (in_cube old s && in_literal l s)
cube_added old new l s a =
    one_truth (in_cube new s) (in_cube old s && in_literal l s)
    (λ h. and_from (in_cube old s) (in_literal l s)
    (cube_from old s (λ m c. cube_has new s m h ((a.has m).1 (inl c))))
    (cube_has new s l h ((a.has l).1 (inr refl))))
    (λ h. let both = and_parts (in_cube old s) (in_literal l s) h in
    cube_from new s (λ m c. elim ((a.has m).0 c) [
      | inl there ↦ cube_has old s m both.0 there
      | inr same ↦ ap (λ y. in_literal y s) same ∙ both.1
    ]))

-- the literals have the same states in another order
pub cube_moved : (old new : List Literal) → IsPermutation old new → (s : List Bool)
    → in_cube new s ≡ in_cube old s
cube_moved old new moved s =
    one_truth (in_cube new s) (in_cube old s)
    (λ h. cube_from old s (λ l c. cube_has new s l h (Contains-permutation old new l moved c)))
    (λ h. cube_from new s (λ l c. cube_has old s l h
    (Contains-permutation new old l (IsPermutation-sym old new moved) c)))

-- and speak of the same atoms
pub below_moved : (old new : List Literal) → IsPermutation old new → (n : ℕ) → SpeakBelow n old
    → SpeakBelow n new
below_moved old new moved n = All-permutation (λ (l : Literal). l.atom < n) old new moved

-- the same along a list of literals
pub cube_more : (old new literals : List Literal) (i : ℕ) (d : Literal) (s : List Bool)
    → i < length literals → Adds old (get_or literals i d) new
    → in_cube old s ≡ in_cube (take i literals) s
    → in_cube new s ≡ in_cube (take (i + 1) literals) s
cube_more old new literals i d s less a same =
    cube_added old new (get_or literals i d) s a
    ∙ (ap (λ b. b && in_literal (get_or literals i d) s) same
    ∙ sym (list_all_more (λ (l : Literal). in_literal l s) literals i d less))

-- what a filled cube speaks of
pub below_more : (n : ℕ) (old new : List Literal) (l : Literal) → Adds old l new
    → SpeakBelow n old → l.atom < n → SpeakBelow n new
below_more n old new l a below less = λ k d within.
    elim ((a.has (get_or new k d)).0 (All-contains_itself new k d within)) [
      | inl there ↦ All-contains (λ (m : Literal). m.atom < n) old (get_or new k d) below there
      | inr same ↦ subst (λ (m : Literal). m.atom < n) (sym same) less
    ]

-- no state has a literal and its opposite
clash : (b x : Bool) → cond (not b) x (not x) ≡ true → cond b x (not x) ≡ true → ⊥
clash true true h k = let f : false ≡ true = h in absurd cc
clash true false h k = let f : false ≡ true = k in absurd cc
clash false true h k = let f : false ≡ true = k in absurd cc
clash false false h k = let f : false ≡ true = h in absurd cc

-- literals of which one is the opposite of one before it have no state
pub cube_none : (cube literals : List Literal) (i : ℕ) (d : Literal) (s : List Bool)
    → i < length literals → Contains cube (opposite (get_or literals i d))
    → in_cube cube s ≡ in_cube (take i literals) s → in_cube literals s ≡ false
cube_none cube literals i d s less there same =
    false_from_ne_true (in_cube literals s) (λ h.
    let l = get_or literals i d in
    clash l.positive (has_atom s l.atom)
    (cube_has cube s (opposite l) (same ∙ cube_front i literals s h) there)
    (cube_has literals s l h (Contains-get_or literals i d less)))

-- steps without a cube have no state
pub cubes_are : (steps : List (Option (List Literal))) (s : List Bool)
    → in_cubes (cubes_of steps) s ≡ in_steps steps s
cubes_are [] s = refl
cubes_are (None ∷ steps) s = cubes_are steps s
cubes_are (Some cube ∷ steps) s = ap (λ b. in_cube cube s || b) (cubes_are steps s)
