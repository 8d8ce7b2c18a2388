use Rattle.std.proofs.Common.{◌≡◌, ◌∙◌, ◌++◌, ℕ, Bool, true, false, List, sym, subst, ap}
use Rattle.std.proofs.lemmas.Result.{IfOk-weaker}
use Rattle.std.specs.List.Sorted.{IsPermutation}
use Rattle.hv_sets.specs.Cubes.{SpeakBelow}
use Rattle.hv_sets.specs.Truth.{in_cube}
use Rattle.hv_paths.proofs.Filled.{below_moved, cube_moved}
use Rattle.hv_paths.proofs.filling.fill.Goals as goal

-- the literals that are put in are the given ones in another order
moved : (c : goal.After-drop-sorted-2) → IsPermutation c.args.literals.now c.as_slice.result.now
moved c =
    subst (λ xs. IsPermutation xs c.as_slice.result.now)
    (c.in_ok-extend_from_slice.ensures.items
    ∙ ap (λ xs. xs ++ c.args.literals.now) c.new-sorted.ensures.items)
    (subst (λ xs. IsPermutation c.extend_from_slice.new.self.items xs)
    (sym c.as_slice.ensures.value) c.sort_unstable_by_key.ensures.permutation)

pub returns-clause-same : goal.returns-clause-same
returns-clause-same c =
    let given = c.args.literals.now in
    let sorted = c.as_slice.result.now in
    let cube = c.fill_along-2.new.cube in
    IfOk-weaker c.fill_along-2.result
    (λ yes. yes ≡ true → (s : List Bool) → in_cube cube s ≡ in_cube sorted s)
    (λ yes. yes ≡ true → (s : List Bool) → in_cube cube s ≡ in_cube given s)
    (λ yes same is s. same is s ∙ cube_moved given sorted (moved c) s) c.fill_along-2.ensures.same

pub returns-clause-below : goal.returns-clause-below
returns-clause-below c =
    let given = c.args.literals.now in
    let sorted = c.as_slice.result.now in
    let cube = c.fill_along-2.new.cube in
    IfOk-weaker c.fill_along-2.result
    (λ yes. yes ≡ true → (n : ℕ) → SpeakBelow n sorted → SpeakBelow n cube)
    (λ yes. yes ≡ true → (n : ℕ) → SpeakBelow n given → SpeakBelow n cube)
    (λ yes below is n speak. below is n (below_moved given sorted (moved c) n speak))
    c.fill_along-2.ensures.below

pub returns-clause-none : goal.returns-clause-none
returns-clause-none c =
    let given = c.args.literals.now in
    let sorted = c.as_slice.result.now in
    IfOk-weaker c.fill_along-2.result
    (λ yes. yes ≡ false → (s : List Bool) → in_cube sorted s ≡ false)
    (λ yes. yes ≡ false → (s : List Bool) → in_cube given s ≡ false)
    (λ yes none is s. sym (cube_moved given sorted (moved c) s) ∙ none is s)
    c.fill_along-2.ensures.none
