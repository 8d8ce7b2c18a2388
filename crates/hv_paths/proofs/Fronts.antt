-- Fronts of cubes.
use Rattle.std.proofs.Common.{◌≡◌, ℕ, zero, suc, ◌&&◌, Bool, true, false, List, [], ◌∷◌, take, refl}
use Rattle.hv_sets.specs.declared.literal.Literal.{Literal}
use Rattle.hv_sets.specs.Truth.{in_cube, in_literal}

-- a state of a cube is in the cube of each of its prefixes
pub cube_front : (k : ℕ) (cube : List Literal) (s : List Bool) → in_cube cube s ≡ true
    → in_cube (take k cube) s ≡ true
cube_front zero cube s h = refl
cube_front (suc k) [] s h = refl
cube_front (suc k) (l ∷ ls) s h =
    both (in_literal l s) (in_cube ls s) (in_cube (take k ls) s) h (cube_front k ls s)
  where
    both : (a b c : Bool) → (a && b) ≡ true → (b ≡ true → c ≡ true) → (a && c) ≡ true
    both true b c h f = f h
    both false b c h f = h
