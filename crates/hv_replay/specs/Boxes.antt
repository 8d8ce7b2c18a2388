-- What several boxes cover, box by box.
use Rattle.std.specs.Prelude.{◌≡◌, ◌↔◌, ℕ, Bool, List, Some, length, slice_get}
use Rattle.hv_task.specs.Strips.{Strips}

-- there are as many boxes as others, and each covers what the other one at its place covers
pub record CoverAlike {X : Type 0} (covers : X → Strips → List Bool → Type 0)
    (boxes others : List X) : Type 0 where
  pub count : length boxes ≡ length others
  pub each : (place : ℕ) (x y : X)
      → slice_get boxes place ≡ Some x → slice_get others place ≡ Some y
      → (task : Strips) (state : List Bool) → covers x task state ↔ covers y task state
