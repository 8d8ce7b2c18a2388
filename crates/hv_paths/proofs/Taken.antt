-- Cubes that are taken one after the other.
use Rattle.std.proofs.Common.{◌≡◌, ◌+◌, ◌∙◌, List, ◌∷◌, length, ap, arith}
use Rattle.hv_sets.specs.declared.literal.Literal.{Literal}
use Rattle.hv_sets.specs.Walks.{in_cubes}
use Rattle.hv_paths.specs.Along.{LeavesRest}

-- the first cube was taken, and the others are left
pub first_taken : (cube : List Literal) (before after : List (List Literal))
    → before ≡ cube ∷ after → LeavesRest cube before after
first_taken cube before after same = record {
  count = ap length same ∙ omega arith;
  states = λ s. ap (λ cubes. in_cubes cubes s) same;
}
