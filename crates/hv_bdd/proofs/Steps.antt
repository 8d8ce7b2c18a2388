-- The least place that a tuple asks for.
use Rattle.std.proofs.Common.{ℕ, ◌≤◌, List, [], ◌∷◌, arith}
use Rattle.hv_bdd.specs.Tuples.{Moves, least}

pub least_below : {O : Type 0} (m : Moves O) (os : List O) (ts : List ℕ) → least m os ts ≤ m.atoms
least_below m [] ts = omega arith
least_below m (o ∷ os) [] = omega arith
least_below m (o ∷ os) (i ∷ ts) = let upto = least_below m os ts in omega arith
