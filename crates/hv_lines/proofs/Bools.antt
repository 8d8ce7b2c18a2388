-- A test has one answer.
use Rattle.std.proofs.Common.{◌≡◌, Bool, true, not}
use Rattle.std.proofs.lemmas.Bool.{both_ways, not-true}

pub not_out : (b : Bool) → not b ≡ true → b ≡ true → ⊥
not_out b out is = both_ways b (not-true b out) is
