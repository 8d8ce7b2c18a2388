use Rattle.std.proofs.Common.{ℕ, ◌==◌, length, ap, arith}
use Rattle.std.proofs.lemmas.List.Sums.{count_by-le-length}
use Rattle.hv_propagation.specs.Working.Buffers.{places_in, queue_in}
use Rattle.hv_propagation.specs.Trail.{Knowledge, marked}
use Rattle.hv_propagation.proofs.Trailed.{unknown_left}
use Rattle.hv_propagation.proofs.trail.Assignment.len.Goals as goal

pub returns-clause-few : goal.returns-clause-few
returns-clause-few c =
    let s = c.self.inside in
    let left = unknown_left (marked s.atoms s.roots) (places_in s.buffers) (queue_in s.buffers)
    s.len
    c.self.invariant.1 in
    let atoms = ap (λ (k : Knowledge). length k.roots) c.self.view_is in
    let most = count_by-le-length (λ (x : ℕ). x == 0) (marked s.atoms s.roots) in
    omega arith
