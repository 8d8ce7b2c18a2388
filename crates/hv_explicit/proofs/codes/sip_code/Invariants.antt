use Rattle.std.proofs.Common.{◌≡◌, ◌≤◌, ◌-◌, List, ℕ}
use Rattle.std.specs.Hash.DefaultHasher as sip
use Rattle.hv_task.specs.Atoms.{Lists}
use Rattle.hv_explicit.specs.Working.Codes.{with_atoms}
use Rattle.hv_explicit.proofs.codes.sip_code.Given as goal

abbrev pub invariant-loop-atom : goal.invariant-loop-atom
invariant-loop-atom g l = record {
  upto : l.from ≤ l.atoms;
  so_far : (xs : List ℕ) × Lists (g.A.Atoms.has l.held) l.from xs
      × (l.hasher ≡ with_atoms sip.initial xs);
}

abbrev pub decreases-loop-atom : goal.decreases-loop-atom
decreases-loop-atom g l = l.atoms - l.from
