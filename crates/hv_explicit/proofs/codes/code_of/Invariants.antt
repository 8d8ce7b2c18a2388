use Rattle.std.proofs.Common.{◌≡◌, ◌≤◌, ◌-◌, ◌%◌, ◌^◌}
use Rattle.hv_explicit.specs.Working.Codes.{total}
use Rattle.hv_explicit.proofs.codes.code_of.Given as goal

abbrev pub invariant-loop-atom : goal.invariant-loop-atom
invariant-loop-atom g l = record {
  upto : l.from ≤ l.atoms;
  so_far : l.code ≡ total l.key (g.A.Atoms.has l.held) l.from % 2 ^ 64;
}

abbrev pub decreases-loop-atom : goal.decreases-loop-atom
decreases-loop-atom g l = l.atoms - l.from
