use Rattle.std.proofs.Common.{◌≡◌, take}
use Rattle.std.specs.Hash.DefaultHasher as sip
use Rattle.hv_explicit.specs.Working.Codes.{with_atoms}
use Rattle.hv_explicit.proofs.codes.list_sip.Given as goal

abbrev pub invariant-loop-atom : goal.invariant-loop-atom
invariant-loop-atom l = l.hasher ≡ with_atoms sip.initial (take l.atom-index l.list)
