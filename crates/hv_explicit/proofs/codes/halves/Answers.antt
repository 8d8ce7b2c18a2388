use Rattle.std.proofs.Common.{refl}
use Rattle.hv_explicit.specs.Working.Codes.{folded}
use Rattle.hv_explicit.proofs.codes.halves.Goals as goal

pub returns : goal.returns
unfolding folded
returns c = refl
