use Rattle.hv_task.proofs.Outside.{bit_outside}
use Rattle.hv_task.proofs.bits.outside.Goals as goal

pub returns : goal.returns
returns c = λ i less. bit_outside c.args.word c.args.other i c.ranges.other.fits less
