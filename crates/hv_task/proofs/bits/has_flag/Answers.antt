use Rattle.std.proofs.Common.{◌/◌, ◌%◌, get_or}
use Rattle.std.specs.Int.{bit_at}
use Rattle.hv_task.proofs.Flags.{flag_from}
use Rattle.hv_task.proofs.bits.has_flag.Goals as goal

pub returns : goal.returns
returns c = flag_from c.has_bit.result (bit_at (get_or c.args.words.now (c.args.place / 64) 0)
    (c.args.place % 64)) c.has_bit.ensures
