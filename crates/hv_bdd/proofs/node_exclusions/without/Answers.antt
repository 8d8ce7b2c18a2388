use Rattle.std.proofs.Common.{w64}
use Rattle.std.proofs.lemmas.Nat.Bits.{bit_at_clear_other}
use Rattle.hv_bdd.proofs.node_exclusions.without.Goals as goal

pub returns : goal.returns
returns c = bit_at_clear_other w64 c.args.word c.args.bit c.requires
