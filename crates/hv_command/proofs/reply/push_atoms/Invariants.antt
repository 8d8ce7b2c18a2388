use Rattle.std.proofs.Common.{◌≡◌, ◌++◌}
use Rattle.std.specs.List.{flat_map, range_with_len}
use Rattle.hv_command.specs.Replies.{atom_text}
use Rattle.hv_command.proofs.reply.push_atoms.Given as goal

abbrev pub invariant-loop-atom : goal.invariant-loop-atom
invariant-loop-atom l = l.text ≡ l.fn.text ++ flat_map (atom_text l.state) (range_with_len 0 l.atom)
