use Rattle.hv_checker.proofs.PieceBehind.{piece_behind}
use Rattle.hv_checker.proofs.laws.one_piece_behind.Goals as goal

pub returns : goal.returns
returns c = piece_behind
