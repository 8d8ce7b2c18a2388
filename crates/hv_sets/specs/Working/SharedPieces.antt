-- Lists of lists that have one owner or several.
use Rattle.std.specs.Prelude.{ℕ}
use Rattle.std.specs.Rc.{rc_value}
use Rattle.hv_sets.specs.Gathered.{Gathered}
use Rattle.hv_sets.specs.declared.shared_pieces.SharedPieces.{SharedPieces}
use Rattle.hv_sets.specs.declared.shared_pieces.SharedPieces.TheVariants as H

-- the pieces, wherever they lie
abbrev pub held_pieces : {T : Type 0} {N : ℕ} → SharedPieces T N → Gathered T
held_pieces (H.Few few) = few
held_pieces (H.Alone flat) = flat
held_pieces (H.Together shared) = rc_value shared
