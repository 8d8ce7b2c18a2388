use Rattle.std.proofs.Common.{◌≡◌, map, take}
use Rattle.hv_indexes.specs.Rows.{place_of_code}
use Rattle.hv_indexes.proofs.rows.numbers_of.Given as goal

abbrev pub invariant-loop-code : goal.invariant-loop-code
invariant-loop-code l = l.numbers.items ≡ map place_of_code (take l.code-index l.codes)
