-- The printed words of limits.
use Rattle.std.specs.Prelude.{ℕ, List, codes}
use Rattle.hv_replay.specs.declared.fault.LogLimit.{LogLimit}
use Rattle.hv_replay.specs.declared.fault.LogLimit.TheVariants as W

-- the word of a limit
abbrev pub log_limit_word : LogLimit → List ℕ
log_limit_word W.Bytes = codes "bytes"
log_limit_word W.Expanded = codes "expanded"
log_limit_word W.Pruned = codes "pruned"
