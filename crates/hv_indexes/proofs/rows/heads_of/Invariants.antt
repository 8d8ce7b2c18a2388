use Rattle.hv_indexes.specs.Working.Rows.{AreHeadsOf}
use Rattle.hv_indexes.proofs.rows.heads_of.Given as goal

abbrev pub invariant-loop-start : goal.invariant-loop-start
invariant-loop-start l = AreHeadsOf l.codes l.start l.heads.items
