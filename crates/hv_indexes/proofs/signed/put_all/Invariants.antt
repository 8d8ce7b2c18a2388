use Rattle.std.proofs.Common.{take, true, false}
use Rattle.hv_indexes.specs.Working.Signed.{IsSignedCode}
use Rattle.hv_indexes.specs.Working.Rows.{PutsCodes}
use Rattle.hv_indexes.proofs.signed.put_all.Given as goal

abbrev pub invariant-loop-literal : goal.invariant-loop-literal
invariant-loop-literal l = record {
  negative : PutsCodes (IsSignedCode false (take l.literal-index l.clause) l.number)
      l.fn.negative.items l.negative.items;
  positive : PutsCodes (IsSignedCode true (take l.literal-index l.clause) l.number)
      l.fn.positive.items l.positive.items;
}
