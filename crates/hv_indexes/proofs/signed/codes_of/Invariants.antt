use Rattle.std.specs.Prelude.{slice_index_or, [], true, false}
use Rattle.hv_indexes.specs.Working.Signed.{IsSignedCode}
use Rattle.hv_indexes.specs.Working.Rows.{ListsCodes}
use Rattle.hv_indexes.proofs.signed.codes_of.Given as goal

abbrev pub invariant-loop-place : goal.invariant-loop-place
invariant-loop-place l = record {
  negative : ListsCodes (λ k. IsSignedCode false (slice_index_or l.clauses k []) k) l.place
      l.negative.items;
  positive : ListsCodes (λ k. IsSignedCode true (slice_index_or l.clauses k []) k) l.place
      l.positive.items;
}
