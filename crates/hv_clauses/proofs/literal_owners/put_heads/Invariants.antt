use Rattle.std.proofs.Common.{ℕ, ◌<◌, get_or}
use Rattle.std.specs.List.{Contains}
use Rattle.hv_indexes.specs.declared.rows.RowHead.{RowHead}
use Rattle.hv_indexes.specs.Rows.{code}
use Rattle.hv_clauses.proofs.literal_owners.put_heads.Given as goal

abbrev pub invariant-loop-index : goal.invariant-loop-index
invariant-loop-index l = record {
  kept : (c : ℕ) → Contains l.fn.codes.items c → Contains l.codes.items c;
  more : (j : ℕ) → j < l.index → (d : RowHead)
      → Contains l.codes.items (code (get_or l.heads j d).key l.place);
}
