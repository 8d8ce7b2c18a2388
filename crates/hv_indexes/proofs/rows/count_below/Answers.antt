use Rattle.std.proofs.Common.{ltb, ltb-true, ltb-false, rules, arith}
use Rattle.std.proofs.lemmas.List.Sorted.{IsPartitionPoint-from_clause, IsPartitionedBy-ltb}
use Rattle.hv_indexes.specs.declared.rows.RowHead.{RowHead}
use Rattle.hv_indexes.proofs.rows.count_below.Goals as goal

pub returns : goal.returns
returns c =
    let parted = IsPartitionedBy-ltb (λ (h : RowHead). h.key) _ c.args.key c.requires in
    let point = IsPartitionPoint-from_clause
    (λ (h : RowHead). ltb h.key c.args.key) _ _ c.partition_point.ensures.partitioned
    parted (λ a r q k. search rules) in
    record {
      within = c.partition_point.ensures.bound;
      before = λ k d less. ltb-true _ _
          (point.0 k d (omega (arith, less, c.partition_point.ensures.bound)) less);
      after = λ k d from within. ltb-false _ _ (point.1 k d from within);
    }
