use Rattle.std.proofs.Common.{ℕ, Bool, ltb, rules}
use Rattle.std.proofs.lemmas.List.Sorted.{IsPartitionPoint-from_clause, IsPartitionedBy-ltb}
use Rattle.hv_basic.proofs.Sharing.{never_falls, split_at}
use Rattle.hv_basic.proofs.rights.lesser_before.Goals as goal

pub returns : goal.returns
returns c =
    let parted = IsPartitionedBy-ltb (λ (a : ℕ × Bool). a.0) _ c.args.set
    (never_falls c.args.asked.now c.requires) in
    let point = IsPartitionPoint-from_clause (λ (a : ℕ × Bool). ltb a.0 c.args.set) _ _
    c.partition_point.ensures.partitioned parted (λ a r q k. search rules) in
    split_at c.args.asked.now c.args.set c.partition_point.result c.partition_point.ensures.bound
    point
