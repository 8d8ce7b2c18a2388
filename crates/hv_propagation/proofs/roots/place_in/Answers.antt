use Rattle.std.proofs.Common.{ltb, rules}
use Rattle.std.proofs.lemmas.List.Sorted.{IsPartitionPoint-from_clause, IsPartitionedBy-ltb}
use Rattle.hv_sets.specs.declared.literal.Literal.{Literal}
use Rattle.hv_sets.proofs.Cubes.{first_from_point, never_falls}
use Rattle.hv_propagation.proofs.roots.place_in.Goals as goal

pub returns : goal.returns
returns c =
    let parted = IsPartitionedBy-ltb (λ (l : Literal). l.atom) _ c.args.atom
    (never_falls c.args.roots.now c.requires) in
    first_from_point c.args.roots.now c.args.atom _ c.partition_point.ensures.bound
    (IsPartitionPoint-from_clause (λ (l : Literal). ltb l.atom c.args.atom) _ _
    c.partition_point.ensures.partitioned parted (λ a r q k. search rules))
