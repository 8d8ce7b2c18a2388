use Rattle.std.proofs.Common.{ltb, rules}
use Rattle.std.proofs.lemmas.List.Sorted.{IsPartitionPoint-from_clause, IsPartitionedBy-ltb}
use Rattle.hv_sets.specs.declared.literal.Literal.{Literal}
use Rattle.hv_sets.proofs.Cubes.{never_falls, first_from_point}
use Rattle.hv_bdd.proofs.atom_bits.first_upto.Goals as goal

pub returns : goal.returns
returns c =
    let parted = IsPartitionedBy-ltb (λ (l : Literal). l.atom) _ c.args.atom
    (never_falls c.args.literals.now c.requires) in
    let point = IsPartitionPoint-from_clause
    (λ (l : Literal). ltb l.atom c.args.atom) _ _ c.partition_point.ensures.partitioned parted
    (λ a r q k. search rules) in
    first_from_point c.args.literals.now c.args.atom c.partition_point.result
    c.partition_point.ensures.bound point
