use Rattle.std.proofs.Common.{sym, subst, eqb}
use Rattle.std.proofs.lemmas.List.Filters.{dedup_is}
use Rattle.std.proofs.lemmas.List.Kept.{Contains-dedup_nat, Contains-from_dedup}
use Rattle.std.proofs.lemmas.List.Sorted.{Contains-permutation, IsPermutation-sym}
use Rattle.std.proofs.lemmas.Map.Keys.{IsStrictlyIncreasing-dedup}
use Rattle.std.specs.List.{Contains}
use Rattle.std.specs.List.Sorted.{IsStrictlyIncreasing}
use Rattle.hv_indexes.proofs.rows.sort.Goals as goal

pub returns-clause-rises : goal.returns-clause-rises
returns-clause-rises c =
    subst IsStrictlyIncreasing (sym (dedup_is eqb c.sort_unstable.new.self.items
    c.dedup.new.self.items c.dedup.ensures.filtered))
    (IsStrictlyIncreasing-dedup c.sort_unstable.new.self.items c.sort_unstable.ensures.sorted)

pub returns-clause-has : goal.returns-clause-has
returns-clause-has c = λ x.
    let sorted = c.sort_unstable.new.self.items in
    let is = dedup_is eqb sorted c.dedup.new.self.items c.dedup.ensures.filtered in
    let moved = c.sort_unstable.ensures.permutation in (
      λ has. Contains-permutation sorted c.args.codes.now.items x
          (IsPermutation-sym c.args.codes.now.items sorted moved)
          (Contains-from_dedup eqb sorted x (subst (λ xs. Contains xs x) is has)),
      λ has. subst (λ xs. Contains xs x) (sym is)
          (Contains-dedup_nat sorted x (Contains-permutation c.args.codes.now.items sorted x moved
          has)),
    )
