use Rattle.std.proofs.lemmas.List.Filters.{dedup_is}
use Rattle.std.proofs.lemmas.List.Kept.{Contains-dedup_nat, Contains-from_dedup}
use Rattle.std.proofs.lemmas.List.Sorted.{Contains-permutation, IsPermutation-sym}
use Rattle.std.proofs.lemmas.Map.Keys.{IsStrictlyIncreasing-dedup}
use Rattle.hv_task.proofs.Sets.{same_members_of}
use Rattle.hv_task.proofs.atom_set.sort.Goals as goal

pub returns-clause-members : goal.returns-clause-members
returns-clause-members c =
    let is = dedup_is _ _ _ c.dedup.ensures.filtered in
    let moved = c.sort_unstable.ensures.permutation in
    same_members_of c.dedup.new.self.items c.args.atoms.now.items
    (λ a h. Contains-permutation _ _ a (IsPermutation-sym _ _ moved)
    (Contains-from_dedup _ _ a (rw is at h)))
    (λ a h. rw is (Contains-dedup_nat _ a (Contains-permutation _ _ a moved h)))

pub returns-clause-rises : goal.returns-clause-rises
returns-clause-rises c =
    rw (dedup_is _ _ _ c.dedup.ensures.filtered)
    (IsStrictlyIncreasing-dedup _ c.sort_unstable.ensures.sorted)
