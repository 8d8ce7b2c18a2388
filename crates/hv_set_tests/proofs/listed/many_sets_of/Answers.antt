use Rattle.std.proofs.Common.{◌≡◌, ◌∷◌, [], ap, arith, length, length-append, subst, sym}
use Rattle.std.proofs.lemmas.List.Elements.{All-push}
use Rattle.hv_explicit.specs.ListedStates.{AreListsOver, ListedStates}
use Rattle.hv_set_tests.proofs.listed.many_sets_of.Goals as goal

pub loop-mask-preserved : goal.loop-mask-preserved
loop-mask-preserved c =
    let now = c.in_ok-add.ensures.ok in
    let longer = length-append c.loop-mask.sets (c.in_ok-set_from.field-0 ∷ []) in
    let size = ap length now in
    record {
      len = let before = c.loop-mask.invariant.len in omega arith;
      over =
          subst (λ sets. AreListsOver sets 2) (sym now)
          (All-push (λ (set : ListedStates). set.atoms ≡ 2) c.loop-mask.sets
          c.in_ok-set_from.field-0
          c.loop-mask.invariant.over c.in_ok-set_from.ensures);
    }
