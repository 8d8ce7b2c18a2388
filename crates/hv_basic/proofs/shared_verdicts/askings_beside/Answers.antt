use Rattle.std.proofs.Common.{◌∙◌, List, false, subst, sym}
use Rattle.std.specs.List.{All}
use Rattle.hv_basic.specs.Leaves.{IsLeafRead, places}
use Rattle.hv_basic.specs.Working.Gathered.{AreGathered}
use Rattle.hv_basic.specs.declared.signed_sets.Asking.{Asking}
use Rattle.hv_basic.specs.declared.signed_sets.Leaf.{Leaf}
use Rattle.hv_basic.proofs.Negations.{negations_read}
use Rattle.hv_basic.proofs.shared_verdicts.askings_beside.Goals as goal

pub returns : goal.returns
returns c = λ lines are.
    let kept = c.args.kept.now in
    let leaves = kept.negations.items in
    let new = c.gather.new.into.items in
    subst (λ (xs : List Asking). AreGathered lines (places leaves) false kept.after xs new)
    (c.in_ok-askings.ensures.items ∙ c.deref.ensures.value)
    (subst (λ (ls : List Leaf). AreGathered lines (places ls) false kept.after
    c.in_ok-askings.askings.items new) c.deref-2.ensures.value
    (c.in_ok-gather.ensures.gathered lines (subst (λ (ls : List Leaf). All (IsLeafRead lines) ls)
    (sym c.deref-2.ensures.value) (negations_read lines leaves are))))
