use Rattle.std.proofs.Common.{◌<◌, ◌+◌, List, arith, get_or, length, subst, sym, take}
use Rattle.std.proofs.lemmas.List.{length-map}
use Rattle.hv_lines.proofs.Shaped.{literal_from}
use Rattle.hv_basic.specs.Working.Gathered.{AreGathered, AreOthers}
use Rattle.hv_basic.specs.Leaves.{places}
use Rattle.hv_basic.specs.declared.signed_sets.Asking.{Asking}
use Rattle.hv_basic.proofs.Gathering.{family_at, gathered_more, gathered_other, gathered_whole, others_at}
use Rattle.hv_basic.proofs.Gathering.{literal_at, other_at, others_same, others_whole, others_with}
use Rattle.hv_basic.proofs.signed_sets.gather.Goals as goal
use Rattle.hv_basic.proofs.signed_sets.gather.Goals.{in-Some+in_ok-push-in-Some, in-None}

pub loop-leaf-preserved : goal.loop-leaf-preserved
loop-leaf-preserved c =
    let leaves = c.args.leaves.now in
    let i = c.loop-leaf.leaf-index in
    let size = length-map c.args.leaves.now (λ leaf. leaf.place) in
    let within : i < length (places leaves) = omega (arith, size) in
    elim c.match-leaf.branch [
      | in-Some+in_ok-push-in-Some w ↦ record {
        gathered = λ lines read.
            subst (λ v. AreGathered lines (take (i + 1) (places leaves)) c.args.on_left c.args.after
            c.args.into.now.items v.items) (sym w.into-is)
            (subst (λ (xs : List Asking). AreGathered lines (take (i + 1) (places leaves))
            c.args.on_left c.args.after c.args.into.now.items xs)
            (sym w.in_ok-push-in-Some.ensures.items)
            (gathered_more lines (places leaves) i within c.args.on_left c.args.after
            c.args.into.now.items c.loop-leaf.into.items
            (c.loop-leaf.invariant.gathered lines read) w.in-Some.literal _ w.sign_on.result
            (literal_at lines leaves i _ c.loop-leaf-test.true read w.in-Some.literal w.in-Some.is)
            (family_at lines leaves i _ c.loop-leaf-test.true read w.in-Some.literal w.in-Some.is)
            w.sign_on.ensures));
        others = λ lines read.
            subst (AreOthers lines (take (i + 1) (places leaves))) (sym w.others-is)
            (others_at lines (places leaves) i c.loop-leaf.others within
            (others_same lines (take i (places leaves)) (get_or (places leaves) i 0)
            c.loop-leaf.others
            (literal_from lines (get_or (places leaves) i 0) w.in-Some.literal.set
            w.in-Some.literal.is_plain
            (literal_at lines leaves i _ c.loop-leaf-test.true read w.in-Some.literal w.in-Some.is))
            (c.loop-leaf.invariant.others lines read)));
      }
      | in-None w ↦ record {
        gathered = λ lines read.
            subst (λ v. AreGathered lines (take (i + 1) (places leaves)) c.args.on_left c.args.after
            c.args.into.now.items v.items) (sym w.into-is)
            (gathered_other lines (places leaves) i within c.args.on_left c.args.after
            c.args.into.now.items c.loop-leaf.into.items
            (c.loop-leaf.invariant.gathered lines read)
            (other_at lines leaves i _ c.loop-leaf-test.true read w.in-None.is));
        others = λ lines read.
            subst (AreOthers lines (take (i + 1) (places leaves))) (sym w.others-is)
            (others_at lines (places leaves) i w.with_other-others.result within
            (others_with lines leaves i _ c.loop-leaf-test.true read c.loop-leaf.others
            w.with_other-others.result w.in-None.is (c.loop-leaf.invariant.others lines read)
            w.with_other-others.ensures));
      }
    ]

pub returns : goal.returns
returns c = record {
  gathered = λ lines read.
      gathered_whole lines (places c.args.leaves.now) c.loop-leaf.leaf-index
      (let size = length-map c.args.leaves.now (λ leaf. leaf.place) in omega (arith, size))
      c.args.on_left c.args.after c.args.into.now.items c.loop-leaf.into.items
      (c.loop-leaf.invariant.gathered lines read);
  others = λ lines read.
      others_whole lines (places c.args.leaves.now) c.loop-leaf.leaf-index
      c.loop-leaf.others
      (let size = length-map c.args.leaves.now (λ leaf. leaf.place) in omega (arith, size))
      (c.loop-leaf.invariant.others lines read);
}
