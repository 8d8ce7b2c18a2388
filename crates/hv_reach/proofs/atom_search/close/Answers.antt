use Rattle.std.proofs.Common.{◌<◌, ◌∙◌, length, arith, sym, subst, [], ◌∷◌, ◌++◌}
use Rattle.hv_task.specs.Strips.{atoms}
use Rattle.hv_task.specs.State.{AreBelow}
use Rattle.std.proofs.lemmas.List.Elements.{All-contains, Contains-push}
use Rattle.hv_reach.proofs.Sets.{empty_list, slice_get_at}
use Rattle.hv_reach.proofs.Waiting.{keeps_empty, settled_pop}
use Rattle.hv_reach.specs.Working.Waiting.{AreActionsSettled, AreActionsSettledBut}
use Rattle.hv_reach.proofs.atom_search.close.Goals as goal

pub wake-requires-clause-numbers : goal.wake-requires-clause-numbers
wake-requires-clause-numbers c =
    let i = c.loop-atom.invariant in
    let size = c.requires.index.size in
    let within : c.in-Some.atom < length c.args.rows.now.items =
    let all = subst (λ q. AreBelow (length c.loop-atom.held) q) c.in-Some.ensures.items
    i.kept.below in
    let less = All-contains (λ k. k < length c.loop-atom.held)
    (c.pop.new.self.items ++ c.in-Some.atom ∷ []) c.in-Some.atom all
    (Contains-push c.pop.new.self.items c.in-Some.atom) in
    let state = c.requires.state in
    let same = i.size in
    omega arith in
    subst (AreBelow (length c.args.task.now.actions)) (sym c.as_slice.ensures.value)
    (c.requires.index.below c.in-Some.atom c.index-row.result.now
    (slice_get_at c.args.rows.now.items c.in-Some.atom c.index-row.result.now within
    c.index-row.ensures))

pub wake-requires-clause-settled : goal.wake-requires-clause-settled
wake-requires-clause-settled c =
    let i = c.loop-atom.invariant in
    let size = c.requires.index.size in
    let within : c.in-Some.atom < length c.args.rows.now.items =
    let all = subst (λ q. AreBelow (length c.loop-atom.held) q) c.in-Some.ensures.items
    i.kept.below in
    let less = All-contains (λ k. k < length c.loop-atom.held)
    (c.pop.new.self.items ++ c.in-Some.atom ∷ []) c.in-Some.atom all
    (Contains-push c.pop.new.self.items c.in-Some.atom) in
    let state = c.requires.state in
    let same = i.size in
    omega arith in
    subst (λ xs. AreActionsSettledBut xs 0 c.args.task.now.actions c.loop-atom.held
    c.pop.new.self.items c.loop-atom.passed) (sym c.as_slice.ensures.value)
    (settled_pop (atoms c.args.task.now) c.args.task.now.actions c.args.rows.now.items
    c.index-row.result.now c.loop-atom.held c.in-Some.atom
    c.pop.new.self.items c.loop-atom.passed c.requires.index
    (slice_get_at c.args.rows.now.items c.in-Some.atom c.index-row.result.now within
    c.index-row.ensures)
    (subst (λ q. AreActionsSettled c.args.task.now.actions c.loop-atom.held q
    c.loop-atom.passed) c.in-Some.ensures.items i.settled))

pub loop-atom-preserved : goal.loop-atom-preserved
loop-atom-preserved c =
    let i = c.loop-atom.invariant in
    let s = c.in_ok-wake.ensures.step in
    record {
      size = s.size ∙ i.size;
      kept = c.in_ok-wake.ensures.kept;
      settled = c.in_ok-wake.ensures.settled;
      actions = c.wake.ensures.actions ∙ i.actions;
      grows = λ p h. s.grows p (i.grows p h);
      least = λ r keeps within. c.in_ok-wake.ensures.least r keeps (i.least r keeps within);
    }

pub returns-clause-keeps : goal.returns-clause-keeps
returns-clause-keeps c =
    let e = c.in_default.ensures.cases in
    keeps_empty c.args.task.now.actions c.loop-atom.held c.loop-atom.passed
    (subst (λ q. AreActionsSettled c.args.task.now.actions c.loop-atom.held q
    c.loop-atom.passed) (empty_list c.loop-atom.queue.items
    (let l = c.loop-atom.queue.ok.0 in omega arith)) c.loop-atom.invariant.settled)
