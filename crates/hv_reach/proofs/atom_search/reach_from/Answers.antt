use Rattle.std.proofs.Common.{◌≡◌, ◌<◌, arith, get_or, length, sym, subst, true}
use Rattle.hv_task.specs.State.{AreBelow, has_atom}
use Rattle.hv_task.specs.Strips.{atoms}
use Rattle.hv_reach.proofs.Sets.{slice_get_at}
use Rattle.hv_reach.proofs.Waiting.{all_queued, kept_start, queue_below, settled_start}
use Rattle.hv_reach.specs.Reached.{IsWithin}
use Rattle.hv_reach.specs.Working.Waiting.{AreActionsSettledBut}
use Rattle.hv_reach.proofs.atom_search.reach_from.Goals as goal

pub wake-requires-clause-numbers : goal.wake-requires-clause-numbers
wake-requires-clause-numbers c =
    let n = atoms c.args.task.now in
    let size = c.requires.index.size in
    let less : n < length c.args.rows.now.items = omega arith in
    subst (AreBelow (length c.args.task.now.actions)) (sym c.as_slice.ensures.value)
    (c.requires.index.below n c.index-free.result.now
    (slice_get_at c.args.rows.now.items n c.index-free.result.now less
    (subst (λ m. c.index-free.result.now ≡ get_or c.args.rows.now.items m c.index-free.result.now)
    c.atoms-2.ensures.atoms c.index-free.ensures)))

pub wake-requires-clause-kept : goal.wake-requires-clause-kept
wake-requires-clause-kept c =
    kept_start c.args.task.now.actions c.copy_from.new.self c.list_atoms.new.held.items
    c.args.passed.now c.requires.actions
    (queue_below c.copy_from.new.self c.args.start.now c.list_atoms.new.held.items
    c.copy_from.ensures c.in_ok-list_atoms.ensures.listed) c.requires.zeros

pub wake-requires-clause-settled : goal.wake-requires-clause-settled
wake-requires-clause-settled c =
    let n = atoms c.args.task.now in
    let size = c.requires.index.size in
    let less : n < length c.args.rows.now.items = omega arith in
    subst (λ xs. AreActionsSettledBut xs 0 c.args.task.now.actions c.copy_from.new.self
    c.list_atoms.new.held.items c.args.passed.now) (sym c.as_slice.ensures.value)
    (settled_start n c.args.task.now.actions c.args.rows.now.items c.index-free.result.now
    c.copy_from.new.self c.list_atoms.new.held.items c.args.passed.now c.requires.index
    (slice_get_at c.args.rows.now.items n c.index-free.result.now less
    (subst (λ m. c.index-free.result.now ≡ get_or c.args.rows.now.items m c.index-free.result.now)
    c.atoms-2.ensures.atoms c.index-free.ensures))
    c.requires.zeros
    (all_queued c.copy_from.new.self c.args.start.now c.list_atoms.new.held.items
    c.copy_from.ensures c.in_ok-list_atoms.ensures.listed))

pub returns-clause-reached : goal.returns-clause-reached
returns-clause-reached c = λ p. (
  λ h r closed.
      c.in_ok-close.ensures.least r closed.keeps (c.in_ok-wake.ensures.least r closed.keeps
      (subst (λ s. IsWithin s r) (sym c.copy_from.ensures) closed.begins)) p h,
  λ h. h (has_atom c.close.new.held) record {
    begins = λ q e. c.in_ok-close.ensures.grows q
        (c.in_ok-wake.ensures.step.grows q (subst
        (λ s. has_atom s q ≡ true) (sym c.copy_from.ensures) e));
    keeps = c.in_ok-close.ensures.keeps;
  },
)
