use Rattle.std.proofs.Common.{◌+◌, Some, None, sym, subst, arith}
use Rattle.hv_task.specs.Atoms.{IsNext, Lists}
use Rattle.hv_task.specs.State.{has_atom}
use Rattle.hv_task.proofs.Listing.{lists_none, lists_next, lists_state, within_state}
use Rattle.hv_task.proofs.state.State.list_atoms.Goals as goal

pub loop-atom-init : goal.loop-atom-init
loop-atom-init c = record {
  so_far = subst (Lists (has_atom c.args.self.now) 0) (sym c.clear.ensures.items)
      (lists_none (has_atom c.args.self.now));
  upto = omega arith;
}

pub overflow_add-from : goal.overflow_add-from
overflow_add-from c =
    let is : IsNext (has_atom c.args.self.now) c.loop-atom.from (Some c.in-Some.atom) = rw
    c.in-Some.is at c.next.ensures in
    let less = within_state c.args.self.now c.in-Some.atom is.1 in
    let size = c.atoms-atoms.ensures in let fits = c.atoms-atoms.type_inv in
    record { fits = omega arith }

pub loop-atom-smaller : goal.loop-atom-smaller
loop-atom-smaller c =
    let is : IsNext (has_atom c.args.self.now) c.loop-atom.from (Some c.in-Some.atom) = rw
    c.in-Some.is at c.next.ensures in
    let less = within_state c.args.self.now c.in-Some.atom is.1 in omega (arith, is.0)

pub loop-atom-preserved : goal.loop-atom-preserved
loop-atom-preserved c =
    let is : IsNext (has_atom c.args.self.now) c.loop-atom.from (Some c.in-Some.atom) = rw
    c.in-Some.is at c.next.ensures in
    let less = within_state c.args.self.now c.in-Some.atom is.1 in
    record {
      so_far = subst (Lists (has_atom c.args.self.now) (c.in-Some.atom + 1))
          (sym c.in_ok-push.ensures.items)
          (lists_next (has_atom c.args.self.now) c.loop-atom.from c.loop-atom.held.items
          c.in-Some.atom c.loop-atom.invariant.so_far is);
      upto = omega arith;
    }

pub returns : goal.returns
returns c =
    let is : IsNext (has_atom c.args.self.now) c.loop-atom.from None = rw c.in_default.is at
    c.next.ensures in
    record {
      listed = lists_state c.args.self.now c.loop-atom.from c.loop-atom.held.items
          c.loop-atom.invariant.so_far is;
    }
