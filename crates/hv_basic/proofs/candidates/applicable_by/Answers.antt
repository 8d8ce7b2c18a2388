use Rattle.std.proofs.Common.{◌≡◌, ◌∙◌, Some, [], ap, arith, get_or, inl, inr, length, subst, sym}
use Rattle.std.proofs.lemmas.List.{get_or_default}
use Rattle.std.proofs.lemmas.Option.{get_or_from_slice_get}
use Rattle.std.specs.List.{Contains}
use Rattle.hv_task.specs.State.{AreBelow}
use Rattle.hv_task.specs.Strips.{atoms}
use Rattle.hv_lines.proofs.Elements.{nothing_in}
use Rattle.hv_rows.specs.Rows.{IsInRow}
use Rattle.hv_rows.proofs.Rowed.{below_more}
use Rattle.hv_basic.specs.Working.Candidates.{AreFound}
use Rattle.hv_basic.proofs.Applicable.{found_in, put_state_more, row_at}
use Rattle.hv_basic.proofs.candidates.applicable_by.Goals as goal

pub loop-place-init : goal.loop-place-init
loop-place-init c =
    let one = c.in_ok-put.ensures in
    let row = c.in_ok-put_row.ensures in
    let last = c.atoms.result in
    let size = c.requires.rows.size in
    record {
      first = λ some. row.kept 0 (one.has (omega (arith, some, c.actions-2.ensures.actions)));
      past = λ k inside less. row.has k
          (row_at c.args.rows.now last c.index-rows-atoms.result c.deref.result.now
          (omega (arith, size, c.atoms.ensures.atoms)) c.index-rows-atoms.is
          c.deref.ensures.value k
          (subst (λ p. IsInRow c.args.rows.now p k) (sym c.atoms.ensures.atoms) inside))
          (omega (arith, less, c.actions-3.ensures.actions));
      has = λ i less. absurd (omega (arith, less));
      below = λ k h. elim (row.below k h) [
        | inl old ↦ elim (one.below k old) [
          | inl none ↦
              absurd (nothing_in k (subst (λ xs. Contains xs k) c.new-found.ensures none))
          | inr less ↦ omega (arith, less, c.actions-2.ensures.actions)
        ]
        | inr less ↦ omega (arith, less, c.actions-3.ensures.actions)
      ];
    }

pub put_rows-requires : goal.put_rows-requires
put_rows-requires c =
    let size = c.requires.rows.size in
    let held = c.slice-held.result.now in
    let at = get_or_from_slice_get c.args.states.now c.loop-place.place held []
    (c.get.ensures.state ∙ ap Some (sym c.slice-held.ensures.atoms)) in
    below_more (atoms c.args.task.now) (length c.args.rows.now) held
    (omega (arith, size))
    (subst (AreBelow (atoms c.args.task.now)) at
    (c.requires.states c.loop-place.place []
    (omega (arith, c.loop-place-test.true, c.len-place-end.ensures.len))))

pub loop-place-preserved : goal.loop-place-preserved
loop-place-preserved c =
    let i = c.loop-place.invariant in
    let e = c.in_ok-put_rows.ensures in
    let count = c.actions-in-loop-place.ensures.actions in
    record {
      first = λ some. e.kept 0 (i.first some);
      past = λ k inside less. e.kept k (i.past k inside less);
      has = put_state_more c.args.rows.now c.args.states.now (length c.args.task.now.actions)
          c.loop-place.place c.loop-place.found c.put_rows.new.found c.slice-held.result.now
          (c.get.ensures.state ∙ ap Some (sym c.slice-held.ensures.atoms)) e.kept
          (λ p k has inside less. e.has p k has inside (omega (arith, less, count))) i.has;
      below = λ k h. elim (e.below k h) [
        | inl old ↦ i.below k old
        | inr less ↦ omega (arith, less, count)
      ];
    }

pub returns : goal.returns
returns c =
    let i = c.loop-place.invariant in
    let same = c.in_ok-numbers.ensures.list in
    subst (AreFound c.args.task.now c.args.states.now) (sym same)
    (found_in c.args.task.now c.args.rows.now c.args.states.now c.loop-place.found
    c.requires.rows i.below i.first i.past
    (λ held p k among has inside less.
    let at : get_or c.args.states.now among.0 [] ≡ held =
    get_or_default c.args.states.now among.0 [] held among.1 ∙ among.2 in
    let within = among.1 in
    i.has among.0 (omega (arith, within, c.loop-place-test.false, c.len-place-end.ensures.len)) p k
    (subst (λ xs. Contains xs p) (sym at) has) inside less))
