use Rattle.std.proofs.Common.{arith, inl, inr, length, subst, sym}
use Rattle.std.specs.List.{Contains}
use Rattle.hv_lines.proofs.Elements.{nothing_in}
use Rattle.hv_basic.specs.Working.Denied.{AreOpen}
use Rattle.hv_basic.proofs.Applicable.{row_at}
use Rattle.hv_basic.proofs.Denying.{open_in, put_open_more}
use Rattle.hv_basic.proofs.denied.open_in_rows.Goals as goal

pub loop-place-init : goal.loop-place-init
loop-place-init c =
    let one = c.in_ok-put.ensures in
    record {
      first = λ some. one.has (omega (arith, some, c.actions.ensures.actions));
      has = λ p less. absurd (omega (arith, less));
      below = λ k h. elim (one.below k h) [
        | inl none ↦
            absurd (nothing_in k (subst (λ xs. Contains xs k) c.new-found.ensures none))
        | inr less ↦ omega (arith, less, c.actions.ensures.actions)
      ];
    }

pub loop-place-preserved : goal.loop-place-preserved
loop-place-preserved c =
    let i = c.loop-place.invariant in
    let e = c.in_ok-put_open.ensures in
    let count = c.actions-in-loop-place.ensures.actions in
    record {
      first = λ some. e.kept 0 (i.first some);
      has = put_open_more c.args.rows.now c.args.flags.now (length c.args.task.now.actions)
          c.loop-place.place c.loop-place.found c.put_open.new.found e.kept
          (λ k off inside less. e.has k off
          (row_at c.args.rows.now c.loop-place.place c.index-rows-place.result
          c.deref.result.now (omega (arith, c.loop-place-test.true)) c.index-rows-place.is
          c.deref.ensures.value k inside)
          (omega (arith, less, count)))
          i.has;
      below = λ k h. elim (e.below k h) [
        | inl old ↦ i.below k old
        | inr less ↦ omega (arith, less, count)
      ];
    }

pub returns : goal.returns
returns c =
    let i = c.loop-place.invariant in
    subst (AreOpen c.args.task.now c.args.flags.now) (sym c.in_ok-numbers.ensures.list)
    (open_in c.args.task.now c.args.rows.now c.args.flags.now c.loop-place.found c.requires.rows
    c.requires.flags i.below i.first
    (λ p less. i.has p (omega (arith, less, c.loop-place-test.false))) c.actions.ensures.task)
