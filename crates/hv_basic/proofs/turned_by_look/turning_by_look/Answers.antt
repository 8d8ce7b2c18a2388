use Rattle.std.proofs.Common.{◌≡◌, ◌<◌, true, false, Some, arith, inl, inr, length, slice_get, subst, sym}
use Rattle.std.proofs.lemmas.Bool.{cases_lt}
use Rattle.std.proofs.lemmas.Option.{slice_get_within}
use Rattle.std.specs.List.{Contains}
use Rattle.hv_lines.proofs.Elements.{all_from, nothing_in}
use Rattle.hv_task.specs.Strips.{atoms}
use Rattle.hv_basic.specs.Working.Framed.{AreFlagsFor, AreTurning, ChangesOne}
use Rattle.hv_basic.proofs.Flagged.{changes_flagged, over_at}
use Rattle.hv_basic.proofs.turned_by_look.turning_by_look.Goals as goal

pub loop-number-init : goal.loop-number-init
loop-number-init c =
    let one = c.in_ok-put.ensures in
    record {
      first = λ some. one.has (omega (arith, some, c.actions.ensures.actions));
      has = λ k action less. absurd (omega (arith, less));
      below = λ k h. elim (one.below k h) [
        | inl none ↦
            absurd (nothing_in k (subst (λ xs. Contains xs k) c.new-found.ensures none))
        | inr less ↦ omega (arith, less, c.actions.ensures.actions)
      ];
    }

pub loop-number-preserved : goal.loop-number-preserved
loop-number-preserved c =
    let i = c.loop-number.invariant in
    let e = c.in_ok-put_changing.ensures in
    let added = c.in_ok-added.added.items in
    record {
      first = λ some. e.kept 0 (i.first some);
      has = λ k action less at changes.
          elim (cases_lt k c.loop-number.number) [
            | inl earlier ↦ e.kept k (i.has k action earlier at changes)
            | inr upto ↦
                let same : k ≡ c.loop-number.number = omega (arith, less, upto) in
                subst (Contains c.put_changing.new.found) (sym same)
                (e.has action
                (subst (λ n. slice_get c.args.task.now.actions n ≡ Some action) same at)
                (subst (λ flags. ChangesOne flags c.deref-in-loop-number.result.now action)
                (sym c.deref.ensures.value)
                (subst (λ flags. ChangesOne added flags action)
                (sym c.deref-in-loop-number.ensures.value) changes)))
          ];
      below = λ k h. elim (e.below k h) [ inl old ↦ i.below k old | inr less ↦ less ];
    }

pub returns : goal.returns
returns c =
    let i = c.loop-number.invariant in
    let task = c.args.task.now in
    let same = c.in_ok-numbers.ensures.list in
    let clauses = c.args.clauses.now in
    let count = c.atoms.ensures.atoms in
    let count-2 = c.atoms-2.ensures.atoms in
    let added = c.in_ok-added.added.items in
    let deleted = c.in_ok-deleted.deleted.items in
    subst (AreTurning task clauses c.args.value) (sym same)
    record {
      below = all_from (λ k. k < length task.actions) c.loop-number.found i.below;
      first = i.first;
      each = λ number action clause literal at among inside turns.
          let within = slice_get_within task.actions number action at in
          i.has number action
          (omega (arith, within, c.loop-number-test.false, c.actions-number-end.ensures.actions)) at
          (changes_flagged (atoms task) clauses c.args.value action
          (over_at task c.atoms.ensures.task number action at) clause literal among inside added
          deleted
          (subst (λ n. AreFlagsFor c.args.value true n clauses added) count c.in_ok-added.ensures)
          (subst (λ n. AreFlagsFor c.args.value false n clauses deleted) count-2
          c.in_ok-deleted.ensures)
          turns);
    }
