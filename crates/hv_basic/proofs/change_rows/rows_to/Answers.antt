use Rattle.std.proofs.Common.{◌≡◌, ◌<◌, ◌∙◌, ap, arith, inl, inr, length, subst, sym}
use Rattle.std.proofs.lemmas.Bool.{cases_lt}
use Rattle.std.proofs.lemmas.List.Elements.{All-contains}
use Rattle.std.proofs.lemmas.Option.{slice_get_within}
use Rattle.std.specs.List.{Contains}
use Rattle.hv_task.specs.State.{AreBelow}
use Rattle.hv_task.specs.Strips.{atoms}
use Rattle.hv_rows.specs.Rows.{IsInRow}
use Rattle.hv_rows.proofs.Rowed.{in_row_true}
use Rattle.hv_basic.specs.ChangeRows.{changed_to}
use Rattle.hv_basic.proofs.Crossing.{changed_below, one_action}
use Rattle.hv_basic.proofs.change_rows.rows_to.Goals as goal

pub loop-number-init : goal.loop-number-init
loop-number-init c = record {
  size = c.in_ok-rows.ensures.size ∙ c.atoms.ensures.atoms;
  each = λ k action atom less. absurd (omega (arith, less));
  under = λ k action atom less. absurd (omega (arith, less));
}

pub enter_all-requires : goal.enter_all-requires
enter_all-requires c =
    subst (AreBelow (length c.loop-number.rows.items)) (sym c.changed_to.ensures)
    (subst (λ n. AreBelow n (changed_to c.args.adds c.action.result.now))
    (sym c.loop-number.invariant.size)
    (changed_below (atoms c.args.task.now) c.args.adds c.action.result.now c.action.ensures.over))

pub loop-number-preserved : goal.loop-number-preserved
loop-number-preserved c =
    let i = c.loop-number.invariant in
    let e = c.in_ok-enter_all.ensures in
    let all = c.args.task.now.actions in
    let one = c.action.result.now in
    let adds = c.args.adds in
    record {
      size = c.enter_all.ensures.size ∙ i.size;
      each = λ k action atom less at changes.
          elim (cases_lt k c.loop-number.number) [
            | inl earlier ↦ e.keeps atom k (i.each k action atom earlier at changes)
            | inr upto ↦
                let same : c.loop-number.number ≡ k = omega (arith, less, upto) in
                subst (λ n. IsInRow c.enter_all.new.rows.items atom n) same
                (e.has atom
                (subst (λ xs. Contains xs atom)
                (ap (changed_to adds)
                (one_action all c.loop-number.number k one action same c.action.ensures.named at)
                ∙ sym c.changed_to.ensures) changes))
          ];
      under = λ k action atom less at changes.
          elim (cases_lt k c.loop-number.number) [
            | inl earlier ↦ i.under k action atom earlier at changes
            | inr upto ↦
                let same : c.loop-number.number ≡ k = omega (arith, less, upto) in
                All-contains (λ n. n < atoms c.args.task.now) (changed_to adds one) atom
                (changed_below (atoms c.args.task.now) adds one c.action.ensures.over)
                (subst (λ a. Contains (changed_to adds a) atom)
                (one_action all c.loop-number.number k one action same c.action.ensures.named at)
                changes)
          ];
    }

pub returns : goal.returns
returns c = λ number action atom at changes.
    let i = c.loop-number.invariant in
    let less = slice_get_within c.args.task.now.actions number action at in
    let done : number < c.loop-number.number = omega (arith, less, c.loop-number-test.false) in
    in_row_true c.loop-number.rows.items atom number
    (subst (λ n. atom < n) (sym i.size) (i.under number action atom done at changes))
    (i.each number action atom done at changes)
