use Rattle.std.proofs.Common.{◌≡◌, ◌<◌, ◌∙◌, ◌⊎◌, [], Some, ap, arith, inl, inr, length, slice_get, subst, sym}
use Rattle.std.proofs.lemmas.Bool.{cases_lt}
use Rattle.std.proofs.lemmas.Option.{slice_get_within}
use Rattle.std.specs.List.{Contains}
use Rattle.hv_lines.proofs.Elements.{all_from, nothing_in}
use Rattle.hv_task.proofs.Places.{length-state_of}
use Rattle.hv_task.specs.Strips.{atoms}
use Rattle.hv_basic.specs.Working.Excluded.{AreLeading, KeepsFormula}
use Rattle.hv_basic.proofs.exclusions.leading_by.Goals as goal

pub loop-number-init : goal.loop-number-init
loop-number-init c =
    let one = c.in_ok-put.ensures in
    record {
      size = ap length c.in_ok-able.ensures
          ∙ (length-state_of c.atoms.result [] ∙ c.atoms.ensures.atoms);
      first = λ some. one.has (omega (arith, some, c.actions.ensures.actions));
      each = λ k action less. absurd (omega (arith, less));
      below = λ k h. elim (one.below k h) [
        | inl none ↦
            absurd (nothing_in k (subst (λ xs. Contains xs k) c.new-found.ensures none))
        | inr less ↦ omega (arith, less, c.actions.ensures.actions)
      ];
    }

pub loop-number-preserved : goal.loop-number-preserved
loop-number-preserved c =
    let i = c.loop-number.invariant in
    let e = c.in_ok-put_leading.ensures in
    let task = c.args.task.now in
    record {
      size = c.put_leading.ensures.able ∙ i.size;
      first = λ some. e.kept 0 (i.first some);
      each = λ k action less at.
          elim (cases_lt k c.loop-number.number) [
            | inl earlier ↦ elim (i.each k action earlier at) [
              | inl keeps ↦ inl keeps
              | inr among ↦ inr (e.kept k among)
            ]
            | inr upto ↦
                let same : k ≡ c.loop-number.number = omega (arith, less, upto) in
                subst (λ n. KeepsFormula (atoms task) c.args.clauses.now c.args.into action
                ⊎ Contains c.put_leading.new.found n) (sym same)
                (e.each action
                (subst (λ n. slice_get task.actions n ≡ Some action) same at))
          ];
      below = λ k h. elim (e.below k h) [ inl old ↦ i.below k old | inr less ↦ less ];
    }

pub returns : goal.returns
returns c =
    let i = c.loop-number.invariant in
    let task = c.args.task.now in
    subst (AreLeading task c.args.clauses.now c.args.into) (sym c.in_ok-numbers.ensures.list)
    record {
      below = all_from (λ k. k < length task.actions) c.loop-number.found i.below;
      first = i.first;
      each = λ number action at.
          let within = slice_get_within task.actions number action at in
          i.each number action
          (omega (arith, within, c.loop-number-test.false, c.actions-number-end.ensures.actions)) at;
    }
