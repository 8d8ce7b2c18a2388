use Rattle.std.proofs.Common.{◌≡◌, ◌<◌, ◌∙◌, [], ap, arith, get_or, inl, inr, length, subst, sym}
use Rattle.std.proofs.lemmas.Bool.{cases_lt}
use Rattle.std.proofs.lemmas.List.{get_or_default}
use Rattle.std.proofs.lemmas.Option.{get_or_from_slice_get, slice_get_within}
use Rattle.std.specs.List.{Contains}
use Rattle.hv_lines.proofs.Elements.{all_from, nothing_in}
use Rattle.hv_basic.specs.Working.Framed.{AreTurning}
use Rattle.hv_basic.proofs.turned.turning_in_rows.Goals as goal

pub loop-place-init : goal.loop-place-init
loop-place-init c =
    let one = c.in_ok-put.ensures in
    record {
      first = λ some. one.has (omega (arith, some, c.actions.ensures.actions));
      has = λ i less. absurd (omega (arith, less));
      below = λ k h. elim (one.below k h) [
        | inl none ↦
            absurd (nothing_in k (subst (λ xs. Contains xs k) c.new-found.ensures none))
        | inr less ↦ omega (arith, less, c.actions.ensures.actions)
      ];
    }

pub loop-place-preserved : goal.loop-place-preserved
loop-place-preserved c =
    let i = c.loop-place.invariant in
    let e = c.in_ok-put_clause.ensures in
    let count = c.actions-in-loop-place.ensures.actions in
    record {
      first = λ some. e.kept 0 (i.first some);
      has = λ j less number action literal at inside turns.
          elim (cases_lt j c.loop-place.place) [
            | inl earlier ↦
                e.kept number (i.has j earlier number action literal at inside turns)
            | inr upto ↦
                let same : j ≡ c.loop-place.place = omega (arith, less, upto) in
                let is = ap (λ n. get_or c.args.clauses.now n []) same
                ∙ get_or_from_slice_get c.args.clauses.now c.loop-place.place c.get.result.now []
                c.get.ensures in
                let among = slice_get_within c.args.task.now.actions number action at in
                e.has c.args.task.now number action literal c.requires at
                (subst (λ xs. Contains xs literal) is inside) turns (omega (arith, among, count))
          ];
      below = λ k h. elim (e.below k h) [
        | inl old ↦ i.below k old
        | inr less ↦ omega (arith, less, count)
      ];
    }

pub returns : goal.returns
returns c =
    let i = c.loop-place.invariant in
    let same = c.in_ok-numbers.ensures.list in
    let clauses = c.args.clauses.now in
    subst (AreTurning c.args.task.now clauses c.args.value) (sym same)
    record {
      below = all_from (λ k. k < length c.args.task.now.actions) c.loop-place.found i.below;
      first = i.first;
      each = λ number action clause literal at among inside turns.
          let within = among.1 in
          i.has among.0
          (omega (arith, within, c.loop-place-test.false, c.len-place-end.ensures)) number action
          literal at
          (subst (λ xs. Contains xs literal)
          (sym (get_or_default clauses among.0 [] clause among.1 ∙ among.2)) inside)
          turns;
    }
