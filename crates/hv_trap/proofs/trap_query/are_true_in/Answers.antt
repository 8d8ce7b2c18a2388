use Rattle.std.proofs.Common.{◌≡◌, ◌∙◌, [], true, get_or, sym, ap, arith, below_more}
use Rattle.std.proofs.lemmas.List.{get_or_default}
use Rattle.std.proofs.lemmas.List.Folds.{list_all_at}
use Rattle.std.proofs.lemmas.Option.{get_or_from_slice_get}
use Rattle.hv_sets.specs.Truth.{in_clause}
use Rattle.hv_propagation.proofs.Effects.{list_all_from}
use Rattle.hv_trap.proofs.trap_query.are_true_in.Goals as goal

pub loop-place-preserved : goal.loop-place-preserved
loop-place-preserved c =
    let s = c.args.state.now in
    below_more (λ k. in_clause (get_or c.args.clauses.now k []) s ≡ true) c.loop-place.place
    c.loop-place.invariant
    (ap (λ x. in_clause x s) (get_or_from_slice_get c.args.clauses.now c.loop-place.place
    c.get.result.now [] c.get.ensures)
    ∙ sym c.if-not-is_true_in.ensures)

pub returns-then-not-is_true_in : goal.returns-then-not-is_true_in
returns-then-not-is_true_in c =
    let s = c.args.state.now in
    let end = c.len-place-end.ensures in
    let less = c.loop-place-test.true in
    sym (list_all_at (λ x. in_clause x s) c.args.clauses.now c.loop-place.place []
    (omega (arith, end, less))
    (ap (λ x. in_clause x s) (get_or_from_slice_get c.args.clauses.now c.loop-place.place
    c.get.result.now [] c.get.ensures)
    ∙ sym c.if-not-is_true_in.ensures))

pub returns : goal.returns
returns c =
    let s = c.args.state.now in
    let end = c.len-place-end.ensures in
    let past = c.loop-place-test.false in
    sym (list_all_from (λ x. in_clause x s) c.args.clauses.now
    (λ k d less. ap (λ x. in_clause x s) (get_or_default c.args.clauses.now k d [] less)
    ∙ c.loop-place.invariant k (omega (arith, end, past, less))))
