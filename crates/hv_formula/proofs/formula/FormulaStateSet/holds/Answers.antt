use Rattle.std.proofs.Common.{◌≡◌, ◌∙◌, [], true, length, sym, ap, arith, below_more}
use Rattle.std.proofs.lemmas.List.Folds.{list_all_at}
use Rattle.std.proofs.lemmas.Option.{get_or_from_slice_get}
use Rattle.hv_sets.specs.Truth.{in_clause, in_clauses}
use Rattle.hv_formula.specs.Clausal.{FormulaState}
use Rattle.hv_indexes.specs.Places.{clause_at}
use Rattle.hv_propagation.proofs.Effects.{list_all_from}
use Rattle.std.proofs.lemmas.List.{get_or_default}
use Rattle.hv_formula.proofs.formula.FormulaStateSet.holds.Goals as goal

pub loop-place-preserved : goal.loop-place-preserved
loop-place-preserved g c =
    let s = c.args.state.now in
    let clauses = c.args.self.now.clauses in
    let view = ap (λ (f : FormulaState). f.clauses) c.self.view_is in
    record {
      holds = below_more (λ k. in_clause (clause_at clauses k) s ≡ true) c.loop-place.place
          c.loop-place.invariant.holds
          (ap (λ cs. in_clause (clause_at cs c.loop-place.place) s) (sym view)
          ∙ (ap (λ x. in_clause x s) (get_or_from_slice_get c.self.inside.clauses c.loop-place.place
          c.get.result.now [] c.get.ensures)
          ∙ sym c.if-not-is_true_in.ensures));
    }

pub returns-then-not-is_true_in : goal.returns-then-not-is_true_in
returns-then-not-is_true_in g c =
    let s = c.args.state.now in
    let end = c.len-place-end.ensures in
    let less = c.loop-place-test.true in
    let view = ap (λ (f : FormulaState). f.clauses) c.self.view_is in
    sym (ap (λ cs. in_clauses cs s) (sym view)
    ∙ list_all_at (λ x. in_clause x s) c.self.inside.clauses c.loop-place.place [] (omega arith)
    (ap (λ x. in_clause x s) (get_or_from_slice_get c.self.inside.clauses c.loop-place.place
    c.get.result.now [] c.get.ensures)
    ∙ sym c.if-not-is_true_in.ensures))

pub returns : goal.returns
returns g c =
    let s = c.args.state.now in
    let end = c.len-place-end.ensures in
    let past = c.loop-place-test.false in
    let view = ap (λ (f : FormulaState). length f.clauses) c.self.view_is in
    sym (list_all_from (λ x. in_clause x s) c.args.self.now.clauses
    (λ k d less. ap (λ x. in_clause x s) (get_or_default c.args.self.now.clauses k d [] less)
    ∙ c.loop-place.invariant.holds k (omega arith)))
