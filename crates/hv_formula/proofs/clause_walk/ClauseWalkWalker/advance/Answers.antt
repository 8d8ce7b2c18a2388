use Rattle.std.proofs.Common.{◌≡◌, ◌<◌, ◌∙◌, [], arith, length, sym, get_or, ap, subst, take}
use Rattle.std.proofs.lemmas.Option.{get_or_from_slice_get}
use Rattle.hv_sets.specs.Cubes.{SpeakBelow}
use Rattle.hv_sets.specs.Truth.{in_cube}
use Rattle.hv_indexes.specs.Places.{clause_at}
use Rattle.hv_indexes.specs.Orders.{OrdersUpto, place_in}
use Rattle.hv_formula.specs.Walked.{opposed}
use Rattle.hv_formula.proofs.Walked.{denied_along_is, denied_below, size_denied}
use Rattle.hv_formula.proofs.Ordering.{ordered_next}
use Rattle.hv_formula.proofs.clause_walk.ClauseWalkWalker.advance.Goals as goal

pub index-code-requires : goal.index-code-requires
index-code-requires g c = omega (arith, c.if-self-len.false, c.len.ensures)

pub get-clause-requires : goal.get-clause-requires
get-clause-requires g c =
    let set = c.args.self.now.set.now in
    let order = c.args.self.now.order.items in
    let code = c.index-code.result.now in
    let less : c.args.self.now.taken < length order =
    omega (arith, c.if-self-len.false, c.len.ensures) in
    let below : place_in code < length set.clauses =
    c.requires.1.only code (c.args.self.now.taken, less, sym c.index-code.ensures) in
    omega (arith, below, c.place_of.ensures, ap length c.clauses-clauses.ensures.clauses)

pub put_rest-requires-clause-codes : goal.put_rest-requires-clause-codes
put_rest-requires-clause-codes g c =
    subst (λ xs. OrdersUpto (length c.get-clause.result.now) xs)
    (sym c.as_slice-codes.ensures.value) c.in_ok-of_literals.ensures

pub put_rest-requires-clause-within : goal.put_rest-requires-clause-within
put_rest-requires-clause-within g c = c.common-kept.ensures.within

pub put_rest-requires-clause-front : goal.put_rest-requires-clause-front
put_rest-requires-clause-front g c =
    c.truncate.ensures.items ∙ (ap (take c.common-kept.result) (sym c.as_slice.ensures.value)
    ∙ c.common-kept.ensures.same)

pub returns-clause-step : goal.returns-clause-step
returns-clause-step g c =
    let set = c.args.self.now.set.now in
    let order = c.args.self.now.order.items in
    let taken = c.args.self.now.taken in
    let code = c.index-code.result.now in
    let clause = c.get-clause.result.now in
    let codes = c.of_literals.new.codes.items in
    let less : taken < length order = omega (arith, c.if-self-len.false, c.len.ensures) in
    let here : clause_at set.clauses (place_in code) ≡ clause =
    ap (λ cs. clause_at cs (place_in code)) (sym c.clauses-clauses.ensures.clauses)
    ∙ (ap (λ p. clause_at c.clauses-clauses.result.now p) (sym c.place_of.ensures)
    ∙ get_or_from_slice_get c.clauses-clauses.result.now c.place_of.result clause []
    c.get-clause.ensures) in
    let ordered : OrdersUpto (length clause) c.as_slice-codes.result.now =
    subst (λ xs. OrdersUpto (length clause) xs) (sym c.as_slice-codes.ensures.value)
    c.in_ok-of_literals.ensures in
    let is = c.in_ok-put_rest.ensures in (
      ordered_next set.clauses order taken code c.put_rest.new.literals.items less
          (sym c.index-code.ensures)
          (λ s. ap (λ ls. in_cube ls s) is
          ∙ (denied_along_is clause s c.as_slice-codes.result.now ordered
          ∙ ap (λ ls. in_cube (opposed ls) s) (sym here))),
      record {
        old_room = omega (arith, c.common-kept.ensures.room, ap length c.as_slice.ensures.value);
        new_room = omega (
          arith,
          c.common-kept.ensures.within,
          ap length is,
          size_denied clause c.as_slice-codes.result.now,
        );
        same = ap (take c.common-kept.result) is ∙ (sym c.common-kept.ensures.same
            ∙ ap (take c.common-kept.result) c.as_slice.ensures.value);
      },
    )

pub returns-clause-stands : goal.returns-clause-stands
returns-clause-stands g c =
    let set = c.args.self.now.set.now in
    let order = c.args.self.now.order.items in
    let code = c.index-code.result.now in
    let clause = c.get-clause.result.now in
    let less : c.args.self.now.taken < length order =
    omega (arith, c.if-self-len.false, c.len.ensures) in
    let below : place_in code < length set.clauses =
    c.requires.1.only code (c.args.self.now.taken, less, sym c.index-code.ensures) in
    let here : get_or c.clauses-clauses.result.now c.place_of.result [] ≡ clause =
    get_or_from_slice_get c.clauses-clauses.result.now c.place_of.result clause []
    c.get-clause.ensures in (
      subst (λ xs. SpeakBelow set.atoms xs) (sym c.in_ok-put_rest.ensures)
          (denied_below set.atoms clause c.as_slice-codes.result.now
          (subst (λ xs. SpeakBelow set.atoms xs) here
          (c.clauses-clauses.ensures.below c.place_of.result []
          (omega (arith, below, c.place_of.ensures, ap length c.clauses-clauses.ensures.clauses))))
          (subst (λ xs. OrdersUpto (length clause) xs) (sym c.as_slice-codes.ensures.value)
          c.in_ok-of_literals.ensures)),
      c.requires.1,
    )
