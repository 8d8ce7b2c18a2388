use Rattle.std.proofs.Common.{◌≡◌, ℕ, List, true, false, [], get_or, length, arith, sym, subst}
use Rattle.std.proofs.lemmas.Option.{get_or_from_slice_get}
use Rattle.hv_sets.specs.declared.literal.Literal.{Literal}
use Rattle.hv_indexes.specs.Working.Signed.{IsSignedCode}
use Rattle.hv_indexes.specs.Working.Rows.{ListsCodes, PutsCodes}
use Rattle.hv_indexes.proofs.Gathered.{lists_more}
use Rattle.hv_indexes.proofs.signed.codes_of.Goals as goal

pub loop-place-preserved : goal.loop-place-preserved
loop-place-preserved c =
    let clauses = c.args.clauses.now in
    let k = c.loop-place.place in
    let is : get_or clauses k [] ≡ c.get.result.now = get_or_from_slice_get clauses k
    c.get.result.now [] c.get.ensures in
    record {
      negative = lists_more (λ (j : ℕ). IsSignedCode false (get_or clauses j []) j) k
          c.loop-place.negative.items
          c.put_all.new.negative.items c.loop-place.invariant.negative
          (subst (λ (ls : List Literal). PutsCodes (IsSignedCode false ls k)
          c.loop-place.negative.items
          c.put_all.new.negative.items) (sym is) c.in_ok-put_all.ensures.negative);
      positive = lists_more (λ (j : ℕ). IsSignedCode true (get_or clauses j []) j) k
          c.loop-place.positive.items
          c.put_all.new.positive.items c.loop-place.invariant.positive
          (subst (λ (ls : List Literal). PutsCodes (IsSignedCode true ls k)
          c.loop-place.positive.items
          c.put_all.new.positive.items) (sym is) c.in_ok-put_all.ensures.positive);
    }

pub returns-clause-negative : goal.returns-clause-negative
returns-clause-negative c =
    let end : c.loop-place.place ≡ length c.args.clauses.now =
    omega (arith, c.loop-place-test.false, c.loop-place.auto.place-end, c.len-place-end.ensures) in
    subst (λ (n : ℕ). ListsCodes (λ (j : ℕ). IsSignedCode false
    (get_or c.args.clauses.now j []) j) n
    c.loop-place.negative.items) end
    c.loop-place.invariant.negative

pub returns-clause-positive : goal.returns-clause-positive
returns-clause-positive c =
    let end : c.loop-place.place ≡ length c.args.clauses.now =
    omega (arith, c.loop-place-test.false, c.loop-place.auto.place-end, c.len-place-end.ensures) in
    subst (λ (n : ℕ). ListsCodes (λ (j : ℕ). IsSignedCode true
    (get_or c.args.clauses.now j []) j) n
    c.loop-place.positive.items) end
    c.loop-place.invariant.positive
