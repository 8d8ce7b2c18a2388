use Rattle.std.proofs.Common.{◌≡◌, ℕ, List, true, false, ◌+◌, ◌<◌, get_or, length, take, arith}
use Rattle.std.proofs.Common.{subst}
use Rattle.std.proofs.lemmas.List.{get_or_default, take_all}
use Rattle.hv_sets.specs.declared.literal.Literal.{Literal}
use Rattle.hv_indexes.specs.Working.Signed.{IsSignedCode}
use Rattle.hv_indexes.specs.Working.Rows.{PutsCodes}
use Rattle.hv_indexes.specs.Rows.{code}
use Rattle.hv_indexes.proofs.Gathered.{signed_more, puts_both}
use Rattle.hv_indexes.proofs.signed.put_all.Goals as goal

pub loop-literal-preserved : goal.loop-literal-preserved
loop-literal-preserved c =
    let clause = c.args.clause.now in
    let i = c.loop-literal.literal-index in
    let none : Literal = record { atom = 0; positive = false } in
    let literal = get_or clause i none in
    let within : i < length clause = c.loop-literal-test.true in
    record {
      negative = puts_both (IsSignedCode false (take i clause) c.args.number)
          (λ (x : ℕ). (literal.positive ≡ false) × (x ≡ code literal.atom c.args.number))
          (IsSignedCode false (take (i + 1) clause) c.args.number)
          c.args.negative.now.items c.loop-literal.negative.items c.put.new.negative.items
          c.loop-literal.invariant.negative c.in_ok-put.ensures.negative
          (signed_more false clause i c.args.number literal within
          (get_or_default clause i none literal within));
      positive = puts_both (IsSignedCode true (take i clause) c.args.number)
          (λ (x : ℕ). (literal.positive ≡ true) × (x ≡ code literal.atom c.args.number))
          (IsSignedCode true (take (i + 1) clause) c.args.number)
          c.args.positive.now.items c.loop-literal.positive.items c.put.new.positive.items
          c.loop-literal.invariant.positive c.in_ok-put.ensures.positive
          (signed_more true clause i c.args.number literal within
          (get_or_default clause i none literal within));
    }

pub returns-clause-negative : goal.returns-clause-negative
returns-clause-negative c =
    let all : take c.loop-literal.literal-index c.args.clause.now
    ≡ c.args.clause.now = take_all c.loop-literal.literal-index c.args.clause.now
    (omega (arith, c.loop-literal-test.false)) in
    subst (λ (ls : List Literal). PutsCodes (IsSignedCode false ls c.args.number)
    c.args.negative.now.items
    c.loop-literal.negative.items) all c.loop-literal.invariant.negative

pub returns-clause-positive : goal.returns-clause-positive
returns-clause-positive c =
    let all : take c.loop-literal.literal-index c.args.clause.now
    ≡ c.args.clause.now = take_all c.loop-literal.literal-index c.args.clause.now
    (omega (arith, c.loop-literal-test.false)) in
    subst (λ (ls : List Literal). PutsCodes (IsSignedCode true ls c.args.number)
    c.args.positive.now.items
    c.loop-literal.positive.items) all c.loop-literal.invariant.positive
