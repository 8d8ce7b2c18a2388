use Rattle.std.proofs.Common.{◌+◌, arith, false, refl}
use Rattle.hv_sets.specs.declared.operand.Which.TheVariants as W
use Rattle.hv_set_tests.proofs.Wider.{wide_first, wide_more}
use Rattle.hv_set_tests.proofs.listed.wide_query_of.Goals as goal

pub loop-number-init : goal.loop-number-init
loop-number-init c =
    wide_first c.args.count 1 c.args.action record { which = W.Set 0; id = 0; after = false }
    c.push.new.self c.new-2.result
    (rw c.new.ensures at c.in_ok-push.ensures.ok) c.new-2.ensures (omega arith) refl
    (λ e. absurd cc) (omega arith)

pub loop-number-preserved : goal.loop-number-preserved
loop-number-preserved c =
    let number = c.loop-number.number in
    let within = c.loop-number-test.true in
    wide_more c.args.count number (number + 1) c.args.action c.loop-number.query
    c.add_negative.new.query
    record { which = W.Set number; id = number; after = c.args.after } c.loop-number.invariant refl
    (omega arith) within c.requires.after
    c.in_ok-add_negative.ensures

pub returns : goal.returns
returns c =
    let last = c.loop-number-test.false in
    let wide = wide_more c.args.count c.loop-number.number (c.args.count + 1) c.args.action
    c.loop-number.query c.add_negative-2.new.query
    record { which = c.args.last; id = c.args.count; after = c.args.after } c.loop-number.invariant
    (omega arith) (omega arith) c.requires.last
    c.requires.after c.in_ok-add_negative-2.ensures in
    record { ready = wide.ready; anchor = wide.anchor; action = wide.acts }
