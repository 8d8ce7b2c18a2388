use Rattle.std.proofs.Common.{◌≡◌, ◌<◌, ap, arith, length, refl}
use Rattle.hv_indexes.proofs.Heads.{heads_more}
use Rattle.hv_indexes.proofs.rows.heads_of.Goals as goal

pub loop-start-init : goal.loop-start-init
loop-start-init c =
    let none : length c.new-heads.result.items ≡ 0 = ap length c.new-heads.ensures.items in
    record {
      rises = λ i j d less within. absurd (omega (arith, none, within));
      each = λ k d within. absurd (omega (arith, none, within));
      all = λ k less. absurd (omega (arith, less));
      upto = λ k j d within past below. absurd (omega (arith, none, within));
    }

pub loop-start-preserved : goal.loop-start-preserved
loop-start-preserved c =
    let codes = c.args.codes.now in
    let start = c.loop-start.start in
    let within : start < length codes = c.loop-start-test.true in
    heads_more codes c.requires start within c.loop-start.heads.items c.loop-start.invariant
    (record { key = c.key_in-key.result; start = start }) c.key_in-key.ensures refl
    c.put_head.new.heads.items c.in_ok-put_head.ensures

pub returns : goal.returns
returns c = record {
  rises = c.loop-start.invariant.rises;
  each = c.loop-start.invariant.each;
  all = λ k less.
      c.loop-start.invariant.all k (omega (arith, less, c.loop-start-test.false));
}
