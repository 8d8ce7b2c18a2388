use Rattle.std.proofs.Common.{◌≡◌, true, inl, inr, arith}
use Rattle.std.proofs.lemmas.Bool.{cases_lt}
use Rattle.hv_sas.specs.Sound.{IsOperator}
use Rattle.hv_sas.proofs.Making.{item_at, item_is}
use Rattle.hv_sas.proofs.sound.are_operators.Goals as goal

pub returns-then-not-is_operator : goal.returns-then-not-is_operator
returns-then-not-is_operator c = (
  λ no. absurd cc,
  λ all.
      let yes : c.is_operator.result ≡ true = c.is_operator.ensures.1
      (item_is (IsOperator c.args.variables.now) c.args.operators.now c.loop-operator.operator-index
      c.operator-item.result all c.loop-operator-test.true c.operator-item.is) in
      let no = c.if-not-is_operator.true in absurd cc,
)

pub loop-operator-preserved : goal.loop-operator-preserved
loop-operator-preserved c k d less =
    elim (cases_lt k c.loop-operator.operator-index) [
      | inl earlier ↦ c.loop-operator.invariant k d earlier
      | inr here ↦
          let yes = c.if-not-is_operator.false in
          item_at (IsOperator c.args.variables.now) c.args.operators.now
          c.loop-operator.operator-index k c.operator-item.result d
          (c.is_operator.ensures.0 (let t : c.is_operator.result ≡ true = cc in t))
          c.loop-operator-test.true c.operator-item.is (omega arith)
    ]
