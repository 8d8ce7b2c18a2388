use Rattle.std.proofs.Common.{◌≡◌, arith, inr, inl, subst, sym}
use Rattle.std.proofs.lemmas.Bool.{cases_lt}
use Rattle.hv_basic.specs.Working.Framed.{CanTurn}
use Rattle.hv_basic.proofs.Crossing.{same_at}
use Rattle.hv_basic.proofs.turned.put_clause.Goals as goal

pub loop-literal-preserved : goal.loop-literal-preserved
loop-literal-preserved c =
    let i = c.loop-literal.invariant in
    let e = c.in_ok-put_actions_for.ensures in
    record {
      kept = λ k h. e.kept k (i.kept k h);
      has = λ j d less task number action rows at turns below.
          elim (cases_lt j c.loop-literal.literal-index) [
            | inl earlier ↦ e.kept number (i.has j d earlier task number action rows at turns below)
            | inr upto ↦
                let same : j ≡ c.loop-literal.literal-index = omega (arith, less, upto) in
                e.has task number action rows at
                (subst (λ l. CanTurn c.args.value l action)
                (same_at c.args.clause.now j c.loop-literal.literal-index d _ same
                c.loop-literal-test.true)
                turns) below
          ];
      below = λ k h. elim (e.below k h) [ inl old ↦ i.below k old | inr less ↦ inr less ];
    }

pub returns-clause-has : goal.returns-clause-has
returns-clause-has c = λ task number action literal rows at h turns below.
    let less = h.1 in
    c.loop-literal.invariant.has h.0 literal (omega (arith, less, c.loop-literal-test.false)) task
    number action rows at (subst (λ l. CanTurn c.args.value l action) (sym h.2) turns) below
