use Rattle.std.proofs.Common.{◌∙◌, ap, sym, subst, inl, inr, arith}
use Rattle.std.proofs.lemmas.Bool.{both_ways}
use Rattle.std.proofs.lemmas.List.{take_all, take_more}
use Rattle.std.proofs.lemmas.List.Elements.{Contains-get_or, Contains-push_cases}
use Rattle.std.specs.List.{Contains}
use Rattle.hv_task.specs.State.{has_atom}
use Rattle.hv_explicit.proofs.named_sets.put_flags.Goals as goal

pub loop-operand-init : goal.loop-operand-init
loop-operand-init c = record {
  only = λ p e. absurd (both_ways (has_atom c.args.flags.now p) (c.requires p) e);
  put = λ o p among. absurd (let less = among.1 in omega arith);
}

pub loop-operand-preserved : goal.loop-operand-preserved
loop-operand-preserved c =
    let xs = c.args.operands.now in
    let i = c.loop-operand.operand-index in
    record {
      only = λ p e. elim (c.put_flag.ensures.only p e) [
        | inl old ↦ c.loop-operand.invariant.only p old
        | inr new ↦ (_, Contains-get_or xs i _ c.loop-operand-test.true, new.1, new.0)
      ];
      put = λ o p among side which within.
          let size = c.put_flag.ensures.atoms in
          elim (Contains-push_cases _ _ _ (subst (λ ys. Contains ys o)
          (take_more xs i _ c.loop-operand-test.true) among)) [
            | inl before ↦
                c.put_flag.ensures.kept p
                (c.loop-operand.invariant.put o p before side which (omega arith))
            | inr at ↦
                c.put_flag.ensures.put p (ap (λ q. q.after) at ∙ side)
                (ap (λ q. q.which) at ∙ which) (omega arith)
          ];
    }

pub returns : goal.returns
returns c = λ p within. (
  c.loop-operand.invariant.only p,
  λ asks. c.loop-operand.invariant.put asks.0 p
      (subst (λ ys. Contains ys asks.0)
      (sym (take_all c.loop-operand.operand-index c.args.operands.now c.loop-operand-test.false))
      asks.1) asks.3 asks.2 within,
)
