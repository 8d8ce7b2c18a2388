use Rattle.std.proofs.Common.{◌≡◌, ◌+◌, false, true, take, arith, refl, subst, sym}
use Rattle.hv_basic.specs.Working.Asked.{AreKeys}
use Rattle.hv_basic.proofs.Ordering.{keys_kept, keys_more}
use Rattle.hv_basic.proofs.rising.keys_of.Goals as goal
use Rattle.hv_basic.proofs.rising.keys_of.Goals.{then-has_sign+in_ok-insert, else-has_sign}

pub loop-asking-preserved : goal.loop-asking-preserved
loop-asking-preserved c =
    elim c.if-has_sign.branch [
      | then-has_sign+in_ok-insert w ↦
          subst (λ k. AreKeys (take (c.loop-asking.asking-index + 1) c.args.askings.now)
          c.args.positive k) (sym w.keys-is)
          (keys_more c.args.askings.now c.args.positive c.loop-asking.asking-index (omega arith)
          c.loop-asking.keys w.insert.new.self _
          c.loop-asking.invariant (w.if-has_sign.ensures.0 refl) _ refl refl
          w.in_ok-insert.ensures.updates)
      | else-has_sign w ↦
          subst (λ k. AreKeys (take (c.loop-asking.asking-index + 1) c.args.askings.now)
          c.args.positive k) (sym w.keys-is)
          (keys_kept c.args.askings.now c.args.positive c.loop-asking.asking-index (omega arith)
          c.loop-asking.keys c.loop-asking.keys _
          c.loop-asking.invariant (λ same. let both : false ≡ true = w.if-has_sign.ensures.1 same in
          cc (both)))
    ]
