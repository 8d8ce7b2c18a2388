use Rattle.std.proofs.Common.{◌∙◌, sym, ap, subst}
use Rattle.hv_sets.specs.Truth.{in_clauses}
use Rattle.hv_trap.specs.Working.Quick.{ArePairs}
use Rattle.hv_trap.proofs.sweep.escapes.Goals as goal

pub returns-clause-escapes : goal.returns-clause-escapes
returns-clause-escapes c = λ yes clauses are.
    let at_first = subst (λ n. ArePairs n clauses c.args.room.now.quick.pairs.items)
    (sym c.requires.room.before) are in
    let then = subst (λ n. ArePairs n clauses c.args.room.now.quick.pairs.items)
    (sym c.after.ensures.state) are in
    let later = subst (ArePairs _ clauses) (sym c.are_true_in.ensures.pairs) then in
    record {
      is_state = c.requires.room.before;
      before = sym (c.are_true_in.ensures.told clauses at_first) ∙ c.if-are_true_in.false;
      applies = λ a named. sym (c.applicable.ensures a named) ∙ c.if-not-applicable.false;
      after = λ a named. ap (in_clauses clauses) (sym (c.after.ensures.successor a named))
          ∙ sym (c.are_true_in-2.ensures.told clauses later) ∙ yes;
    }
