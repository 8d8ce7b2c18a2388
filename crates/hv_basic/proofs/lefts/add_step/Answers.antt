use Rattle.std.proofs.Common.{subst, sym, true}
use Rattle.hv_lines.specs.Shapes.{asks_step_after}
use Rattle.hv_basic.specs.Leaves.{places}
use Rattle.hv_basic.specs.Working.Gathered.{AreGathered, AreOthers}
use Rattle.hv_basic.specs.declared.signed_sets.Others.TheVariants as O
use Rattle.hv_basic.proofs.Gathering.{read_there}
use Rattle.hv_basic.proofs.KeptLeaves.{taken}
use Rattle.hv_basic.proofs.Membership.{inner_fails}
use Rattle.hv_basic.proofs.lefts.add_step.Goals as goal

pub returns-in-None-clause-ok : goal.returns-in-None-clause-ok
returns-in-None-clause-ok c =
    let lines = c.args.table.now.lines in
    let own = c.in_ok-inner.inner in
    let inner = places own.leaves.items in
    let are = taken lines c.in-Some.set own c.in_ok-inner.ensures.leaves in
    let read = read_there lines _ _ c.deref.ensures.value c.in_ok-inner.ensures.leaves.1.read in
    let all : AreOthers lines inner O.None = subst (λ xs. AreOthers lines (places xs) O.None)
    c.deref.ensures.value (subst (AreOthers lines (places c.deref.result.now)) c.in-None.is
    (c.in_ok-others.ensures.others lines read)) in record {
      set = c.in-Some.set;
      is = (
        (c.expr.result.now, c.expr.ensures.says, sym c.in-Some.ensures),
        λ leaf of. all leaf ((are leaf).1 of),
      );
      inner = inner;
      leaves = are;
      gathered =
          subst (λ xs. AreGathered lines (places xs) true (asks_step_after c.args.word)
          c.args.into.now.items c.gather.new.into.items) c.deref.ensures.value
          (subst (λ b. AreGathered lines (places c.deref.result.now) true b c.args.into.now.items
          c.gather.new.into.items) c.asks_step_after.ensures
          (c.in_ok-others.ensures.gathered lines read));
    }

pub returns-in-One-clause-err : goal.returns-in-One-clause-err
returns-in-One-clause-err c =
    let lines = c.args.table.now.lines in
    let own = c.in_ok-inner.inner in
    let found : AreOthers lines (places own.leaves.items) (O.One c.in-One.field-0) =
    subst (λ xs. AreOthers lines (places xs) (O.One c.in-One.field-0)) c.deref.ensures.value
    (subst (AreOthers lines (places c.deref.result.now)) c.in-One.is
    (c.in_ok-others.ensures.others lines
    (read_there lines _ _ c.deref.ensures.value c.in_ok-inner.ensures.leaves.1.read))) in
    inner_fails lines c.args.word c.args.leaf c.in-Some.set c.in-Some.acts
    (places own.leaves.items) (c.expr.result.now, c.expr.ensures.says, sym c.in-Some.ensures)
    (taken lines c.in-Some.set own c.in_ok-inner.ensures.leaves) c.in-One.field-0 found.0 found.1

pub returns-in-More-clause-err : goal.returns-in-More-clause-err
returns-in-More-clause-err c =
    let lines = c.args.table.now.lines in
    let own = c.in_ok-inner.inner in
    let found : AreOthers lines (places own.leaves.items) O.More =
    subst (λ xs. AreOthers lines (places xs) O.More) c.deref.ensures.value
    (subst (AreOthers lines (places c.deref.result.now)) c.in-More.is
    (c.in_ok-others.ensures.others lines
    (read_there lines _ _ c.deref.ensures.value c.in_ok-inner.ensures.leaves.1.read))) in
    inner_fails lines c.args.word c.args.leaf c.in-Some.set c.in-Some.acts
    (places own.leaves.items) (c.expr.result.now, c.expr.ensures.says, sym c.in-Some.ensures)
    (taken lines c.in-Some.set own c.in_ok-inner.ensures.leaves) found.0 found.2 found.4
