use Rattle.std.proofs.Common.{[], true, subst}
use Rattle.hv_lines.proofs.Shaped.{leaf_below}
use Rattle.hv_lines.specs.Shapes.{and_parts, asks_sides_after}
use Rattle.hv_basic.specs.Leaves.{places}
use Rattle.hv_basic.specs.Working.Gathered.{AreGathered, AreOthers}
use Rattle.hv_basic.specs.declared.signed_sets.Others.TheVariants as O
use Rattle.hv_basic.proofs.Gathering.{read_there}
use Rattle.hv_basic.proofs.KeptLeaves.{taken}
use Rattle.hv_basic.proofs.LeftSides.{alone_fails, askings_alone, askings_step, left_alone}
use Rattle.hv_basic.proofs.LeftSides.{left_step, more_fails, step_fails}
use Rattle.hv_basic.proofs.Siding.{fault_of}
use Rattle.hv_basic.proofs.lefts.left_of.Goals as goal

pub add_step-requires-clause-leaf : goal.add_step-requires-clause-leaf
add_step-requires-clause-leaf c =
    let lines = c.args.table.now.lines in
    let own = c.in_ok-lefts.lefts in
    let one : AreOthers lines (places own.leaves.items) (O.One c.in-One.leaf) =
    subst (λ xs. AreOthers lines (places xs) (O.One c.in-One.leaf)) c.deref.ensures.value
    (subst (AreOthers lines (places c.deref.result.now)) c.in-One.is
    (c.in_ok-others.ensures.others lines
    (read_there lines _ _ c.deref.ensures.value c.in_ok-lefts.ensures.leaves.1.read))) in
    leaf_below lines and_parts c.args.left c.in-One.leaf c.in_ok-lefts.ensures.leaves.1.table
    ((taken lines c.args.left own c.in_ok-lefts.ensures.leaves c.in-One.leaf).0 one.0)

pub returns-in-B1-clause-ok : goal.returns-in-B1-clause-ok
returns-in-B1-clause-ok c =
    let lines = c.args.table.now.lines in
    let own = c.in_ok-lefts.lefts in
    let lefts = places own.leaves.items in
    let are = taken lines c.args.left own c.in_ok-lefts.ensures.leaves in
    let read = read_there lines _ _ c.deref.ensures.value c.in_ok-lefts.ensures.leaves.1.read in
    let all : AreOthers lines lefts O.None =
    subst (λ xs. AreOthers lines (places xs) O.None) c.deref.ensures.value
    (subst (AreOthers lines (places c.deref.result.now)) c.in-None.is
    (c.in_ok-others.ensures.others lines read)) in
    let gathered : AreGathered lines lefts true (asks_sides_after c.args.word) []
    c.gather.new.into.items =
    subst (λ old. AreGathered lines lefts true (asks_sides_after c.args.word) old
    c.gather.new.into.items) c.new-askings.ensures.items
    (subst (λ xs. AreGathered lines (places xs) true (asks_sides_after c.args.word)
    c.new-askings.result.items c.gather.new.into.items) c.deref.ensures.value
    (subst (λ b. AreGathered lines (places c.deref.result.now) true b
    c.new-askings.result.items c.gather.new.into.items) c.asks_sides_after.ensures
    (c.in_ok-others.ensures.gathered lines read))) in
    record {
      side = left_alone lines c.args.word c.args.left lefts are all c.in-B1.is;
      askings =
          askings_alone lines c.args.word c.args.left lefts are c.gather.new.into.items gathered
          c.in-B1.is;
    }

pub returns-in_default : goal.returns-in_default
returns-in_default c =
    let lines = c.args.table.now.lines in
    let own = c.in_ok-lefts.lefts in
    record {
      ok = tt;
      err =
          alone_fails lines c.args.word c.args.left (places own.leaves.items)
          (taken lines c.args.left own c.in_ok-lefts.ensures.leaves)
          (subst (λ xs. AreOthers lines (places xs) O.None) c.deref.ensures.value
          (subst (AreOthers lines (places c.deref.result.now)) c.in-None.is
          (c.in_ok-others.ensures.others lines
          (read_there lines _ _ c.deref.ensures.value c.in_ok-lefts.ensures.leaves.1.read))))
          c.in_default.not-B1;
      kept =
          c.put_leaves.ensures lines c.in_ok-lefts.ensures.kept c.in_ok-lefts.ensures.leaves.1;
    }

pub returns-in-Ok-clause-ok : goal.returns-in-Ok-clause-ok
returns-in-Ok-clause-ok c =
    let lines = c.args.table.now.lines in
    let own = c.in_ok-lefts.lefts in
    let lefts = places own.leaves.items in
    let are = taken lines c.args.left own c.in_ok-lefts.ensures.leaves in
    let read = read_there lines _ _ c.deref.ensures.value c.in_ok-lefts.ensures.leaves.1.read in
    let one : AreOthers lines lefts (O.One c.in-One.leaf) =
    subst (λ xs. AreOthers lines (places xs) (O.One c.in-One.leaf)) c.deref.ensures.value
    (subst (AreOthers lines (places c.deref.result.now)) c.in-One.is
    (c.in_ok-others.ensures.others lines read)) in
    let gathered : AreGathered lines lefts true (asks_sides_after c.args.word) []
    c.gather.new.into.items =
    subst (λ old. AreGathered lines lefts true (asks_sides_after c.args.word) old
    c.gather.new.into.items) c.new-askings.ensures.items
    (subst (λ xs. AreGathered lines (places xs) true (asks_sides_after c.args.word)
    c.new-askings.result.items c.gather.new.into.items) c.deref.ensures.value
    (subst (λ b. AreGathered lines (places c.deref.result.now) true b
    c.new-askings.result.items c.gather.new.into.items) c.asks_sides_after.ensures
    (c.in_ok-others.ensures.gathered lines read))) in
    record {
      side =
          left_step lines c.args.word c.args.left lefts are c.in-One.leaf one c.in-Ok.acts
          c.gather.new.into.items c.add_step.new.into.items c.in-Ok.ensures.ok;
      askings =
          askings_step lines c.args.word c.args.left lefts are c.gather.new.into.items gathered
          c.in-One.leaf c.in-Ok.acts c.add_step.new.into.items one c.in-Ok.ensures.ok;
    }

pub returns-in-Err-clause-err : goal.returns-in-Err-clause-err
returns-in-Err-clause-err c =
    let lines = c.args.table.now.lines in
    let own = c.in_ok-lefts.lefts in
    fault_of _ _ (λ out. step_fails lines c.args.word c.args.left (places own.leaves.items)
    (taken lines c.args.left own c.in_ok-lefts.ensures.leaves) c.in-One.leaf
    (subst (λ xs. AreOthers lines (places xs) (O.One c.in-One.leaf)) c.deref.ensures.value
    (subst (AreOthers lines (places c.deref.result.now)) c.in-One.is
    (c.in_ok-others.ensures.others lines
    (read_there lines _ _ c.deref.ensures.value c.in_ok-lefts.ensures.leaves.1.read))))
    out) c.in-Err.fault c.in-Err.ensures.err

pub returns-in-More-clause-err : goal.returns-in-More-clause-err
returns-in-More-clause-err c =
    let lines = c.args.table.now.lines in
    let own = c.in_ok-lefts.lefts in
    more_fails lines c.args.word c.args.left (places own.leaves.items)
    (taken lines c.args.left own c.in_ok-lefts.ensures.leaves)
    (subst (λ xs. AreOthers lines (places xs) O.More) c.deref.ensures.value
    (subst (AreOthers lines (places c.deref.result.now)) c.in-More.is
    (c.in_ok-others.ensures.others lines
    (read_there lines _ _ c.deref.ensures.value c.in_ok-lefts.ensures.leaves.1.read))))
