use Rattle.std.proofs.Common.{false, subst}
use Rattle.hv_lines.specs.Shapes.{asks_sides_after}
use Rattle.hv_basic.specs.Working.Gathered.{AreGathered, AreOthers}
use Rattle.hv_basic.specs.Leaves.{places}
use Rattle.hv_basic.specs.declared.signed_sets.Others.TheVariants as O
use Rattle.hv_basic.proofs.Gathering.{read_there}
use Rattle.hv_basic.proofs.Siding.{askings_from, right_fails, sides_from}
use Rattle.hv_basic.proofs.sides.with_right.Goals as goal

pub returns-in-None-clause-sides : goal.returns-in-None-clause-sides
returns-in-None-clause-sides c =
    let lines = c.args.table.now.lines in
    let all : AreOthers lines (places c.in_ok-rights.rights.items) O.None =
    subst (λ xs. AreOthers lines (places xs) O.None) c.deref.ensures.value
    (subst (AreOthers lines (places c.deref.result.now)) c.in-None.is (c.in_ok-gather.ensures.others c.args.table.now.lines
    (read_there c.args.table.now.lines _ _ c.deref.ensures.value c.in_ok-rights.ensures.read))) in
    sides_from lines c.args.claim.word c.args.claim.left c.args.claim.right
    (places c.in_ok-rights.rights.items) c.in_ok-rights.ensures.leaves c.args.sides.acts c.requires.left.side all

pub returns-in-None-clause-askings : goal.returns-in-None-clause-askings
returns-in-None-clause-askings c =
    askings_from c.args.table.now.lines c.args.claim.word c.args.claim.left c.args.claim.right
    (places c.in_ok-rights.rights.items) c.in_ok-rights.ensures.leaves c.args.sides.askings.items
    c.gather.new.into.items c.requires.left.askings
    (subst (λ xs. AreGathered c.args.table.now.lines (places xs) false (asks_sides_after c.args.claim.word)
    c.args.sides.askings.items c.gather.new.into.items) c.deref.ensures.value
    (subst (λ b. AreGathered c.args.table.now.lines (places c.deref.result.now) false b
    c.args.sides.askings.items c.gather.new.into.items) c.asks_sides_after.ensures
    (c.in_ok-gather.ensures.gathered c.args.table.now.lines
    (read_there c.args.table.now.lines _ _ c.deref.ensures.value c.in_ok-rights.ensures.read))))

pub returns-in-One-clause-err : goal.returns-in-One-clause-err
returns-in-One-clause-err c =
    let lines = c.args.table.now.lines in
    let found : AreOthers lines (places c.in_ok-rights.rights.items) (O.One c.in-One.field-0) =
    subst (λ xs. AreOthers lines (places xs) (O.One c.in-One.field-0)) c.deref.ensures.value
    (subst (AreOthers lines (places c.deref.result.now)) c.in-One.is (c.in_ok-gather.ensures.others c.args.table.now.lines
    (read_there c.args.table.now.lines _ _ c.deref.ensures.value c.in_ok-rights.ensures.read))) in
    right_fails lines c.args.claim.word c.args.claim.left c.args.claim.right
    (places c.in_ok-rights.rights.items) c.in_ok-rights.ensures.leaves c.in-One.field-0 found.0 found.1

pub returns-in-More-clause-err : goal.returns-in-More-clause-err
returns-in-More-clause-err c =
    let lines = c.args.table.now.lines in
    let found : AreOthers lines (places c.in_ok-rights.rights.items) O.More =
    subst (λ xs. AreOthers lines (places xs) O.More) c.deref.ensures.value
    (subst (AreOthers lines (places c.deref.result.now)) c.in-More.is (c.in_ok-gather.ensures.others c.args.table.now.lines
    (read_there c.args.table.now.lines _ _ c.deref.ensures.value c.in_ok-rights.ensures.read))) in
    right_fails lines c.args.claim.word c.args.claim.left c.args.claim.right
    (places c.in_ok-rights.rights.items) c.in_ok-rights.ensures.leaves found.0 found.2 found.4
