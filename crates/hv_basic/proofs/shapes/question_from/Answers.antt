use Rattle.std.proofs.Common.{true, false, rules, subst, sym}
use Rattle.hv_basic.specs.Working.Asked.{AreChosen}
use Rattle.hv_basic.specs.Working.Gathered.{HaveTheirFamilies, IsFamilyIn}
use Rattle.hv_basic.proofs.Siding.{all_of_their, family_fails, few_fails, question_from}
use Rattle.hv_basic.proofs.shapes.question_from.Goals as goal

pub returns-in_default-clause-err : goal.returns-in_default-clause-err
returns-in_default-clause-err c =
    family_fails c.args.table.now.lines c.args.claim.word c.args.claim.left c.args.claim.right
    c.args.sides.askings.items c.requires.askings
    (λ family is. c.in_default.ensures c.args.table.now.lines
    (subst (HaveTheirFamilies c.args.table.now.lines) (sym c.deref.ensures.value)
    (all_of_their c.args.table.now.lines c.args.claim.word c.args.claim.left c.args.claim.right
    c.args.sides.askings.items c.requires.askings)) family
    (subst (λ xs. IsFamilyIn c.args.table.now.lines xs family) (sym c.deref.ensures.value) is))

pub returns-then-len-gt-MOST_OPERANDS-clause-err : goal.returns-then-len-gt-MOST_OPERANDS-clause-err
returns-then-len-gt-MOST_OPERANDS-clause-err c =
    few_fails c.args.table.now.lines c.args.claim.word c.args.claim.left c.args.claim.right
    c.args.sides.askings.items
    c.requires.askings
    c.in_ok-positive.positive.items c.in_ok-negative.negative.items c.in_ok-positive.ensures.rises
    c.in_ok-negative.ensures.rises
    (subst (λ xs. AreChosen xs true c.in_ok-positive.positive.items) c.deref-2.ensures.value
    c.in_ok-positive.ensures.chosen)
    (subst (λ xs. AreChosen xs false c.in_ok-negative.negative.items) c.deref-3.ensures.value
    c.in_ok-negative.ensures.chosen)
    (search rules)

pub returns-clause-ok : goal.returns-clause-ok
returns-clause-ok c =
    question_from c.args.table.now.lines c.args.claim.word c.args.claim.left c.args.claim.right
    c.args.sides.askings.items c.requires.askings
    c.args.sides.acts c.in-Some.family c.in_ok-positive.positive.items
    c.in_ok-negative.negative.items c.requires.sides
    (subst (λ xs. IsFamilyIn c.args.table.now.lines xs c.in-Some.family) c.deref.ensures.value
    (c.in-Some.ensures c.args.table.now.lines
    (subst (HaveTheirFamilies c.args.table.now.lines) (sym c.deref.ensures.value)
    (all_of_their c.args.table.now.lines c.args.claim.word c.args.claim.left c.args.claim.right
    c.args.sides.askings.items c.requires.askings))))
    c.in_ok-positive.ensures.rises c.in_ok-negative.ensures.rises
    (subst (λ xs. AreChosen xs true c.in_ok-positive.positive.items) c.deref-2.ensures.value
    c.in_ok-positive.ensures.chosen)
    (subst (λ xs. AreChosen xs false c.in_ok-negative.negative.items) c.deref-3.ensures.value
    c.in_ok-negative.ensures.chosen)
    (search rules)

pub returns-clause-over : goal.returns-clause-over
returns-clause-over c = record {
  word = c.args.claim.word;
  left = c.args.claim.left;
  right = c.args.claim.right;
  is =
      question_from c.args.table.now.lines c.args.claim.word c.args.claim.left c.args.claim.right
      c.args.sides.askings.items c.requires.askings
      c.args.sides.acts c.in-Some.family c.in_ok-positive.positive.items
      c.in_ok-negative.negative.items c.requires.sides
      (subst (λ xs. IsFamilyIn c.args.table.now.lines xs c.in-Some.family) c.deref.ensures.value
      (c.in-Some.ensures c.args.table.now.lines
      (subst (HaveTheirFamilies c.args.table.now.lines) (sym c.deref.ensures.value)
      (all_of_their c.args.table.now.lines c.args.claim.word c.args.claim.left c.args.claim.right
      c.args.sides.askings.items c.requires.askings))))
      c.in_ok-positive.ensures.rises c.in_ok-negative.ensures.rises
      (subst (λ xs. AreChosen xs true c.in_ok-positive.positive.items) c.deref-2.ensures.value
      c.in_ok-positive.ensures.chosen)
      (subst (λ xs. AreChosen xs false c.in_ok-negative.negative.items) c.deref-3.ensures.value
      c.in_ok-negative.ensures.chosen)
      (search rules);
}
