use Rattle.std.proofs.Common.{refl, rules, subst}
use Rattle.hv_lines.proofs.Elements.{in_mapped}
use Rattle.hv_lines.specs.Literals.{IsNegatedSet}
use Rattle.hv_basic.specs.Leaves.{places}
use Rattle.hv_basic.specs.declared.signed_sets.Leaf.{Leaf}
use Rattle.hv_basic.proofs.LeftSides.{beside_families, question_by}
use Rattle.hv_basic.proofs.shared_verdicts.ask_together.Goals as goal

pub returns-clause-asked : goal.returns-clause-asked
returns-clause-asked c = λ _.
    let lines = c.args.table.now.lines in
    let kept = c.args.kept.now in
    let negated = places kept.negations.items in
    let families = beside_families lines c.args.claim.word c.args.claim.left
    c.args.sides.now.askings.items c.args.askings.now negated kept.after
    c.requires.left.askings c.requires.beside in
    record {
      table = c.requires.right.side.plain.table;
      is =
          question_by lines c.args.claim.word c.args.claim.left c.args.claim.right
          c.args.sides.now.askings.items c.args.askings.now kept.after kept.family
          kept.question.negative.items negated c.requires.right.side.plain
          (λ leaf has.
          let w = in_mapped (λ (l : Leaf). l.place) kept.negations.items leaf has in
          subst (IsNegatedSet lines) w.2 (c.requires.right.side.negations w.0 w.1).0)
          c.requires.right.leaves c.requires.after c.requires.left.askings c.requires.beside
          (c.if-not-are_positive.ensures refl)
          c.args.sides.now.acts c.in-Some.family c.in_ok-positive.positive.items
          c.requires.left.side (c.in-Some.ensures lines families)
          c.in_ok-positive.ensures.rises c.in_ok-positive.ensures.chosen (search rules);
      named = c.requires.right.side.named;
      ways = c.requires.right.side.ways;
    }
