use Rattle.std.proofs.Common.{Bool, subst}
use Rattle.std.proofs.lemmas.Bool.{not-false, not-true}
use Rattle.std.specs.List.{Contains}
use Rattle.hv_lines.specs.Shapes.{Askings}
use Rattle.hv_basic.specs.Cases.{lines_in}
use Rattle.hv_basic.specs.Working.Sharing.{IsFamilyWith, IsPlaceFor}
use Rattle.hv_basic.proofs.Sharing.{one_put, one_there, plain_read, side_put}
use Rattle.hv_basic.proofs.rights.add_one.Goals as goal

pub put_in-requires-clause-set : goal.put_in-requires-clause-set
put_in-requires-clause-set c =
    (plain_read (lines_in c.args.case.now) c.args.leaf c.in-Some.literal c.in-Some.is
    (not-false c.in-Some.literal.is_plain c.if-not-literal.false) c.requires.read).0

pub put_in-requires-clause-place : goal.put_in-requires-clause-place
put_in-requires-clause-place c =
    (subst (λ (xs : Askings). IsPlaceFor xs c.args.leaf.place c.in-Some-place_for.place)
    c.deref.ensures.value c.in-Some-place_for.ensures).0

pub returns-clause-side : goal.returns-clause-side
returns-clause-side c = λ _.
    let lines = lines_in c.args.case.now in
    let read = plain_read lines c.args.leaf c.in-Some.literal c.in-Some.is
    (not-false c.in-Some.literal.is_plain c.if-not-literal.false) c.requires.read in
    side_put lines c.args.kept.now c.put_in.new.kept c.args.leaf.place c.in-Some-place_for.place
    c.in-Some-family_with.both read.2.0 c.requires.side read.1 read.2.1
    (subst (λ f. IsFamilyWith c.args.kept.now.family f c.in-Some-family_with.both) read.2.2
    c.in-Some-family_with.ensures)
    (subst (λ (xs : Askings). IsPlaceFor xs c.args.leaf.place c.in-Some-place_for.place)
    c.deref.ensures.value c.in-Some-place_for.ensures)
    c.in_ok-put_in.ensures.asked c.in_ok-put_in.ensures.after c.in_ok-put_in.ensures.ways
    c.in_ok-put_in.ensures.enough c.in_ok-put_in.ensures.named c.in_ok-put_in.ensures.negations
    c.in_ok-put_in.ensures.negated

pub returns-clause-added : goal.returns-clause-added
returns-clause-added c = λ _.
    one_put c.args.leaf.place c.in-Some-place_for.place c.args.kept.now c.put_in.new.kept
    c.in_ok-put_in.ensures.asked c.in_ok-put_in.ensures.after c.in_ok-put_in.ensures.negations

pub returns-in_default-place_for-clause-added : goal.returns-in_default-place_for-clause-added
returns-in_default-place_for-clause-added c = λ _.
    let there = subst (λ (xs : Askings). (after : Bool) × Contains xs (c.args.leaf.place, after))
    c.deref.ensures.value c.in_default-place_for.ensures in
    one_there (lines_in c.args.case.now) c.args.kept.now there.0 c.args.leaf.place
    c.requires.side.plain there.1

pub add_negation-requires-clause-negated : goal.add_negation-requires-clause-negated
add_negation-requires-clause-negated c =
    not-true c.in-Some.literal.is_plain c.if-not-literal.true
