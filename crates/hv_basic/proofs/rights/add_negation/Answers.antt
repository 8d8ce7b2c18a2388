use Rattle.std.proofs.Common.{◌<◌, subst}
use Rattle.std.specs.Option.{IfSome}
use Rattle.hv_lines.specs.Numbering.{expr_count}
use Rattle.hv_basic.specs.Cases.{lines_in}
use Rattle.hv_basic.specs.declared.signed_sets.SignedSet.{SignedSet}
use Rattle.hv_basic.proofs.Negations.{negation_put, negation_side}
use Rattle.hv_basic.proofs.rights.add_negation.Goals as goal

pub put_opposites-requires : goal.put_opposites-requires
put_opposites-requires c =
    subst (λ l. IfSome l (λ (x : SignedSet). x.set < expr_count (lines_in c.args.case.now)))
    c.requires.is c.requires.read.below

pub returns-clause-side : goal.returns-clause-side
returns-clause-side c = λ _.
    negation_side (lines_in c.args.case.now) c.args.kept.now c.put_opposites.new.enough
    c.push.new.self c.args.leaf c.args.literal c.in-Some.both c.requires.side c.requires.is
    c.requires.negated c.requires.read c.in-Some.ensures c.in_ok-put_opposites.ensures
    c.in_ok-push.ensures.items

pub returns-clause-added : goal.returns-clause-added
returns-clause-added c = λ _.
    negation_put c.args.leaf c.args.kept.now c.put_opposites.new.enough c.push.new.self
    c.in-Some.both c.in_ok-push.ensures.items
