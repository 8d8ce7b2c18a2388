use Rattle.std.proofs.Common.{refl}
use Rattle.hv_basic.specs.Cases.{lines_in}
use Rattle.hv_basic.proofs.Sharing.{made_of, made_twice}
use Rattle.hv_basic.proofs.rights.extend.Goals as goal

pub returns-then-is_kept-clause-kept : goal.returns-then-is_kept-clause-kept
returns-then-is_kept-clause-kept c =
    made_twice (lines_in c.args.case.now) c.args.kept.now c.args.root c.in-Some.part
    c.requires.root c.requires.kept (c.if-is_kept.ensures.root refl) c.in-Some.ensures

pub grow-requires-clause-made : goal.grow-requires-clause-made
grow-requires-clause-made c =
    made_of (lines_in c.args.case.now) c.args.kept.now c.args.root c.in-Some.part c.requires.kept
    c.in-Some.ensures
