use Rattle.std.proofs.Common.{◌∙◌, [], refl, sym}
use Rattle.hv_lines.proofs.Elements.{head_in}
use Rattle.hv_basic.proofs.framed.frame_with.Goals as goal

pub returns : goal.returns
returns c =
    let found = c.in-Some.ensures.lookup in (
      (c.args.operand, head_in c.args.operand [], c.in-Set.is, refl),
      (
        c.in-Some.other.now,
        (c.args.place, found.3.0, sym found.1),
        c.are_apart.ensures.which c.if-not-are_apart.false ∙ c.in-Set.is,
        c.are_apart.ensures.after c.if-not-are_apart.false,
      ),
    )
