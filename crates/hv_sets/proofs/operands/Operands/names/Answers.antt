use Rattle.std.proofs.Common.{◌↔◌, IsTrue, subst}
use Rattle.hv_sets.specs.Names.{AsksAbout}
use Rattle.hv_sets.proofs.Named.{names_is}
use Rattle.hv_sets.proofs.operands.Operands.names.Goals as goal

pub returns : goal.returns
returns c =
    subst (λ operands. IsTrue c.contains.result ↔ AsksAbout operands c.args.which c.args.after)
    c.self.view_is
    (names_is c.self.inside.named.keys c.self.inside.items.items c.args.which c.args.after
    c.contains.result c.self.invariant c.contains.ensures)
