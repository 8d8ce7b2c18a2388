use Rattle.std.proofs.Common.{◌↔◌, ◌∙◌, subst}
use Rattle.std.specs.Prelude.{IsTrue}
use Rattle.std.specs.List.{All, Contains}
use Rattle.hv_task.proofs.atom_list.AtomList.has_all.Goals as goal

pub returns : goal.returns
returns c =
    subst (λ xs. IsTrue c.names_all.result ↔ All (λ p. Contains xs p) c.args.atoms.now)
    (c.as_slice.ensures ∙ c.self.view_is) c.names_all.ensures
