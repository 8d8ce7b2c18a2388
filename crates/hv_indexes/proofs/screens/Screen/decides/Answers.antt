use Rattle.std.proofs.Common.{◌∙◌, refl, sym}
use Rattle.hv_indexes.proofs.Screened.{exact_false}
use Rattle.hv_indexes.proofs.screens.Screen.decides.Goals as goal

pub returns-then-is_false_in : goal.returns-then-is_false_in
returns-then-is_false_in c =
    let found = c.if-agrees.ensures.one refl in
    exact_false c.args.self.now c.args.state.now found.0
    (sym c.atoms.ensures ∙ (c.if-atoms.false ∙ c.atoms-2.ensures)) found.1 found.2 found.3
    (c.if-is_false_in.ensures refl) c.if-self.true
