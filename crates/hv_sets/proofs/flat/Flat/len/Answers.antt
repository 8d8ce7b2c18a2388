use Rattle.std.proofs.Common.{◌∙◌, sym, ap, length}
use Rattle.hv_sets.proofs.Pieces.{length-pieces}
use Rattle.hv_sets.proofs.flat.Flat.len.Goals as goal

pub returns : goal.returns
returns g c =
    let size = length-pieces c.self.inside.items.items 0 c.self.inside.ends.items in
    c.len.ensures ∙ (c.self.inside.ends.ok.0 ∙ (sym size ∙ ap (λ v. length v.whole) c.self.view_is))
