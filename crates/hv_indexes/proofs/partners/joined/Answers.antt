use Rattle.std.proofs.Common.{◌∙◌, ◌++◌, ◌-◌, ℕ, ap, replicate, take}
use Rattle.std.proofs.Common.{ap₂}
use Rattle.hv_indexes.specs.Occurrences.{no_literal}
use Rattle.hv_indexes.proofs.Standings.{joined_is}
use Rattle.hv_indexes.proofs.partners.joined.Goals as goal

pub returns : goal.returns
returns c =
    let first = c.args.first.items in
    let upto = c.args.upto in
    joined_is first c.args.second.items c.extend_from_slice.new.self.items upto c.requires
    (c.in_ok-extend_from_slice.ensures.items
    ∙ ap₂ (λ xs ys. xs ++ ys) (c.in_ok-resize.ensures.items
    ∙ ap (λ (n : ℕ). take upto first ++ replicate (upto - n) no_literal) c.args.first.ok.0)
    c.deref.ensures.value)
