use Rattle.std.proofs.Common.{◌∙◌, ◌∷◌, ◌++◌, [], ap, refl}
use Rattle.hv_sets.proofs.Named.{names_kept, names_more}
use Rattle.hv_sets.proofs.operands.Operands.push.Goals as goal

pub invariant_of-self : goal.invariant_of-self
invariant_of-self c =
    names_kept c.self.inside.named.keys c.self.inside.named.keys c.self.inside.items.items
    c.reserve.new.self.items c.self.invariant refl
    c.reserve.ensures.items

pub invariant_of-self-in_err-insert : goal.invariant_of-self-in_err-insert
invariant_of-self-in_err-insert c =
    names_kept c.self.inside.named.keys c.insert.new.self.keys c.self.inside.items.items
    c.reserve.new.self.items c.self.invariant
    c.in_err-insert.ensures.err c.reserve.ensures.items

pub invariant_of-self-2 : goal.invariant_of-self-2
invariant_of-self-2 c =
    let more = names_more c.self.inside.named.keys c.self.inside.items.items c.args.item
    c.self.invariant in
    names_kept _ c.insert.new.self.keys _ c.push_reserved.new.self.items more
    c.in_ok-insert.ensures.keys
    (c.push_reserved.ensures.items ∙ ap (λ items. items ++ c.args.item ∷ [])
    c.reserve.ensures.items)
