use Rattle.std.proofs.Common.{◌∙◌, ◌++◌, ◌∷◌, [], ap, subst, sym}
use Rattle.std.specs.List.{All}
use Rattle.hv_basic.specs.Sharing.{IsRightSide}
use Rattle.hv_basic.proofs.Sharing.{sides_behind}
use Rattle.hv_basic.proofs.recent.put_last.Goals as goal

pub returns-clause-kept : goal.returns-clause-kept
returns-clause-kept c = λ lines are.
    subst (All (IsRightSide lines))
    (sym (c.in_ok-push.ensures.items
    ∙ ap (λ xs. xs ++ c.remove-side.result ∷ []) c.remove-side.ensures.items))
    (sides_behind lines c.args.sides.now.items c.args.place c.remove-side.result c.requires
    c.remove-side.ensures.value are)
