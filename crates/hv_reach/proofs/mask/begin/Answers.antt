use Rattle.std.proofs.Common.{◌≡◌, ◌∙◌, ◌<◌, true, subst, sym, get_or, length, arith, [], List}
use Rattle.std.proofs.Common.{Bool}
use Rattle.std.proofs.lemmas.List.{get_or_default}
use Rattle.hv_task.specs.State.{has_atom}
use Rattle.hv_reach.proofs.mask.begin.Goals as goal

pub returns-clause-sound : goal.returns-clause-sound
returns-clause-sound c = λ q h.
    let p = get_or c.args.list.now 0 0 in
    let some = c.if-list-eq0.false in
    let below = c.requires.below 0 0 (omega arith) in
    let size = c.requires.table.size in
    let less : p < length c.args.rows.now.items = omega arith in
    let row : get_or c.args.rows.now.items p []
    ≡ c.index.result.now = get_or_default c.args.rows.now.items p [] c.index.result.now less
    ∙ sym c.index.ensures in
    c.requires.table.whole p q (subst (λ (s : List Bool). has_atom s q ≡ true)
    (c.copy_from.ensures ∙ sym row) h)
