use Rattle.std.proofs.Common.{◌≡◌, ◌∙◌, arith, sym, ap, [], false}
use Rattle.std.proofs.lemmas.List.{get_or_default}
use Rattle.hv_task.specs.State.{has_atom}
use Rattle.hv_reach.proofs.Cells.{mark_step}
use Rattle.hv_reach.specs.Reached.{has_pair}
use Rattle.hv_reach.proofs.pair_table.mark.Goals as goal

pub returns-clause-step : goal.returns-clause-step
returns-clause-step c =
    let size = c.requires.table.size in
    let row = get_or_default c.args.rows.now.items c.args.first [] c.index.result.now (omega arith)
    ∙ sym c.index.ensures in
    let unset : has_pair c.args.rows.now.items c.args.first c.args.second ≡ false = ap
    (λ s. has_atom s c.args.second) row ∙ (sym c.has.ensures ∙ c.if-has.false) in
    rw c.set_pair.ensures
    (mark_step c.args.atoms c.args.rows.now.items c.args.flags.now c.raise.new.flags c.args.first
    c.args.second c.requires.table c.requires.first c.requires.second unset
    c.requires.diagonal c.raise.ensures.size c.raise.ensures.stay
    (c.raise.ensures.raised c.args.atoms c.requires.flags))
