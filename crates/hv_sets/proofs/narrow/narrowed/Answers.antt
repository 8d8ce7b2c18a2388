use Rattle.std.proofs.Common.{subst, sym}
use Rattle.std.specs.List.{All}
use Rattle.hv_sets.specs.Working.KeptStates.{HasFewAtoms}
use Rattle.hv_sets.specs.Working.Pieces.{pieces}
use Rattle.hv_sets.proofs.Short.{all_short}
use Rattle.hv_sets.proofs.narrow.narrowed.Goals as goal

pub returns-clause-short : goal.returns-clause-short
returns-clause-short c =
    let items = c.in-Some.items.items in
    let short = c.are_short.ensures cc in
    let all = all_short items 0 c.args.parts.ends.now short in
    subst (λ v. All HasFewAtoms v.whole) (sym c.from_parts.ensures)
    (subst (λ es. All HasFewAtoms (pieces items 0 es)) (sym c.in_ok-ends.ensures) all)
