use Rattle.std.proofs.Common.{◌≤◌, ◌∙◌, ℕ, List, length, get_or, ap, subst, sym}
use Rattle.hv_propagation.proofs.FoundRuns.{part_behind, run_queued}
use Rattle.hv_propagation.proofs.found_run.past_run.Goals as goal

pub returns-clause-queued : goal.returns-clause-queued
returns-clause-queued c =
    let count = c.common_front.result in
    let one = part_behind c.args.from c.args.entries.now in
    let other = part_behind c.min-place.result c.args.queue.now in
    run_queued c.args.entries.now c.args.queue.now c.args.from c.min-place.result count
    (subst (λ (xs : List ℕ). count ≤ length xs) one c.common_front.ensures.within)
    (subst (λ (xs : List ℕ). count ≤ length xs) other c.common_front.ensures.other)
    (λ k less. sym (ap (λ (xs : List ℕ). get_or xs k 0) one)
    ∙ (c.common_front.ensures.same k less ∙ ap (λ (xs : List ℕ). get_or xs k 0) other))
