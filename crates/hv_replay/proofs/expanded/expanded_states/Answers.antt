use Rattle.std.proofs.Common.{◌<◌, ◌≤◌, ◌∙◌, ◌++◌, ◌∷◌, [], ap, arith, length, sym}
use Rattle.std.proofs.lemmas.List.{take_all}
use Rattle.hv_replay.specs.Expanded.{expanded_in}
use Rattle.hv_replay.proofs.Kept.{entry_there, expanded_push}
use Rattle.hv_replay.proofs.Replaying.{entries_next}
use Rattle.std.proofs.Common.{take}
use Rattle.hv_replay.proofs.expanded.expanded_states.Goals as goal

pub loop-place-preserved : goal.loop-place-preserved
loop-place-preserved c =
    let log = c.args.log.now in
    let place = c.loop-place.place in
    let within : place < length log.entries = omega
    (arith, c.len-count.ensures, c.loop-place-test.true) in
    let w = entry_there log place within in
    c.in_ok-put_expanded.ensures w.0 w.1
    ∙ (ap (λ ss. ss ++ expanded_in (w.0 ∷ [])) c.loop-place.invariant
    ∙ (sym (expanded_push (take place log.entries) w.0)
    ∙ ap expanded_in (sym (entries_next log place w.0 w.1))))

pub returns-clause-states : goal.returns-clause-states
returns-clause-states c =
    let log = c.args.log.now in
    let whole : length log.entries ≤ c.loop-place.place = omega
    (arith, c.len-count.ensures, c.loop-place-test.false) in
    c.loop-place.invariant ∙ ap expanded_in (take_all c.loop-place.place log.entries whole)
