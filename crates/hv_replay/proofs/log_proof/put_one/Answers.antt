use Rattle.std.proofs.Common.{◌≡◌, ◌∙◌, rules, false, sym}
use Rattle.hv_task.specs.State.{state_of}
use Rattle.hv_task.specs.Strips.{atoms}
use Rattle.hv_replay.proofs.Several.{AnyOf, covered_at, uncovered_at}
use Rattle.hv_replay.proofs.log_proof.put_one.Goals as goal

pub returns-clause-covered : goal.returns-clause-covered
returns-clause-covered g c = λ entry at.
    covered_at c.put_state.result
    (λ held. AnyOf c.args.pruners.now (λ b. (goal.Pruner-dyn g (b.vtable, b.value)).covers b.value
    c.args.task.now (state_of (atoms c.args.task.now) held)))
    c.slice-held.result.now entry.state (entry.expanded ≡ false)
    (c.slice-held.ensures.atoms ∙ c.held.ensures.stands entry at)
    c.put_state.ensures.covered

pub returns-clause-uncovered : goal.returns-clause-uncovered
returns-clause-uncovered g c = λ entry at.
    let no : c.expanded.result ≡ false = search rules in
    uncovered_at c.put_state.result
    (λ held. AnyOf c.args.pruners.now (λ b. (goal.Pruner-dyn g (b.vtable, b.value)).covers b.value
    c.args.task.now (state_of (atoms c.args.task.now) held)))
    c.slice-held.result.now entry.state (entry.expanded ≡ false)
    (c.slice-held.ensures.atoms ∙ c.held.ensures.stands entry at)
    (sym (c.expanded.ensures entry at) ∙ no)
    c.put_state.ensures.uncovered
