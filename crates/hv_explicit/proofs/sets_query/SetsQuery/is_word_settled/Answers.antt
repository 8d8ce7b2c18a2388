use Rattle.std.proofs.Common.{◌∙◌, sym}
use Rattle.hv_task.specs.State.{state_of, successor}
use Rattle.hv_task.specs.Strips.{atoms}
use Rattle.hv_explicit.specs.Working.Words.{word_atoms}
use Rattle.hv_explicit.proofs.Clashes.{below_after, stands_after}
use Rattle.hv_explicit.proofs.Hits.{hit_settles}
use Rattle.hv_explicit.proofs.sets_query.SetsQuery.is_word_settled.Goals as goal

pub is_state_hit-requires : goal.is_state_hit-requires
is_state_hit-requires c = λ p past.
    sym (c.result_in-after.ensures p)
    ∙ below_after (atoms c.args.self.now.task) c.in-Some.bits.now.action.now
    (word_atoms c.args.held.bits) c.requires c.in-Some.ensures.1 p past

pub returns-in-Some : goal.returns-in-Some
returns-in-Some c = λ yes.
    let s = c.args.self.now in
    let held = word_atoms c.args.held.bits in
    let action = c.in-Some.bits.now.action.now in
    let just = stands_after s.task action held c.requires c.in-Some.ensures.1 in
    hit_settles s action held c.in-Some.ensures.0
    (c.is_state_hit.ensures yes (successor action (state_of (atoms s.task) held)) (record {
      of_task = just.of_task;
      same = λ p. sym (c.result_in-after.ensures p) ∙ just.same p;
    }))
