use Rattle.std.proofs.Common.{◌∙◌, ◌<◌, ℕ, Option, None, IfSome, ap, get_or, length}
use Rattle.std.proofs.Common.{map, refl, subst, sym}
use Rattle.std.proofs.lemmas.Option.{slice_get-get_or}
use Rattle.hv_task.specs.Strips.{Strips, atoms}
use Rattle.hv_clauses.specs.Inquiry.{InquiryState}
use Rattle.hv_clauses.specs.Store.{formula_at, sizes_of, tests_of}
use Rattle.hv_sets.specs.Cost.{ClausesPass}
use Rattle.hv_sets.specs.Query.{is_clash}
use Rattle.hv_lines.specs.Verdicts.{IsDecided}
use Rattle.hv_basic.specs.Working.Asked.{with_action}
use Rattle.hv_basic.proofs.Inquired.{clause_answer_here}
use Rattle.hv_basic.proofs.Walking.{all_settled, clash_here, first_at, over_here}
use Rattle.hv_basic.proofs.Walking.{settled_here, settled_more}
use Rattle.hv_basic.proofs.clausal_walk.ask_all.Goals as goal

pub ask-requires-clause-action : goal.ask-requires-clause-action
ask-requires-clause-action g c =
    let a : Option ℕ = get_or c.args.actions.now c.loop-action.action-index None in
    subst (λ (task : Strips). IfSome a (λ at. at < length task.actions))
    (sym c.loop-action.invariant.task)
    (c.requires.below c.loop-action.action-index a (slice_get-get_or c.args.actions.now
    c.loop-action.action-index None
    c.loop-action-test.true))

pub ask-requires-clause-state : goal.ask-requires-clause-state
ask-requires-clause-state g c =
    c.loop-action.invariant.state ∙ (c.requires.state
    ∙ sym (ap (λ (task : Strips). atoms task) c.loop-action.invariant.task))

pub returns-in-Over-clause-answer : goal.returns-in-Over-clause-answer
returns-in-Over-clause-answer g c =
    let a : Option ℕ = get_or c.args.actions.now c.loop-action.action-index None in (
      with_action c.args.query.now a,
      first_at (λ q. ClausesPass c.args.case.now.task.now
          (sizes_of (formula_at c.args.sets.now)) q c.args.case.now.budget)
          (is_clash c.args.case.now.task.now (tests_of (formula_at c.args.sets.now)))
          (atoms c.args.case.now.task.now) c.args.query.now c.args.actions.now
          c.loop-action.action-index a
          c.loop-action.invariant.settled (slice_get-get_or c.args.actions.now
          c.loop-action.action-index None
          c.loop-action-test.true),
      over_here (λ q. ClausesPass c.args.case.now.task.now
          (sizes_of (formula_at c.args.sets.now)) q c.args.case.now.budget)
          (is_clash c.args.case.now.task.now (tests_of (formula_at c.args.sets.now)))
          (atoms c.args.case.now.task.now) (with_action c.args.query.now a) (with_action
          c.args.query.now a) refl c.ask.new.state c.ask.result (clause_answer_here a c.ask.result
          c.ask.new.state c.loop-action.inquiry
          c.args.case.now.task.now c.args.sets.now c.args.query.now c.args.case.now.budget
          c.loop-action.invariant.task c.loop-action.invariant.store
          c.loop-action.invariant.positive
          c.loop-action.invariant.negative c.loop-action.invariant.budget c.ask.ensures.answer)
          c.in-Over.is,
    )

pub returns-in-Clash-clause-answer : goal.returns-in-Clash-clause-answer
returns-in-Clash-clause-answer g c =
    let a : Option ℕ = get_or c.args.actions.now c.loop-action.action-index None in
    let found = clash_here (λ q. ClausesPass c.args.case.now.task.now
    (sizes_of (formula_at c.args.sets.now)) q c.args.case.now.budget)
    (is_clash c.args.case.now.task.now (tests_of (formula_at c.args.sets.now)))
    (atoms c.args.case.now.task.now) (with_action c.args.query.now a) (with_action c.args.query.now
    a) refl c.ask.new.state c.ask.result (clause_answer_here a c.ask.result c.ask.new.state
    c.loop-action.inquiry
    c.args.case.now.task.now c.args.sets.now c.args.query.now c.args.case.now.budget
    c.loop-action.invariant.task c.loop-action.invariant.store c.loop-action.invariant.positive
    c.loop-action.invariant.negative c.loop-action.invariant.budget c.ask.ensures.answer)
    c.in-Clash.is in
    subst (IsDecided (λ q. ClausesPass c.args.case.now.task.now
    (sizes_of (formula_at c.args.sets.now)) q c.args.case.now.budget)
    (is_clash c.args.case.now.task.now (tests_of (formula_at c.args.sets.now)))
    (atoms c.args.case.now.task.now) (map (with_action c.args.query.now) c.args.actions.now))
    (sym c.in_ok-verdict-in-Clash.ensures) (
      with_action c.args.query.now a,
      first_at (λ q. ClausesPass c.args.case.now.task.now
          (sizes_of (formula_at c.args.sets.now)) q c.args.case.now.budget)
          (is_clash c.args.case.now.task.now (tests_of (formula_at c.args.sets.now)))
          (atoms c.args.case.now.task.now) c.args.query.now c.args.actions.now
          c.loop-action.action-index a
          c.loop-action.invariant.settled (slice_get-get_or c.args.actions.now
          c.loop-action.action-index None
          c.loop-action-test.true),
      found.0,
      (
        refl,
        (
          c.ask.new.state,
          refl,
          found.1,
          found.2,
        ),
      ),
    )

pub loop-action-preserved : goal.loop-action-preserved
loop-action-preserved g c =
    let a : Option ℕ = get_or c.args.actions.now c.loop-action.action-index None in
    let same = c.ask.ensures.same in
    record {
      task = ap (λ (i : InquiryState). i.task) same ∙ c.loop-action.invariant.task;
      store = ap (λ (i : InquiryState). i.store) same ∙ c.loop-action.invariant.store;
      positive = ap (λ (i : InquiryState). i.positive) same ∙ c.loop-action.invariant.positive;
      negative = ap (λ (i : InquiryState). i.negative) same ∙ c.loop-action.invariant.negative;
      budget = ap (λ (i : InquiryState). i.budget) same ∙ c.loop-action.invariant.budget;
      state = c.ask.ensures.state ∙ c.loop-action.invariant.state;
      settled =
          settled_more (λ q. ClausesPass c.args.case.now.task.now
          (sizes_of (formula_at c.args.sets.now)) q c.args.case.now.budget)
          (is_clash c.args.case.now.task.now (tests_of (formula_at c.args.sets.now)))
          (atoms c.args.case.now.task.now) c.args.query.now c.args.actions.now
          c.loop-action.action-index a
          c.loop-action.invariant.settled (slice_get-get_or c.args.actions.now
          c.loop-action.action-index None
          c.loop-action-test.true)
          (settled_here (λ q. ClausesPass c.args.case.now.task.now
          (sizes_of (formula_at c.args.sets.now)) q c.args.case.now.budget)
          (is_clash c.args.case.now.task.now (tests_of (formula_at c.args.sets.now)))
          (atoms c.args.case.now.task.now) (with_action c.args.query.now a) (with_action
          c.args.query.now a) refl c.ask.new.state c.ask.result (clause_answer_here a c.ask.result
          c.ask.new.state c.loop-action.inquiry
          c.args.case.now.task.now c.args.sets.now c.args.query.now c.args.case.now.budget
          c.loop-action.invariant.task c.loop-action.invariant.store
          c.loop-action.invariant.positive
          c.loop-action.invariant.negative c.loop-action.invariant.budget c.ask.ensures.answer)
          c.in-Empty.is);
    }

pub returns-clause-answer : goal.returns-clause-answer
returns-clause-answer g c =
    all_settled (λ q. ClausesPass c.args.case.now.task.now
    (sizes_of (formula_at c.args.sets.now)) q c.args.case.now.budget)
    (is_clash c.args.case.now.task.now (tests_of (formula_at c.args.sets.now)))
    (atoms c.args.case.now.task.now) c.args.query.now c.args.actions.now c.loop-action.action-index
    c.loop-action-test.false c.loop-action.invariant.settled
