use Rattle.std.proofs.Common.{◌≡◌, ◌∙◌, ◌++◌, ◌∷◌, [], ap, get_or, subst, sym}
use Rattle.std.specs.Option.{IfSome}
use Rattle.hv_explicit.specs.ListedStates.{AreListsOver, AreStates}
use Rattle.hv_explicit.proofs.Anchored.{over_at}
use Rattle.hv_task.specs.Strips.{atoms}
use Rattle.hv_sets.specs.declared.operand.Which.TheVariants as W
use Rattle.hv_lines.specs.Queries.{has_of, listed_of}
use Rattle.hv_lines.specs.declared.formula_family.FormulaFamily.TheVariants as F
use Rattle.hv_basic.specs.Cases.{lines_in, setting_in}
use Rattle.hv_basic.specs.Working.Candidates.{AreCandidates, AreFound}
use Rattle.hv_basic.proofs.Applicable.{candidates_in, only_listed, only_start, stored_states}
use Rattle.hv_basic.proofs.Storing.{listed_over}
use Rattle.hv_basic.proofs.candidates.candidates.Goals as goal

pub applicable_in-requires-in-Set : goal.applicable_in-requires-in-Set
applicable_in-requires-in-Set c =
    let n = atoms c.args.case.now.task.now in
    let xs = listed_of (lines_in c.args.case.now) in
    let sets = c.listed-sets.ensures ∙ c.args.case.now.stored.listed in
    subst (λ k. AreStates k c.states-states.result.now)
    (over_at c.listed-sets.result.now n c.in-Set.number c.get.result.now
    (subst (λ ls. AreListsOver ls n) (sym sets) (listed_over n xs)) c.get.ensures)
    c.states-states.ensures.below

pub returns-in-Some : goal.returns-in-Some
returns-in-Some c =
    let task = c.args.case.now.task.now in
    let sets = has_of (setting_in c.args.case.now) (lines_in c.args.case.now) c.args.family in
    let found = subst (λ o. IfSome o (AreFound task c.push_atoms.new.self)) c.in-Some.is
    c.in_ok-numbers-in-Start.ensures in
    let same : c.push_atoms.new.self ≡ task.start ∷ [] =
    c.in_ok-push_atoms-in-Start.ensures.ok
    ∙ (ap (λ xs. xs ++ c.as_slice.result.now ∷ []) c.new-states.ensures
    ∙ ap (λ held. held ∷ []) (c.as_slice.ensures.items ∙ c.start.ensures.start)) in
    subst (λ w. AreCandidates task sets w c.in-Some.numbers) (sym c.in-Start.is)
    (candidates_in task sets W.Start (task.start ∷ []) c.in-Some.numbers (only_start task sets)
    (subst (λ states. AreFound task states c.in-Some.numbers) same found))

pub returns-in-Some-2 : goal.returns-in-Some-2
returns-in-Some-2 c =
    let setting = setting_in c.args.case.now in
    let lines = lines_in c.args.case.now in
    let task = c.args.case.now.task.now in
    let number = c.in-Set.number in
    let states = get_or (listed_of lines) number [] in
    let found = subst (λ o. IfSome o (AreFound task c.states-states.result.now)) c.in-Some-2.is
    c.in_ok-numbers-in-Set.ensures in
    let same = c.states-states.ensures.states
    ∙ stored_states (atoms task) c.listed-sets.result.now (listed_of lines)
    (c.listed-sets.ensures ∙ c.args.case.now.stored.listed) number c.get.result.now
    c.get.ensures in
    subst (λ w. AreCandidates task (has_of setting lines c.args.family) w c.in-Some-2.numbers)
    (sym c.in-Set.is)
    (subst (λ f. AreCandidates task (has_of setting lines f) (W.Set number) c.in-Some-2.numbers)
    (sym (c.is_listed-in-Set.ensures.0 c.if-not-is_listed.false))
    (candidates_in task (has_of setting lines F.States) (W.Set number) states c.in-Some-2.numbers
    (λ state size inside. only_listed task states state inside)
    (subst (λ ss. AreFound task ss c.in-Some-2.numbers) same found)))
