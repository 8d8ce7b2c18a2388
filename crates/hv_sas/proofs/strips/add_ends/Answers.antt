use Rattle.std.proofs.Common.{◌∙◌, ap, subst, sym, List, ℕ}
use Rattle.hv_task.specs.State.{AreBelow}
use Rattle.hv_task.specs.Strips.{Strips, atoms}
use Rattle.hv_sas.specs.declared.sas_task.Fact.{Fact}
use Rattle.hv_sas.specs.declared.sas_task.SasVariable.{SasVariable}
use Rattle.hv_sas.specs.Made.{fact_atoms, state_facts}
use Rattle.hv_sas.proofs.Making.{atoms_below}
use Rattle.hv_sas.proofs.strips.add_ends.Goals as goal

pub set_start-requires : goal.set_start-requires
set_start-requires c =
    subst (λ (xs : List ℕ). AreBelow (atoms c.args.task.now) xs)
    (sym (c.in_ok-start.ensures ∙ ap (λ (vs : List SasVariable). fact_atoms vs
    (state_facts c.as_slice.result.now)) c.as_slice-variables.ensures))
    (subst (λ n. AreBelow n
    (fact_atoms c.args.sas.now.variables (state_facts c.as_slice.result.now)))
    (sym c.requires.atoms)
    (atoms_below c.args.sas.now.variables (state_facts c.as_slice.result.now)))

pub set_goal-requires : goal.set_goal-requires
set_goal-requires c =
    subst (λ (xs : List ℕ). AreBelow (atoms c.set_start.new.self) xs)
    (sym (c.in_ok-goal.ensures
    ∙ ap (λ (vs : List SasVariable). fact_atoms vs c.as_slice-2.result.now)
    c.as_slice-variables.ensures))
    (subst (λ n. AreBelow n
    (fact_atoms c.args.sas.now.variables c.as_slice-2.result.now))
    (sym (ap (λ (t : Strips). atoms t) c.set_start.ensures ∙ c.requires.atoms))
    (atoms_below c.args.sas.now.variables c.as_slice-2.result.now))

pub returns : goal.returns
returns c =
    let t = c.args.task.now in
    let vs = c.args.sas.now.variables in
    let start = c.in_ok-start.ensures ∙ ap (λ (us : List SasVariable). fact_atoms us
    (state_facts c.as_slice.result.now)) c.as_slice-variables.ensures
    ∙ ap (λ (s : List ℕ). fact_atoms vs (state_facts s)) c.as_slice.ensures in
    let goal_is = c.in_ok-goal.ensures ∙ ap (λ (us : List SasVariable). fact_atoms us
    c.as_slice-2.result.now) c.as_slice-variables.ensures
    ∙ ap (λ (s : List Fact). fact_atoms vs s) c.as_slice-2.ensures in
    let made : List ℕ → List ℕ → Strips = λ s g. record t { start = s; goal = g } in
    c.set_goal.ensures
    ∙ ap (λ (u : Strips). record u { goal = c.in_ok-goal.goal }) c.set_start.ensures
    ∙ ap (λ s. made s c.in_ok-goal.goal) start
    ∙ ap (λ g. made (fact_atoms vs (state_facts c.args.sas.now.start)) g) goal_is
