use Rattle.std.proofs.Common.{◌≡◌, ◌∙◌, ◌↔◌, rules, ap, false, refl, subst, sym, true}
use Rattle.std.specs.List.{All, Contains}
use Rattle.hv_task.specs.State.{AreBelow, state_of}
use Rattle.hv_task.specs.Strips.{is_goal}
use Rattle.hv_replay.proofs.Exits.{goal_free, holds_all}
use Rattle.hv_replay.proofs.Kept.{entry_there}
use Rattle.hv_replay.proofs.hole.is_goal_free.Goals as goal

pub returns-then-not-expanded : goal.returns-then-not-expanded
returns-then-not-expanded c =
    let no : c.expanded.result ≡ false = search rules in (
      λ _ e at holds. let f : false ≡ true = sym no ∙ (c.expanded.ensures e at ∙ holds) in
          absurd cc,
      λ _. refl,
    )

pub returns : goal.returns
returns c =
    let task = c.args.task.now in
    let log = c.args.log.now in
    let held = c.slice.result.now in
    let legal = subst (AreBelow log.atoms) (sym c.slice.ensures.atoms) c.held.ensures.legal.below in
    let yes : c.expanded.result ≡ true = search rules in
    let w = entry_there log c.args.place c.requires.place in
    let over = subst (λ xs. AreBelow log.atoms xs) c.goal.ensures.goal
    (subst (λ n. AreBelow n c.goal.result.now) (sym c.requires.atoms) c.goal.ensures.below) in
    let tells = subst (λ xs. (c.names_all.result ≡ true) ↔ All (λ p. Contains held p) xs)
    (c.as_slice.ensures.items ∙ c.goal.ensures.goal)
    c.names_all.ensures in
    goal_free task log c.args.place w.0 w.1 (sym (c.expanded.ensures w.0 w.1) ∙ yes)
    c.names_all.result
    (holds_all log.atoms held task.goal legal over c.names_all.result tells
    ∙ ap (λ h. is_goal task (state_of log.atoms h))
    (c.slice.ensures.atoms ∙ c.held.ensures.stands w.0 w.1))
