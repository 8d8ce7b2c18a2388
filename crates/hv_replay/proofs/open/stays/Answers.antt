use Rattle.std.proofs.Common.{◌≡◌, ◌≤◌, ◌∙◌, ap, rules, true, false, length, refl, subst, sym}
use Rattle.std.specs.List.{All}
use Rattle.hv_task.specs.State.{AreBelow, has_atom, state_of}
use Rattle.hv_task.specs.Strips.{atoms}
use Rattle.hv_task.proofs.Places.{length-state_of}
use Rattle.hv_explicit.proofs.Clashes.{below_after}
use Rattle.hv_replay.proofs.Exits.{stays_listed, stays_put}
use Rattle.hv_replay.proofs.open.stays.Goals as goal

pub holds_each-requires : goal.holds_each-requires
holds_each-requires c =
    let n = atoms c.args.origin.now.task.now in
    subst (AreBelow (length c.args.origin.now.state.now)) (sym c.as_slice.ensures.items)
    (subst (λ m. AreBelow m c.action-action.result.now.pre)
    (sym (ap length c.args.origin.now.is ∙ length-state_of n c.args.origin.now.held.now))
    c.action-action.ensures.over.pre)

pub returns-then-not-holds_each : goal.returns-then-not-holds_each
returns-then-not-holds_each c =
    let no : c.holds_each.result ≡ false = search rules in
    let state = state_of (atoms c.args.origin.now.task.now) c.args.origin.now.held.now in
    let none : All (λ p. has_atom state p ≡ true) c.action-action.result.now.pre → ⊥ =
    λ all. let f : false ≡ true = sym no ∙ c.holds_each.ensures.1
    (subst (λ s. All (λ p. has_atom s p ≡ true) c.as_slice.result.now) (sym c.args.origin.now.is)
    (subst (All (λ p. has_atom state p ≡ true)) (sym c.as_slice.ensures.items) all)) in
    absurd cc in (
      λ _. stays_put c.args.origin.now.task.now c.args.origin.now.listed.now
          c.args.origin.now.held.now
          c.args.origin.now.set.below c.args.number c.action-action.result.now
          c.action-action.ensures.named c.action-action.ensures.over none,
      λ _. refl,
    )

pub lists_after-requires-clause-below : goal.lists_after-requires-clause-below
lists_after-requires-clause-below c = λ p past.
    below_after (atoms c.args.origin.now.task.now) c.action-action.result.now
    c.args.origin.now.held.now c.args.origin.now.set.below
    c.action-action.ensures.over p
    (subst (λ n. n ≤ p) c.args.origin.now.over past)

pub returns : goal.returns
returns c =
    let yes : c.holds_each.result ≡ true = search rules in
    let state = state_of (atoms c.args.origin.now.task.now) c.args.origin.now.held.now in
    let all = subst (All (λ p. has_atom state p ≡ true)) c.as_slice.ensures.items
    (subst (λ s. All (λ p. has_atom s p ≡ true) c.as_slice.result.now) c.args.origin.now.is
    (c.holds_each.ensures.0 yes)) in
    stays_listed c.args.origin.now.task.now c.args.origin.now.listed.now c.args.origin.now.held.now
    c.args.origin.now.set.below c.args.number
    c.action-action.result.now
    c.action-action.ensures.named c.action-action.ensures.over c.args.origin.now.over all
    c.lists_after.result c.lists_after.ensures
