use Rattle.std.proofs.Common.{◌≡◌, ◌∙◌, ◌∷◌, [], true, false, get_or, refl, sym, ap, subst, arith}
use Rattle.hv_task.specs.State.{AreBelow, state_of}
use Rattle.hv_task.specs.Strips.{atoms, start_state}
use Rattle.hv_task.proofs.Places.{beq-Decides}
use Rattle.hv_sets.specs.Truth.{is_same}
use Rattle.hv_explicit.specs.Working.Search.{clashes_at, clashes_in}
use Rattle.hv_explicit.proofs.sets_query.SetsQuery.find_start.Goals as goal

pub clashes-requires-clause-anchor : goal.clashes-requires-clause-anchor
clashes-requires-clause-anchor c =
    let task = c.args.self.now.task in
    subst (λ xs. is_same (start_state task) (state_of (atoms task) xs) ≡ true)
    (sym c.start-held.ensures.start) ((beq-Decides (start_state task) (start_state task)).1 refl)

pub hold-requires : goal.hold-requires
hold-requires c =
    subst (λ n. AreBelow n c.start-held.result.atoms.now) (sym c.requires)
    c.start-held.ensures.below

pub returns-then-clashes : goal.returns-then-clashes
returns-then-clashes c = (
  omega (arith, c.if-budget-eq0.false),
  c.hold.ensures.atoms ∙ c.requires,
  ap (clashes_in c.args.self.now)
      (c.hold.ensures.held ∙ ap (λ m. state_of m c.start-held.result.atoms.now) c.requires)
      ∙ (sym c.clashes.ensures ∙ c.if-clashes.true),
)

pub returns : goal.returns
returns c =
    let s = c.args.self.now in (
      omega (arith, c.if-budget-eq0.false),
      λ k d within.
          let first : k ≡ 0 = omega (arith, within) in
          subst (λ j. clashes_at s (get_or (s.task.start ∷ []) j d) ≡ false) (sym first)
          (subst (λ xs. clashes_at s xs ≡ false) c.start-held.ensures.start
          (sym c.clashes.ensures ∙ c.if-clashes.false)),
    )
