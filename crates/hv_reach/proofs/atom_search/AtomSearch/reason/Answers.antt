use Rattle.std.proofs.Common.{◌≡◌, ◌∙◌, true, refl, subst, sym}
use Rattle.std.specs.List.{All}
use Rattle.std.proofs.lemmas.Bool.{both_ways}
use Rattle.hv_task.specs.State.{AreBelow, has_atom}
use Rattle.hv_task.specs.Strips.{atoms}
use Rattle.hv_reach.proofs.Deciding.{relaxed_excludes, relaxed_reached}
use Rattle.hv_reach.proofs.atom_search.AtomSearch.reason.Goals as goal

pub row_has-requires : goal.row_has-requires
row_has-requires c =
    subst (λ n. AreBelow n c.as_slice.result.now) (sym c.in_ok-fill.ensures.size)
    (subst (AreBelow (atoms c.args.task.now)) (sym c.as_slice.ensures.items) c.goal.ensures.below)

pub returns-then-row_has-clause-some : goal.returns-then-row_has-clause-some
returns-then-row_has-clause-some c =
    let r = has_atom c.fill.new.held in
    let all = subst (All (λ p. r p ≡ true)) (c.as_slice.ensures.items ∙ c.goal.ensures.goal)
    (c.row_has.ensures.0 c.if-row_has.true) in (
      λ is. absurd (cc (is)),
      λ out. absurd (relaxed_reached c.args.task.now c.args.start.now r
          c.in_ok-fill.ensures.reached all out),
    )

pub returns-clause-some : goal.returns-clause-some
returns-clause-some c =
    let r = has_atom c.fill.new.held in
    let out = relaxed_excludes c.args.task.now c.args.start.now r c.in_ok-fill.ensures.reached
    (λ all. both_ways c.row_has.result c.if-row_has.false
    (c.row_has.ensures.1 (subst (All (λ p. r p ≡ true))
    (sym (c.as_slice.ensures.items ∙ c.goal.ensures.goal)) all))) in
    (λ _. out, λ _. refl)

pub returns-clause-reached : goal.returns-clause-reached
returns-clause-reached c = rw c.in_ok-held.ensures c.in_ok-fill.ensures.reached
