use Rattle.std.proofs.Common.{◌≡◌, ◌∙◌, ◌&&◌, [], false, ap, get_or, subst, sym}
use Rattle.std.specs.List.{All, Contains}
use Rattle.hv_task.specs.State.{applicable, state_of, successor}
use Rattle.hv_task.specs.Strips.{atoms}
use Rattle.hv_explicit.specs.Working.Holders.{listed_places}
use Rattle.hv_explicit.specs.Working.Search.{clashes_at, is_fit}
use Rattle.hv_explicit.proofs.Clashes.{applies_not, clash_acting}
use Rattle.hv_explicit.proofs.Holding.{all_but_holders, zip_found}
use Rattle.hv_explicit.proofs.sets_query.SetsQuery.places_in.Goals as goal

pub returns : goal.returns
returns c =
    let s = c.args.self.now in
    let n = atoms s.task in
    let action = c.in-Some.action.now in
    zip_found _ _ _ c.held_by.result c.held_by.ensures c.held_by.ensures (λ part are _.
    all_but_holders (clashes_at s) c.args.set.now.states c.as_slice.result.now
    (listed_places part) are (λ k less none.
    let held = get_or c.args.set.now.states k [] in
    let state = state_of n held in
    let no : applicable action state ≡ false =
    applies_not n held action.pre c.in-Some.ensures.1.pre
    (λ all. none (subst (All (λ p. Contains held p)) (sym c.as_slice.ensures.items) all)) in
    sym (clash_acting s state action c.in-Some.ensures.0)
    ∙ ap (λ b. b && is_fit s state (successor action state)) no))
