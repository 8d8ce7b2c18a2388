use Rattle.std.proofs.Common.{◌≡◌, ◌+◌, ◌∷◌, drop, sym, subst, arith, Some, ap, ◌∙◌}
use Rattle.std.proofs.lemmas.Option.{get_or_from_slice_get}
use Rattle.hv_sets.specs.Cubes.{SpeakBelow}
use Rattle.hv_explicit.specs.ListedStates.{ListedStates, full_cubes}
use Rattle.hv_explicit.proofs.Listing.{cube_taken, full_below}
use Rattle.hv_explicit.proofs.explicit.ExplicitInside.inside_next.Goals as goal

pub returns-clause-step : goal.returns-clause-step
returns-clause-step c =
    subst (λ (set : ListedStates). drop c.args.cursor.now.place (full_cubes set) ≡ c.fill.new.cube
    ∷ drop (c.args.cursor.now.place + 1) (full_cubes set))
    c.self.view_is
    (cube_taken c.self.inside.atoms c.self.inside.states c.args.cursor.now.place
    c.slice-held.result.now
    c.fill.new.cube
    (let len = c.len.ensures in let less = c.if-cursor-len.false in omega arith)
    (sym (get_or_from_slice_get c.self.inside.states c.args.cursor.now.place c.slice-held.result.now
    c.slice-held.result.now (c.get.ensures.state ∙ ap Some (sym c.slice-held.ensures.atoms))))
    c.in_ok-fill.ensures)

pub returns-clause-cube : goal.returns-clause-cube
returns-clause-cube c =
    subst (λ (set : ListedStates). SpeakBelow set.atoms c.fill.new.cube) c.self.view_is
    (subst (SpeakBelow c.self.inside.atoms) (sym c.in_ok-fill.ensures)
    (full_below c.self.inside.atoms c.slice-held.result.now))
