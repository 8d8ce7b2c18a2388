use Rattle.std.proofs.Common.{◌≡◌, ◌∙◌, true, length, sym, subst}
use Rattle.hv_sets.specs.Truth.{in_cube}
use Rattle.hv_paths.proofs.Fronts.{cube_front}
use Rattle.hv_paths.proofs.meeting.assume_rest.Goals as goal

-- no state of the whole cube is looked for, since none of its prefix is
pub returns-then-not-is_open-clause-barren : goal.returns-then-not-is_open-clause-barren
returns-then-not-is_open-clause-barren g c = λ _ s of h.
    let i = c.loop-place.invariant in
    let front =
    cube_front (length (g.A.Asker.assumed c.loop-place.asked)) c.args.path.now s h in
    sym (i.3 s)
    ∙ c.is_open.ensures.barren c.if-not-is_open.true s (of ∙ sym i.2)
    (subst (λ b. in_cube b s ≡ true) (sym i.1) front)
