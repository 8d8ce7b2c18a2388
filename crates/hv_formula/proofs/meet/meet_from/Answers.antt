use Rattle.std.proofs.Common.{◌∙◌, [], length, sym, ap, arith, refl, subst}
use Rattle.hv_sets.specs.Cubes.{SpeakBelow}
use Rattle.hv_propagation.specs.Clauses.{AreClauses}
use Rattle.hv_formula.specs.Kinded.{CompletesClauses}
use Rattle.hv_propagation.proofs.Chasing.{kept_settled}
use Rattle.hv_propagation.specs.Working.Laws.{kept_grown}
use Rattle.hv_propagation.proofs.Covered.{forced_cube}
use Rattle.hv_formula.proofs.Kinded.{completes}
use Rattle.hv_formula.proofs.Meeting.{meets_completed, meets_never, meets_unforced}
use Rattle.hv_formula.proofs.meet.meet_from.Goals as goal

pub returns-then-not-force_all-clause-meets : goal.returns-then-not-force_all-clause-meets
returns-then-not-force_all-clause-meets g c =
    meets_unforced (length c.args.state.now) c.args.bare.now.clauses.now c.args.cube.now
    c.args.marks.now c.force_all.new.marks c.requires.marks c.requires.follows
    (forced_cube c.none-none.result c.args.cube.now _ _ _ c.none-none.ensures
    c.if-not-force_all.ensures.forced) c.args.state.now

pub force_all-requires : goal.force_all-requires
force_all-requires g c =
    subst (λ n. SpeakBelow n c.args.cube.now) (sym c.requires.marks) c.requires.cube

pub returns-then-not-force_all-clause-state : goal.returns-then-not-force_all-clause-state
returns-then-not-force_all-clause-state g c = refl

pub close-requires-clause-over : goal.close-requires-clause-over
close-requires-clause-over g c = (
  subst (λ n. AreClauses n c.args.bare.now.clauses.now)
      (sym (ap length c.if-not-force_all.ensures.grown.roots ∙ c.requires.marks))
      c.requires.clauses,
  c.requires.index,
)

pub close-requires-clause-left : goal.close-requires-clause-left
close-requires-clause-left g c =
    kept_grown [] c.args.bare.now.clauses.now c.args.marks.now c.force_all.new.marks 0
    c.if-not-force_all.ensures.grown (omega arith)
    (kept_settled [] c.args.bare.now.clauses.now c.args.marks.now 0 c.requires.settled)

pub returns-then-not-close-clause-meets : goal.returns-then-not-close-clause-meets
returns-then-not-close-clause-meets g c =
    meets_never (length c.args.state.now) c.args.bare.now.clauses.now c.args.cube.now
    c.args.marks.now c.force_all.new.marks c.requires.marks c.requires.follows
    (forced_cube c.none-none.result c.args.cube.now _ _ _ c.none-none.ensures
    c.if-not-force_all.ensures.forced)
    c.if-not-force_all.ensures.grown.roots c.close.new.marks c.if-not-close.ensures.followed
    c.args.state.now

pub returns-then-not-close-clause-state : goal.returns-then-not-close-clause-state
returns-then-not-close-clause-state g c = refl

pub complete-requires-clause-over : goal.complete-requires-clause-over
complete-requires-clause-over g c = (
  subst (λ n. AreClauses n c.args.bare.now.clauses.now)
      (sym (ap length c.if-not-close.ensures.followed.roots
      ∙ (ap length c.if-not-force_all.ensures.grown.roots ∙ c.requires.marks)))
      c.requires.clauses,
  c.requires.index,
)

pub complete-requires-clause-state : goal.complete-requires-clause-state
complete-requires-clause-state g c =
    sym (ap length c.if-not-close.ensures.followed.roots
    ∙ (ap length c.if-not-force_all.ensures.grown.roots ∙ c.requires.marks))

pub complete-requires-clause-left : goal.complete-requires-clause-left
complete-requires-clause-left g c = c.if-not-close.ensures.left refl

pub complete-requires-clause-completes : goal.complete-requires-clause-completes
complete-requires-clause-completes g c =
    let clauses = c.args.bare.now.clauses.now in
    completes c.completion.result g.K.ClauseKind.is_of
    (subst (λ how. CompletesClauses how g.K.ClauseKind.is_of) (sym c.completion.ensures)
    g.met.K.ClauseKind.completes) (length c.close.new.marks.roots) [] clauses
    (subst (λ n. AreClauses n clauses)
    (sym (ap length c.if-not-close.ensures.followed.roots
    ∙ (ap length c.if-not-force_all.ensures.grown.roots ∙ c.requires.marks))) c.requires.clauses)
    c.requires.kind

pub returns-clause-meets : goal.returns-clause-meets
returns-clause-meets g c =
    meets_completed (length c.args.state.now) c.args.bare.now.clauses.now c.args.cube.now
    c.args.marks.now c.force_all.new.marks c.requires.marks c.requires.follows
    (forced_cube c.none-none.result c.args.cube.now _ _ _ c.none-none.ensures
    c.if-not-force_all.ensures.forced)
    c.if-not-force_all.ensures.grown.roots c.close.new.marks c.requires.cube
    c.if-not-close.ensures.followed
    c.complete.new.state c.complete.ensures.state c.complete.result c.complete.ensures.completed

pub returns-clause-state : goal.returns-clause-state
returns-clause-state g c = c.complete.ensures.state
