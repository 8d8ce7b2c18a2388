use Rattle.std.proofs.Common.{◌≡◌, ◌∙◌, [], true, length, take, sym, ap, subst}
use Rattle.hv_sets.specs.Truth.{in_clauses}
use Rattle.hv_propagation.specs.Clauses.{AreClauses}
use Rattle.hv_formula.specs.Kinded.{CompletesClauses}
use Rattle.hv_propagation.specs.Marks.{over}
use Rattle.hv_propagation.specs.Chase.{AreKept}
use Rattle.hv_propagation.specs.Completion.{IsCompleted}
use Rattle.hv_propagation.specs.Trail.{Knowledge, marks_of}
use Rattle.hv_propagation.proofs.Chasing.{undone_same}
use Rattle.hv_formula.proofs.Kinded.{completes}
use Rattle.hv_formula.proofs.formula_ask.complete_in.Goals as goal

pub complete-met-requires-clause-over : goal.complete-met-requires-clause-over
complete-met-requires-clause-over g c = (
  subst (λ n. AreClauses n c.bare-bare.result.clauses.now) (sym c.requires.size)
      c.bare-bare.ensures.below,
  c.bare-bare.ensures.index,
)

pub complete-met-requires-clause-left : goal.complete-met-requires-clause-left
complete-met-requires-clause-left g c =
    subst (λ clauses. AreKept [] clauses c.args.marks.now (length c.args.marks.now.trail))
    (sym c.bare-bare.ensures.clauses) c.requires.left

pub complete-met-requires-clause-completes : goal.complete-met-requires-clause-completes
complete-met-requires-clause-completes g c =
    let clauses = c.bare-bare.result.clauses.now in
    completes c.completion.result g.K.ClauseKind.is_of
    (subst (λ how. CompletesClauses how g.K.ClauseKind.is_of) (sym c.completion.ensures)
    g.met.K.ClauseKind.completes) (length c.args.marks.now.roots) [] clauses
    (subst (λ n. AreClauses n clauses) (sym c.requires.size) c.bare-bare.ensures.below)
    c.bare-bare.ensures.kind

pub returns-clause-completed : goal.returns-clause-completed
returns-clause-completed g c =
    subst (λ clauses. IsCompleted (λ state. in_clauses clauses (over [] state) ≡ true)
    (marks_of c.args.marks.now) c.complete-met.new.state c.complete-met.result)
    c.bare-bare.ensures.clauses c.complete-met.ensures.completed

pub returns-clause-same : goal.returns-clause-same
returns-clause-same g c =
    undone_same c.args.marks.now c.complete-met.new.marks c.undo.new.self
    c.complete-met.ensures.grown
    (c.undo.ensures
    ∙ ap (λ n. let k : Knowledge = record {
      roots = c.complete-met.new.marks.roots;
      trail = take n
          c.complete-met.new.marks.trail;
    } in k) c.len-point.ensures.len)
