use Rattle.std.proofs.Common.{arith, get_or}
use Rattle.hv_clauses.proofs.Enabling.{forced_plain, lit, in_all, in_broken, in_more}
use Rattle.hv_propagation.specs.Trail.{marks_of}
use Rattle.hv_propagation.proofs.Chasing.{grows_then}
use Rattle.hv_clauses.proofs.precondition.force_in.Goals as goal

pub returns-then-not-force-clause-marked : goal.returns-then-not-force-clause-marked
returns-then-not-force-clause-marked c =
    in_broken c.args.atoms.now c.loop-atom.atom-index (marks_of c.args.marks.now)
    (marks_of c.loop-atom.marks) (marks_of c.force.new.marks) (omega arith)
    c.loop-atom.invariant.so_far (forced_plain c.none-none.result
    (lit (get_or c.args.atoms.now c.loop-atom.atom-index 0)) _ _ _ c.none-none.ensures
    c.if-not-force.ensures.forced)

pub loop-atom-preserved : goal.loop-atom-preserved
loop-atom-preserved c = record {
  so_far = in_more c.args.atoms.now c.loop-atom.atom-index (marks_of c.args.marks.now)
      (marks_of c.loop-atom.marks) (marks_of c.force.new.marks)
      c.loop-atom.invariant.so_far (forced_plain c.none-none.result
      (lit (get_or c.args.atoms.now c.loop-atom.atom-index 0)) _ _ _ c.none-none.ensures
      c.if-not-force.ensures.forced);
  grown = grows_then _ _ _ c.loop-atom.invariant.grown c.if-not-force.ensures.grown;
}

pub returns-then-not-force-clause-grown : goal.returns-then-not-force-clause-grown
returns-then-not-force-clause-grown c = grows_then _ _ _ c.loop-atom.invariant.grown
    c.if-not-force.ensures.grown

pub returns-clause-marked : goal.returns-clause-marked
returns-clause-marked c =
    in_all c.args.atoms.now c.loop-atom.atom-index (marks_of c.args.marks.now)
    (marks_of c.loop-atom.marks) c.loop-atom-test.false c.loop-atom.auto.atom-index-end
    c.loop-atom.invariant.so_far
