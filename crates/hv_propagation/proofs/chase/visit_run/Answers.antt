use Rattle.std.proofs.Common.{◌≤◌, arith, length}
use Rattle.hv_propagation.specs.Trail.{marks_of}
use Rattle.hv_propagation.proofs.FoundRuns.{known_front, run_followed}
use Rattle.hv_propagation.proofs.chase.visit_run.Goals as goal

pub returns-clause-followed : goal.returns-clause-followed
returns-clause-followed c =
    let standing = c.args.standing.now in
    let few : c.min-count.result ≤ length standing.places.now =
    (let least = c.min-count.ensures in omega arith) in
    run_followed c.args.effect.now c.args.clauses.now standing c.args.marks.now
    c.force_run.new.self c.min-count.result c.args.index c.force_run.result.holds
    c.requires.nothing c.requires.standing c.requires.wide few c.requires.out
    c.force_run.ensures.followed

pub returns-clause-known : goal.returns-clause-known
returns-clause-known c = λ is.
    known_front (marks_of c.force_run.new.self) c.args.standing.now.entries.now c.min-count.result
    c.args.index c.force_run.result.index (c.force_run.ensures.known is)
