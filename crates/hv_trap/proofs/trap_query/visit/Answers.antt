use Rattle.hv_trap.specs.Working.Asking.{clauses_asked}
use Rattle.hv_trap.proofs.Enclosing.{visit_below, visit_encloses, visit_few, visit_fewer}
use Rattle.hv_trap.proofs.trap_query.visit.Goals as goal

pub true_in-requires : goal.true_in-requires
true_in-requires c =
    visit_below c.args.task.now (clauses_asked c.args.asking.now) c.args.clauses.now
    c.args.clauses.now c.args.action
    c.leads_in.new.asking.scratch.state c.state.result.now c.state.ensures c.requires.clauses
    (c.in_ok-leads_in.ensures.yes c.if-branch.true)

pub returns-then-branch-clause-enclose : goal.returns-then-branch-clause-enclose
returns-then-branch-clause-enclose c =
    visit_encloses c.args.task.now (clauses_asked c.args.asking.now) c.args.clauses.now
    c.in_ok-kept.kept c.args.action
    c.leads_in.new.asking.scratch.state c.state.result.now c.state.ensures c.in_ok-kept.ensures
    c.requires.action
    c.requires.formula c.requires.clauses (c.in_ok-leads_in.ensures.yes c.if-branch.true)

pub returns-then-branch-clause-shrinks : goal.returns-then-branch-clause-shrinks
returns-then-branch-clause-shrinks c =
    visit_few c.args.task.now (clauses_asked c.args.asking.now) c.args.clauses.now c.in_ok-kept.kept
    c.args.action
    c.leads_in.new.asking.scratch.state c.state.result.now c.state.ensures c.in_ok-kept.ensures

pub returns-then-branch-clause-fewer : goal.returns-then-branch-clause-fewer
returns-then-branch-clause-fewer c = λ _ all.
    visit_fewer c.args.task.now (clauses_asked c.args.asking.now) c.args.clauses.now
    c.in_ok-kept.kept c.args.action
    c.leads_in.new.asking.scratch.state c.state.result.now c.state.ensures c.in_ok-kept.ensures
    (c.in_ok-leads_in.ensures.yes c.if-branch.true) all
