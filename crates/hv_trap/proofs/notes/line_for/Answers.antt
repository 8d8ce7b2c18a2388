use Rattle.std.proofs.Common.{◌∙◌, refl, sym}
use Rattle.std.proofs.lemmas.Bool.{both_ways}
use Rattle.hv_sets.specs.Truth.{in_clauses}
use Rattle.hv_trap.proofs.Writing.{asked_clauses, breaks_set, set_breaks, trap_below}
use Rattle.hv_trap.proofs.notes.line_for.Goals as goal

pub are_true_in-requires : goal.are_true_in-requires
are_true_in-requires c =
    trap_below c.args.task.now c.clauses_of.result.now c.args.state.now
    (asked_clauses c.args.task.now c.args.table.now.lines c.args.note.set c.requires.set
    c.negated-formula.result c.clauses_of.result.now
    c.negated-formula.ensures c.clauses_of.ensures)
    c.requires.state

pub returns-then-are_true_in : goal.returns-then-are_true_in
returns-then-are_true_in c =
    λ inside.
    both_ways (in_clauses c.clauses_of.result.now c.args.state.now)
    (set_breaks c.args.task.now c.args.table.now.lines c.requires.table
    c.args.note.set c.negated-formula.result
    c.clauses_of.result.now c.negated-formula.ensures c.clauses_of.ensures c.args.state.now inside)
    (sym c.are_true_in.ensures ∙ c.if-are_true_in.true)

pub returns-else-are_true_in : goal.returns-else-are_true_in
returns-else-are_true_in c = (
  breaks_set c.args.task.now c.args.table.now.lines c.requires.table c.args.note.set
      c.negated-formula.result
      c.clauses_of.result.now c.negated-formula.ensures c.clauses_of.ensures c.args.state.now
      (sym c.are_true_in.ensures ∙ c.if-are_true_in.false),
  refl,
)
