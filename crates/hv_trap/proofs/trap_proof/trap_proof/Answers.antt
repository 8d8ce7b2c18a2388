use Rattle.std.proofs.Common.{[], false, subst, sym}
use Rattle.hv_lines.specs.Drafts.{IsGoodTable, conclusion, onto, prelude}
use Rattle.hv_lines.specs.Judged.{Concludes}
use Rattle.hv_lines.specs.declared.line.Expr.TheVariants as E
use Rattle.hv_lines.proofs.Blocks.{formula_concludes, good_formula_proof, good_start_block}
use Rattle.hv_lines.proofs.Outcomes.{put_good, put_is}
use Rattle.hv_trap.specs.Written.{trap_block}
use Rattle.hv_trap.proofs.Block.{trap_dead}
use Rattle.hv_trap.proofs.Formulas.{trap_formula}
use Rattle.hv_trap.proofs.trap_proof.trap_proof.Goals as goal

pub push_all-requires-clause-good : goal.push_all-requires-clause-good
push_all-requires-clause-good c =
    put_good c.args.task.now (trap_block 3 1 c.args.clauses) (onto prelude [])
    c.in_ok-block.block.items c.reserve.new.self.lines c.in_ok-block.ensures
    (cc (c.in_ok-reserve.ensures.lines, c.in_ok-draft.ensures.lines))
    (good_start_block c.args.task.now false (E.Two c.args.clauses) c.args.clauses
    (trap_dead c.args.task.now c.args.clauses
    (trap_formula c.args.task.now c.args.clauses c.requires.few c.requires.trap)))

pub push_all-requires-2-clause-good : goal.push_all-requires-2-clause-good
push_all-requires-2-clause-good c =
    put_good c.args.task.now (conclusion 5 4 4)
    (onto (trap_block 3 1 c.args.clauses) (onto prelude [])) c.in_ok-end.end.items
    c.push_all.new.self.lines c.in_ok-end.ensures
    (put_is (trap_block 3 1 c.args.clauses) (onto prelude []) c.in_ok-block.block.items
    c.reserve.new.self.lines c.push_all.new.self.lines c.in_ok-block.ensures
    (cc (c.in_ok-reserve.ensures.lines, c.in_ok-draft.ensures.lines)) c.push_all.ensures.lines)
    (good_formula_proof c.args.task.now false (E.Two c.args.clauses) c.args.clauses
    (trap_dead c.args.task.now c.args.clauses
    (trap_formula c.args.task.now c.args.clauses c.requires.few c.requires.trap))
    c.requires.start)

pub returns-clause-lines : goal.returns-clause-lines
returns-clause-lines c =
    put_is (conclusion 5 4 4) (onto (trap_block 3 1 c.args.clauses) (onto prelude []))
    c.in_ok-end.end.items c.push_all.new.self.lines c.push_all-2.new.self.lines c.in_ok-end.ensures
    (put_is (trap_block 3 1 c.args.clauses) (onto prelude []) c.in_ok-block.block.items
    c.reserve.new.self.lines c.push_all.new.self.lines c.in_ok-block.ensures
    (cc (c.in_ok-reserve.ensures.lines, c.in_ok-draft.ensures.lines)) c.push_all.ensures.lines)
    c.push_all-2.ensures.lines

pub returns-clause-good : goal.returns-clause-good
returns-clause-good c =
    subst (IsGoodTable c.args.task.now) (sym (returns-clause-lines c))
    (good_formula_proof c.args.task.now false (E.Two c.args.clauses) c.args.clauses
    (trap_dead c.args.task.now c.args.clauses
    (trap_formula c.args.task.now c.args.clauses c.requires.few c.requires.trap))
    c.requires.start)

pub returns-clause-concludes : goal.returns-clause-concludes
returns-clause-concludes c =
    subst Concludes (sym (returns-clause-lines c))
    (formula_concludes c.args.task.now false (E.Two c.args.clauses))
