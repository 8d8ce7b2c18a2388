use Rattle.std.proofs.Common.{◌&&◌, ◌∙◌, false, get_or, ap, arith}
use Rattle.hv_trap.specs.Working.Quick.{is_true_by}
use Rattle.hv_trap.specs.declared.quick.LiteralPair.{LiteralPair}
use Rattle.hv_trap.proofs.Quickly.{pair_tells_at, pairs_count}
use Rattle.hv_trap.proofs.quick.QuickClauses.mark_false.Goals as goal

pub returns-clause-left : goal.returns-clause-left
returns-clause-left c = λ clauses are k less.
    let state = c.args.state.now in
    let truths = c.fill.new.truths in
    let pairs = c.args.self.now.pairs.items in
    let none : LiteralPair = record { first = 0; second = 0 } in
    let count = pairs_count _ clauses pairs are in
    let marks = c.requires.marks in
    c.mark_all_false.ensures.left k none (omega (arith, count, marks, less))
    ∙ ap (λ b. get_or c.args.left.now.items k false && b)
    (ap (λ ps. is_true_by truths (get_or ps k none)) c.as_slice.ensures.value
    ∙ pair_tells_at state truths clauses pairs k none c.fill.ensures are less)
