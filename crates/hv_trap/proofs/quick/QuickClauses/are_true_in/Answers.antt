use Rattle.std.proofs.Common.{◌∙◌, ap}
use Rattle.std.specs.List.{list_all}
use Rattle.hv_trap.specs.Working.Quick.{is_true_by}
use Rattle.hv_trap.proofs.Quickly.{pairs_tell}
use Rattle.hv_trap.proofs.quick.QuickClauses.are_true_in.Goals as goal

pub returns-clause-told : goal.returns-clause-told
returns-clause-told c = λ clauses are.
    c.are_all_true.ensures
    ∙ ap (list_all (is_true_by c.fill.new.truths)) c.as_slice.ensures.value
    ∙ pairs_tell c.args.state.now c.fill.new.truths clauses c.args.self.now.pairs.items
    c.fill.ensures are
