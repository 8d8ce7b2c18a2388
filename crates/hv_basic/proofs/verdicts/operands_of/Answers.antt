use Rattle.std.proofs.Common.{◌≡◌, ◌∙◌, Some, false, get_or, sym}
use Rattle.hv_sets.specs.declared.operand.Which.{Which}
use Rattle.hv_lines.specs.Queries.{which_at}
use Rattle.hv_basic.specs.Cases.{lines_in}
use Rattle.hv_basic.proofs.Querying.{operands_more}
use Rattle.hv_basic.proofs.verdicts.operands_of.Goals as goal

same_name : (found : Which) (name : Which) → Some found ≡ Some name → found ≡ name
same_name found name e = cc

pub loop-set-preserved : goal.loop-set-preserved
loop-set-preserved c =
    let lines = lines_in c.args.case.now in
    let asked = get_or c.args.asked.now c.loop-set.set-index (0, false) in
    operands_more lines c.args.asked.now c.loop-set.set-index (0, false) c.loop-set.operands
    c.push.new.self c.name.result c.loop-set-test.true c.loop-set.invariant
    (same_name c.name.result (which_at lines asked.0) (sym c.name.ensures
    ∙ c.args.case.now.stored.names asked.0
    (c.requires c.loop-set.set-index (0, false) c.loop-set-test.true)))
    c.in_ok-push.ensures.ok
