use Rattle.std.proofs.Common.{arith, refl, subst, sym}
use Rattle.hv_lines.specs.declared.line.Acts.TheVariants as A
use Rattle.hv_lines.proofs.Laws.{acts_law}
use Rattle.hv_basic.proofs.Listed.{IsListedTo, listed_more, listed_none, listed_whole}
use Rattle.hv_basic.proofs.actions.listed_actions.Goals as goal

pub loop-action-init : goal.loop-action-init
loop-action-init c =
    subst (IsListedTo c.args.table.now.lines c.args.acts c.args.listed.now c.args.actions 0)
    (sym c.in_ok-asked.ensures.items)
    (listed_none c.args.table.now.lines c.args.acts c.args.listed.now c.args.actions 0 refl)

pub loop-action-preserved : goal.loop-action-preserved
loop-action-preserved c =
    listed_more c.args.table.now.lines c.args.acts c.args.listed.now c.requires.rises
    (acts_law c.args.table.now.lines c.args.acts (A.List c.args.listed.now)
    c.acts_count-count.ensures.table c.requires.lists)
    c.args.actions c.loop-action.action-index _ _ _ (omega arith) refl
    c.in_ok-push_below.ensures.below c.in_ok-push_below.ensures.past c.loop-action.invariant

pub returns : goal.returns
returns c =
    listed_whole c.args.table.now.lines c.args.acts c.args.listed.now c.requires.rises
    (acts_law c.args.table.now.lines c.args.acts (A.List c.args.listed.now)
    c.acts_count-count.ensures.table c.requires.lists)
    c.args.actions c.loop-action.action-index _ (omega arith) c.loop-action.invariant
