use Rattle.std.proofs.Common.{◌-◌, ◌∙◌, sym, arith}
use Rattle.hv_basic.proofs.Marked.{flag_from_index, marking_end, marking_start, marking_step}
use Rattle.hv_basic.proofs.acts.flags_of.Goals as goal

pub sets-preserved-then-index : goal.sets-preserved-then-index
sets-preserved-then-index c =
    marking_step c.args.table.now.lines c.args.acts c.args.actions c.sets.flags.items
    c.sets.wanted.items c.mark.new.flags.items
    c.mark.new.wanted.items c.sets.left (c.sets.left - 1) c.acts_count-count.ensures.table
    c.sets.invariant (omega arith)
    (flag_from_index c.sets.wanted.items (c.sets.left - 1) c.index.result.now
    (sym c.index.ensures ∙ c.if-index.true)
    (omega (arith, c.sets.invariant.within, c.sets.invariant.wanted_for)))
    c.acts.result.now c.acts.ensures.says c.mark.ensures

pub sets-init : goal.sets-init
sets-init c =
    marking_start c.args.table.now.lines c.args.acts c.args.actions c.in_ok-flags.flags.items
    c.in_ok-wanted.wanted.items (c.in_ok-flags.ensures.items_if_clones_equal (λ y same. same))
    (c.in_ok-wanted.ensures.items_if_clones_equal (λ y same. same))

pub returns : goal.returns
returns c = record {
  flags =
      marking_end c.args.table.now.lines c.args.acts c.args.actions c.sets.flags.items
      c.sets.wanted.items c.sets.left c.sets-test.false c.sets.invariant;
  table = c.acts_count-count.ensures.table;
}
