use Rattle.std.proofs.Common.{◌*◌, ◌<◌, Some, length, arith, refl}
use Rattle.hv_reach.proofs.Entering.{block_below, none_in_block, some_in_block}
use Rattle.hv_reach.proofs.Sets.{slice_get_at}
use Rattle.hv_reach.proofs.note_rows.first_row.Goals as goal

pub returns-in-Some : goal.returns-in-Some
returns-in-Some c =
    let rows = c.args.rows.now.items in
    let b = c.loop-block.block in
    let less : b < length c.args.blocks.now.items = omega arith in
    let at = slice_get_at c.args.blocks.now.items b c.index.result.now less c.index.ensures in
    let kept = c.requires.rows.1.each b c.index.result.now at in
    some_in_block c.requires.rows.0 (512 * b) rows c.index.result.now.items kept c.args.list.now
    (block_below rows c.args.blocks.now.items c.args.list.now c.requires.rows c.requires.below
    c.requires.any b c.index.result.now at) c.args.from c.saturating_sub.result
    c.saturating_sub.ensures c.loop-block.invariant.before (Some c.in-Some.place) c.in-Some.place
    refl c.in-Some.ensures.found c.requires.some

pub loop-block-preserved : goal.loop-block-preserved
loop-block-preserved c =
    let rows = c.args.rows.now.items in
    let b = c.loop-block.block in
    let less : b < length c.args.blocks.now.items = omega arith in
    let at = slice_get_at c.args.blocks.now.items b c.index.result.now less c.index.ensures in
    let kept = c.requires.rows.1.each b c.index.result.now at in
    record {
      size = c.first_in.ensures.mask;
      before = λ k le below has.
          none_in_block c.requires.rows.0 (512 * b) rows c.index.result.now.items kept
          c.args.list.now
          (block_below rows c.args.blocks.now.items c.args.list.now c.requires.rows c.requires.below
          c.requires.any b c.index.result.now at) c.args.from c.saturating_sub.result
          c.saturating_sub.ensures c.loop-block.invariant.before c.first_in.result (c.in_default.is)
          c.first_in.ensures.found k le (omega (arith, below)) has;
    }
