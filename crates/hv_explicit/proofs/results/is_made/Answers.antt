use Rattle.std.proofs.Common.{◌≡◌, true, false, arith}
use Rattle.hv_explicit.proofs.Merging.{merge_start}
use Rattle.hv_explicit.proofs.results.is_made.Goals as goal

pub loop-atom-init : goal.loop-atom-init
loop-atom-init c = (
  0,
  merge_start c.args.list.now c.args.held.now c.args.add.now c.args.del.now
      c.requires.list c.requires.held c.requires.add c.requires.del,
)

pub loop-atom-preserved : goal.loop-atom-preserved
loop-atom-preserved c = c.in-Some-past.ensures.0

pub loop-atom-smaller : goal.loop-atom-smaller
loop-atom-smaller c =
    let next = c.in-Some-past.ensures in
    let add = next.0.1.add_split.within in
    let del = next.0.1.del_split.within in
    let more = next.1 in omega arith

pub returns-in_default-past : goal.returns-in_default-past
returns-in_default-past c = (
  λ e. let f : false ≡ true = e in absurd cc,
  λ same. absurd (c.in_default-past.ensures same),
)
