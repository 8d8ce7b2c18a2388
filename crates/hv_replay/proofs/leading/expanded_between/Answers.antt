use Rattle.std.proofs.Common.{◌<◌, arith, length, subst, sym}
use Rattle.std.specs.List.{Contains}
use Rattle.hv_explicit.specs.ListedStates.{AreStates}
use Rattle.hv_replay.proofs.Kept.{entry_there}
use Rattle.hv_replay.proofs.LeadingOn.{below_more, lists_more}
use Rattle.hv_replay.proofs.leading.expanded_between.Goals as goal

pub loop-place-preserved : goal.loop-place-preserved
loop-place-preserved c =
    let log = c.args.log.now in
    let i = c.loop-place.invariant in
    let place = c.loop-place.place in
    let within : place < length log.entries = let less = c.loop-place-test.true in
    let upto = c.requires.within in omega arith in
    let w = entry_there log place within in
    let is = c.in_ok-put_expanded.ensures w.0 w.1 in
    record {
      below = subst (AreStates log.atoms) (sym is)
          (below_more log place w.0 c.loop-place.states c.states-log.ensures.log w.1 i.below);
      lists = λ before entry after less at holds. subst (λ xs. Contains xs entry.state) (sym is)
          (lists_more log c.args.part.from place w.0 c.loop-place.states w.1 i.lists before entry
          after less at holds);
    }
