use Rattle.std.proofs.Common.{◌≡◌, true, get_or, arith, refl}
use Rattle.hv_task.specs.State.{has_atom}
use Rattle.hv_reach.proofs.Sets.{All-from_zero}
use Rattle.hv_reach.proofs.Waiting.{held_more, step_both}
use Rattle.hv_reach.proofs.atom_search.reach_all.Goals as goal

pub loop-atom-preserved : goal.loop-atom-preserved
loop-atom-preserved c =
    let i = c.loop-atom.invariant in
    let s = c.in_ok-reach.ensures.step in
    record {
      step = step_both _ _ _ _ _ _ i.step s;
      has = held_more c.loop-atom.held c.reach.new.held c.args.atoms.now c.loop-atom.atom-index
          (get_or c.args.atoms.now c.loop-atom.atom-index 0) (omega arith) refl s.grows
          c.in_ok-reach.ensures.has i.has;
      least = λ r all within. c.in_ok-reach.ensures.least r
          (all c.loop-atom.atom-index 0 (omega arith)) (i.least r all within);
    }

pub returns-clause-has : goal.returns-clause-has
returns-clause-has c =
    All-from_zero (λ p. has_atom c.loop-atom.held p ≡ true) c.args.atoms.now
    (λ k less. c.loop-atom.invariant.has k (omega arith))
