use Rattle.std.proofs.Common.{◌≡◌, ◌∙◌, ap, arith, below_more, false, length, true}
use Rattle.std.proofs.lemmas.List.{get_or-set_other, get_or-set_same, length-replicate, length-set}
use Rattle.hv_task.specs.State.{has_atom}
use Rattle.hv_indexes.proofs.clusters.full_state.Goals as goal

pub loop-atom-init : goal.loop-atom-init
loop-atom-init c = record {
  size = ap length c.in_ok-full.ensures ∙ length-replicate c.args.atoms false;
  holds = λ q less. absurd (omega (arith, less));
}

pub loop-atom-preserved : goal.loop-atom-preserved
loop-atom-preserved c =
    let full = c.loop-atom.full in
    let atom = c.loop-atom.atom in
    let size = c.loop-atom.invariant.size in
    let within = c.loop-atom-test.true in
    record {
      size = ap length c.set.ensures ∙ (length-set full atom true ∙ size);
      holds = below_more (λ q. has_atom c.set.new.self q ≡ true) atom
          (λ q less. ap (λ s. has_atom s q) c.set.ensures
          ∙ (get_or-set_other full atom q true false (λ same. omega (arith, same, less))
          ∙ c.loop-atom.invariant.holds q less))
          (ap (λ s. has_atom s atom) c.set.ensures
          ∙ get_or-set_same full atom true false (omega (arith, size, within)));
    }

pub returns : goal.returns
returns c = λ q less.
    let size = c.loop-atom.invariant.size in
    c.loop-atom.invariant.holds q (omega (arith, less, size, c.loop-atom-test.false))
