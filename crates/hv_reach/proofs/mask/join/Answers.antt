use Rattle.std.proofs.Common.{◌≡◌, ◌&&◌, ◌∙◌, ◌<◌, ℕ, Bool, true, false, List, [], get_or, length}
use Rattle.std.proofs.Common.{arith, below_more, refl, subst, sym}
use Rattle.std.proofs.lemmas.List.{get_or_default}
use Rattle.hv_task.specs.State.{has_atom}
use Rattle.hv_reach.specs.Reached.{has_pair}
use Rattle.hv_reach.proofs.Sets.{All-from_zero}
use Rattle.hv_reach.proofs.mask.join.Goals as goal

-- what is in both
in_both : (a b c : Bool) → c ≡ (a && b) → c ≡ true → (a ≡ true) × (b ≡ true)
in_both true true c e h = (refl, refl)
in_both true false c e h = absurd cc
in_both false b c e h = absurd cc

from_both : (a b c : Bool) → c ≡ (a && b) → a ≡ true → b ≡ true → c ≡ true
from_both true true c e ha hb = e
from_both true false c e ha hb = absurd cc
from_both false b c e ha hb = absurd cc

pub loop-atom-preserved : goal.loop-atom-preserved
loop-atom-preserved c =
    let i = c.loop-atom.invariant in
    let rows = c.args.rows.now.items in
    let list = c.args.list.now in
    let k = c.loop-atom.atom-index in
    let old = c.loop-atom.mask in
    let new = c.meet.new.self in
    let p = get_or list k 0 in
    let below = c.requires.below k 0 (omega arith) in
    let size = c.requires.table.size in
    let less : p < length rows = omega arith in
    let row : get_or rows p [] ≡ c.index.result.now =
    get_or_default rows p [] c.index.result.now less ∙ sym c.index.ensures in
    record {
      size = c.meet.ensures.atoms ∙ i.size;
      itself = λ q h. i.itself q (in_both (has_atom old q) (has_atom c.index.result.now q)
          (has_atom new q) (c.meet.ensures.met q) h).0;
      done = below_more (λ j. (q : ℕ) → has_atom new q ≡ true
          → has_pair rows (get_or list j 0) q ≡ true) k
          (λ j lt q h. i.done j lt q (in_both (has_atom old q) (has_atom c.index.result.now q)
          (has_atom new q) (c.meet.ensures.met q) h).0)
          (λ q h. subst (λ (s : List Bool). has_atom s q ≡ true) (sym row)
          (in_both (has_atom old q) (has_atom c.index.result.now q) (has_atom new q)
          (c.meet.ensures.met q) h).1);
      complete = λ q joined. from_both (has_atom old q) (has_atom c.index.result.now q)
          (has_atom new q) (c.meet.ensures.met q) (i.complete q joined)
          (subst (λ (s : List Bool). has_atom s q ≡ true) row (joined.1 k 0 (omega arith)));
    }

pub returns-clause-sound : goal.returns-clause-sound
returns-clause-sound c = λ q h.
    let i = c.loop-atom.invariant in (
      i.itself q h,
      All-from_zero (λ p. has_pair c.args.rows.now.items p q ≡ true) c.args.list.now
          (λ k less. i.done k (omega arith) q h),
    )

pub returns-clause-complete : goal.returns-clause-complete
returns-clause-complete c = c.loop-atom.invariant.complete
