use Rattle.std.proofs.Common.{◌≡◌, ◌<◌, ◌+◌, ◌∙◌, ℕ, ap, arith, false, get_or, length, set, subst, sym, take}
use Rattle.std.proofs.Common.{true}
use Rattle.std.proofs.lemmas.List.{get_or-set_same, length-set, take_all}
use Rattle.std.proofs.lemmas.List.Elements.{All-more, All-weaker}
use Rattle.std.specs.List.{All}
use Rattle.hv_task.specs.State.{has_atom}
use Rattle.hv_bdd.proofs.Alike.{kept_flag}
use Rattle.hv_bdd.proofs.untouched.note_places.Goals as goal

pub loop-v-preserved : goal.loop-v-preserved
loop-v-preserved c =
    let places = c.loop-v.places in
    let list = c.args.list.now in
    let k = c.loop-v.v-index in
    let p : ℕ = get_or list k 0 in
    let less = c.loop-v-test.true in
    let size = c.loop-v.invariant.size in
    let bound = c.requires k 0 less in
    let within : p < length places = omega arith in
    record {
      size = ap length c.set.ensures ∙ (length-set places p true ∙ size);
      noted = subst (λ new. All (λ v. has_atom new v ≡ true) (take (k + 1) list))
          (sym c.set.ensures)
          (All-more (λ v. has_atom (set places p true) v ≡ true) list k 0 less
          (All-weaker (λ v. has_atom places v ≡ true)
          (λ v. has_atom (set places p true) v ≡ true)
          (λ v here. kept_flag places p v within here) (take k list)
          c.loop-v.invariant.noted)
          (get_or-set_same places p true false within));
    }

pub returns-clause-noted : goal.returns-clause-noted
returns-clause-noted c =
    subst (All (λ v. has_atom c.loop-v.places v ≡ true))
    (take_all c.loop-v.v-index c.args.list.now c.loop-v-test.false) c.loop-v.invariant.noted
