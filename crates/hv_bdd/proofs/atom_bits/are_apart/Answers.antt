use Rattle.std.proofs.Common.{◌≡◌, ◌<◌, ◌∙◌, ℕ, ap, arith, false, get_or, subst, sym, take}
use Rattle.std.proofs.lemmas.List.{take_all, take_more}
use Rattle.std.proofs.lemmas.List.Elements.{All-push}
use Rattle.std.specs.List.{All}
use Rattle.hv_task.specs.State.{has_atom}
use Rattle.hv_bdd.specs.Order.{place}
use Rattle.hv_bdd.proofs.Alike.{apart_from}
use Rattle.hv_bdd.proofs.atom_bits.are_apart.Goals as goal

pub loop-atom-preserved : goal.loop-atom-preserved
loop-atom-preserved c =
    let list = c.args.nodes.now in
    let places = c.args.places.now in
    let i = c.loop-atom.atom-index in
    let atoms = c.atoms-atoms.ensures.atoms in
    let less = c.if-atom-atoms.false in
    subst (All (λ (a : ℕ). (a < list.atoms) × (has_atom places (place list a) ≡ false)))
    (sym (take_more c.args.list.now i 0 c.loop-atom-test.true))
    (All-push (λ (a : ℕ). (a < list.atoms) × (has_atom places (place list a) ≡ false))
    (take i c.args.list.now) (get_or c.args.list.now i 0) c.loop-atom.invariant (
      omega arith,
      ap (has_atom places) (sym c.place.ensures) ∙ (sym c.has.ensures ∙ c.if-has.false),
    ))

pub returns-clause-apart : goal.returns-clause-apart
returns-clause-apart c =
    let list = c.args.nodes.now in
    let places = c.args.places.now in
    λ _.
    apart_from list c.atoms-atoms.ensures.reduced places c.args.list.now
    (subst (All (λ (a : ℕ). (a < list.atoms) × (has_atom places (place list a) ≡ false)))
    (take_all c.loop-atom.atom-index c.args.list.now c.loop-atom-test.false)
    c.loop-atom.invariant)
