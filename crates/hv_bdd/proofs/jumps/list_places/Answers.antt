use Rattle.std.proofs.Common.{◌≡◌, ◌≤◌, ◌∙◌, ◌++◌, ◌+◌, ◌∷◌, [], ap, append_assoc, append-nil}
use Rattle.std.proofs.Common.{ℕ, List, drop, length, map, sym}
use Rattle.std.proofs.Math.ListN.{drop_of_length-le}
use Rattle.std.proofs.lemmas.List.{at_drop_more}
use Rattle.hv_bdd.specs.Nodes.{NodeList}
use Rattle.hv_bdd.specs.Order.{place}
use Rattle.hv_bdd.specs.Working.Ordered.{order_of}
use Rattle.hv_bdd.proofs.Jumped.{sorted_below, sorted_held}
use Rattle.hv_bdd.proofs.jumps.list_places.Goals as goal

pub loop-atom-preserved : goal.loop-atom-preserved
loop-atom-preserved c =
    let list = c.args.nodes.now in
    let held = c.args.held.now in
    let places = c.loop-atom.places.items in
    let i = c.loop-atom.atom-index in
    let left = map (place list) (drop (i + 1) held) in
    ap (λ ps. ps ++ left) c.in_ok-push.ensures.items
    ∙ (append_assoc places (c.place.result ∷ []) left
    ∙ (ap (λ p. places ++ p ∷ left) c.place.ensures
    ∙ (sym (at_drop_more (λ rest. places ++ map (place list) rest) held i 0
    c.loop-atom-test.true)
    ∙ c.loop-atom.invariant)))

placed : (list : NodeList) (held places : List ℕ) (i : ℕ) → length held ≤ i
    → places ++ map (place list) (drop i held) ≡ map (place list) held
    → places ≡ map (place list) held
placed list held places i all is =
    sym (append-nil places)
    ∙ (sym (ap (λ left. places ++ map (place list) left) (drop_of_length-le held all)) ∙ is)

pub returns-clause-below : goal.returns-clause-below
returns-clause-below c =
    let list = c.args.nodes.now in
    let held = c.args.held.now in
    let places = c.loop-atom.places.items in
    sorted_below list (order_of list c.atoms-atoms.ensures.reduced) held places
    c.sort_unstable.new.self.items c.requires
    (placed list held places c.loop-atom.atom-index c.loop-atom-test.false
    c.loop-atom.invariant)
    c.sort_unstable.ensures.permutation

pub returns-clause-held : goal.returns-clause-held
returns-clause-held c =
    let list = c.args.nodes.now in
    let held = c.args.held.now in
    let places = c.loop-atom.places.items in
    sorted_held list (order_of list c.atoms-atoms.ensures.reduced) held places
    c.sort_unstable.new.self.items c.requires
    (placed list held places c.loop-atom.atom-index c.loop-atom-test.false
    c.loop-atom.invariant)
    c.sort_unstable.ensures.permutation c.sort_unstable.ensures.sorted
