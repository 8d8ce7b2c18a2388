use Rattle.std.proofs.Common.{◌∙◌, ◌+◌, ◌≤◌, [], ap, sym, subst, arith, drop, length, map, set, true}
use Rattle.std.proofs.Math.ListN.{drop_of_length-le}
use Rattle.std.proofs.lemmas.List.{at_drop_more, length-set}
use Rattle.hv_task.specs.State.{put_all, state_of}
use Rattle.hv_task.proofs.Places.{length-state_of}
use Rattle.hv_bdd.specs.Order.{place}
use Rattle.hv_bdd.specs.Working.Ordered.{order_of}
use Rattle.hv_bdd.specs.Working.Search.{ArePlaced}
use Rattle.hv_bdd.proofs.Placed.{listed_less, placed_state}
use Rattle.hv_bdd.proofs.diagrams.Diagrams.placed.Goals as goal

pub loop-atom-init : goal.loop-atom-init
loop-atom-init c =
    let list = c.args.self.now in
    let named = c.listed-atom-items.result.now in
    let atoms = c.atoms.ensures.atoms in
    let empty = c.in_ok-placed.ensures in
    record {
      size = ap length empty ∙ length-state_of c.atoms.result [] ∙ atoms;
      rest = ap (put_all true (map (place list) named)) (empty ∙ ap (λ n. state_of n []) atoms);
    }

pub place-requires : goal.place-requires
place-requires c =
    listed_less c.args.self.now (order_of c.args.self.now c.atoms.ensures.reduced)
    c.args.held.now c.requires c.listed-atom-items.result.now c.listed-atom-items.ensures
    c.loop-atom.atom-index c.loop-atom-test.true

pub set-requires : goal.set-requires
set-requires c =
    let list = c.args.self.now in
    let order = order_of list c.atoms.ensures.reduced in
    let named = c.listed-atom-items.result.now in
    let within = order.place_in _
    (listed_less list order c.args.held.now c.requires named c.listed-atom-items.ensures
    c.loop-atom.atom-index c.loop-atom-test.true) in
    let at = c.place.ensures in
    let size = c.loop-atom.invariant.size in
    omega arith

pub loop-atom-preserved : goal.loop-atom-preserved
loop-atom-preserved c =
    let list = c.args.self.now in
    let named = c.listed-atom-items.result.now in
    let i = c.loop-atom.atom-index in
    let placed = c.loop-atom.placed in
    let put = c.set.ensures in
    record {
      size = ap length put ∙ length-set placed c.place.result true ∙ c.loop-atom.invariant.size;
      rest = ap (put_all true (map (place list) (drop (i + 1) named)))
          (put ∙ ap (λ v. set placed v true) c.place.ensures)
          ∙ sym (at_drop_more (λ left. put_all true (map (place list) left) placed) named i 0
          c.loop-atom-test.true)
          ∙ c.loop-atom.invariant.rest;
    }

pub returns : goal.returns
returns c =
    let list = c.args.self.now in
    let named = c.listed-atom-items.result.now in
    let i = c.loop-atom.atom-index in
    let placed = c.loop-atom.placed in
    let all : length named ≤ i = let end = c.loop-atom-test.false in omega arith in
    subst (ArePlaced list c.args.held.now)
    (sym (ap (λ left. put_all true (map (place list) left) placed)
    (sym (drop_of_length-le named all))
    ∙ c.loop-atom.invariant.rest))
    (placed_state list (order_of list c.atoms.ensures.reduced) c.args.held.now c.requires named
    c.listed-atom-items.ensures)
