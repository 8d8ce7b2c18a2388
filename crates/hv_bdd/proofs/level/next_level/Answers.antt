use Rattle.std.proofs.Common.{◌≡◌, subst, true, false}
use Rattle.hv_bdd.specs.Fronts.{AreBelowBound}
use Rattle.hv_bdd.specs.Working.Fronts.{Turns}
use Rattle.hv_bdd.proofs.level.next_level.Goals as goal

pub returns : goal.returns
returns c = record {
  next = record {
    same = c.in_ok-move_down.ensures.start;
    moved = c.in_ok-move_down.ensures.moved;
    turns = subst (λ xs. Turns c.args.side.now.nodes.now c.args.side.now.inside c.args.literal xs
        c.restrict.new.list.items)
        c.as_slice.ensures.value c.in_ok-restrict.ensures.turns;
    unready = c.clear-2.ensures.items;
    next_unready = λ e. let f : false ≡ true = e in absurd cc;
    moved_below = c.in_ok-move_down.ensures.below;
    next_below = subst (λ n. AreBelowBound n c.restrict.new.list.items) c.move_down.ensures.places
        c.in_ok-restrict.ensures.below;
  };
}
