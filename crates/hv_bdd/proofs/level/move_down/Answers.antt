use Rattle.std.proofs.Common.{inl, inr, subst, sym, ℕ}
use Rattle.std.specs.Global.{Vec}
use Rattle.hv_bdd.specs.Working.Fronts.{MovesTo}
use Rattle.hv_bdd.proofs.level.move_down.Goals as goal

pub returns-clause-moved : goal.returns-clause-moved
returns-clause-moved c =
    let list = c.args.side.now.nodes.now in
    let side = c.args.side.now.inside in
    let moves = subst (λ (v : Vec ℕ). MovesTo list side c.restart.new.level.moved.items v.items)
    (sym c.swap.ensures.x_after) c.in_ok-advance.ensures.moves in
    elim c.in_ok-restart.ensures.moved [
      | inl e ↦ inl (subst (λ xs. MovesTo list side xs c.swap.new.x.items) e moves)
      | inr e ↦ inr (e.0, subst (λ xs. MovesTo list side xs c.swap.new.x.items) (e.1) moves)
    ]
