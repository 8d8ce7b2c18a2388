use Rattle.std.proofs.Common.{List, ℕ, ap, option_map, subst}
use Rattle.smallvec.specs.SmallVec.{SmallVec}
use Rattle.hv_bdd.specs.Working.Search.{tuples_of}
use Rattle.hv_bdd.specs.Working.Sweeping.{IsTupleAdded}
use Rattle.hv_bdd.proofs.Explored.{items}
use Rattle.hv_bdd.proofs.Gone.{sweep_begun}
use Rattle.hv_bdd.proofs.tuple_search.Search.begin.Goals as goal

pub returns : goal.returns
returns c =
    sweep_begun c.args.self.now c.live_root.ensures.search c.clear.new.self.items
    c.clear.ensures.items (tuples_of c.add.new.set)
    (option_map (λ (t : SmallVec ℕ). t.items) c.in_ok-root.root) c.in_ok-root.ensures.root
    (subst (λ (ts : List (List ℕ)). IsTupleAdded ts
    (option_map (λ (t : SmallVec ℕ). t.items) c.in_ok-root.root) (tuples_of c.add.new.set))
    (ap items c.empty.ensures) c.in_ok-add.ensures)
