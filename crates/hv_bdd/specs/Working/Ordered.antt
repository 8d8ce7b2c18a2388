-- Orders of node lists: the rising one is one, and whether an order is one doesn't hang on the
-- nodes.
use Rattle.std.proofs.Common.{◌≡◌, ℕ, List, Option, None, refl}
use Rattle.hv_bdd.specs.declared.node.Node.{Node}
use Rattle.hv_bdd.specs.Nodes.{NodeList}
use Rattle.hv_bdd.specs.Order.{IsOrder, atom_at, place}
use Rattle.hv_bdd.specs.Reduced.{IsReduced}

-- the order of a reduced list is one
pub order_of : (list : NodeList) → IsReduced list → IsOrder list
order_of list reduced = reduced.ordered

-- the rising order is one
pub rising_order : (atoms : ℕ) (nodes : List Node)
    → IsOrder (record { atoms = atoms; order = None; nodes = nodes })
unfolding place atom_at
rising_order atoms nodes = record {
  size = λ order e. absurd cc;
  atom_in = λ v less. less;
  place_in = λ a less. less;
  there = λ a less. refl;
  back = λ v less. refl;
}

-- places don't hang on the nodes
pub same_place : (atoms : ℕ) (order : Option (List ℕ)) (old new : List Node) (a : ℕ)
    → place (record { atoms = atoms; order = order; nodes = new }) a
    ≡ place (record { atoms = atoms; order = order; nodes = old }) a
unfolding place
same_place atoms order old new a = refl

-- so an order of one list is one of each list of as many atoms
pub same_order : (atoms : ℕ) (order : Option (List ℕ)) (old new : List Node)
    → IsOrder (record { atoms = atoms; order = order; nodes = old })
    → IsOrder (record { atoms = atoms; order = order; nodes = new })
unfolding place atom_at
same_order atoms order old new o = record {
  size = o.size;
  atom_in = o.atom_in;
  place_in = o.place_in;
  there = o.there;
  back = o.back;
}
