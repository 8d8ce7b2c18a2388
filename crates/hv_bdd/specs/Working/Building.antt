-- Working definitions beside those of `Building`: for private contracts and proofs.
use Rattle.std.specs.Prelude.{◌++◌, [], ◌∷◌}
use Rattle.hv_bdd.specs.declared.node.Node.{Node}
use Rattle.hv_bdd.specs.declared.numbers.Triple.{Triple}
use Rattle.hv_bdd.specs.Nodes.{NodeList}

-- the node of these numbers
abbrev pub as_node : Triple → Node
as_node triple = record { atom = triple.atom; low = triple.low; high = triple.high }

-- the list with one node more
abbrev pub with_node : NodeList → Node → NodeList
with_node list node =
    record { atoms = list.atoms; order = list.order; nodes = list.nodes ++ node ∷ [] }
