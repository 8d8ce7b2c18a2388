-- The printed words of kinds and limits.
use Rattle.std.specs.Prelude.{ℕ, List, codes}
use Rattle.hv_bdd.specs.declared.fault.NodeKind.{NodeKind}
use Rattle.hv_bdd.specs.declared.fault.NodeKind.TheVariants as K
use Rattle.hv_bdd.specs.declared.fault.NodeLimit.{NodeLimit}
use Rattle.hv_bdd.specs.declared.fault.NodeLimit.TheVariants as W

-- the word of a kind of place
abbrev pub node_kind_word : NodeKind → List ℕ
node_kind_word K.Permutation = codes "permutation"
node_kind_word K.Header = codes "header"
node_kind_word K.Node = codes "node"
node_kind_word K.Atom = codes "atom"
node_kind_word K.Child = codes "child"
node_kind_word K.Order = codes "order"
node_kind_word K.SameChildren = codes "same_children"
node_kind_word K.Twin = codes "twin"
node_kind_word K.End = codes "end"

-- the word of a limit
abbrev pub node_limit_word : NodeLimit → List ℕ
node_limit_word W.Nodes = codes "nodes"
node_limit_word W.Long = codes "long"
