-- The lists that a formula keeps.
use Rattle.std.specs.Prelude.{⊤, List}
use Rattle.hv_sets.specs.declared.literal.Literal.{Literal}
use Rattle.hv_formula.specs.declared.kept_lists.KeptLists.{KeptLists}
use Rattle.hv_formula.specs.declared.kept_lists.KeptLists.TheVariants as L
use Rattle.hv_indexes.specs.declared.implication_lists.ImplicationLists.{ImplicationLists}
use Rattle.hv_indexes.specs.Implied.{AreImplications}

-- these are the lists of the clauses that are kept in this way beside where their literals stand
abbrev pub AreListsOf : KeptLists → List (List Literal) → ImplicationLists → Type 0
AreListsOf L.Negative clauses lists = ⊤
AreListsOf L.Implied clauses lists = AreImplications clauses lists
