-- Why clauses are no dual Horn formula.
use Rattle.std.proofs.Common.{◌≡◌, List, subst, sym}
use Rattle.std.specs.Prelude.{⊤}
use Rattle.std.specs.declared.alloc.AllocError.{AllocError as NoMemory}
use Rattle.hv_sets.specs.declared.literal.Literal.{Literal}
use Rattle.hv_sets.specs.Kinds.{IsDualHornClause, IsFirstOther}
use Rattle.hv_horn.specs.declared.dual_horn.DualHornFault.{DualHornFault}
use Rattle.hv_horn.specs.declared.dual_horn.DualHornFault.TheVariants as D

-- the clause that is named is the first that is no dual Horn clause; memory may run out at any
-- time
abbrev pub IsDualHornFault : List (List Literal) → DualHornFault → Type 0
IsDualHornFault clauses (D.NotDual place) = IsFirstOther IsDualHornClause clauses place
IsDualHornFault clauses D.Memory = ⊤

-- out of memory is always right
pub memory_is_fault : (clauses : List (List Literal)) (error : NoMemory) (fault : DualHornFault)
    → fault ≡ D.Memory → IsDualHornFault clauses fault
memory_is_fault clauses error fault is = subst (IsDualHornFault clauses) (sym is) tt
