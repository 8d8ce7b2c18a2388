-- Why clauses are no Horn formula.
use Rattle.std.proofs.Common.{◌≡◌, List, subst, sym}
use Rattle.std.specs.Prelude.{⊤}
use Rattle.std.specs.declared.alloc.AllocError.{AllocError as NoMemory}
use Rattle.hv_sets.specs.declared.literal.Literal.{Literal}
use Rattle.hv_sets.specs.Kinds.{IsFirstOther, IsHornClause}
use Rattle.hv_horn.specs.declared.horn.HornFault.{HornFault}
use Rattle.hv_horn.specs.declared.horn.HornFault.TheVariants as H

-- the clause that is named is the first that is no Horn clause; memory may run out at any time
abbrev pub IsHornFault : List (List Literal) → HornFault → Type 0
IsHornFault clauses (H.NotHorn place) = IsFirstOther IsHornClause clauses place
IsHornFault clauses H.Memory = ⊤

-- out of memory is always right
pub memory_is_fault : (clauses : List (List Literal)) (error : NoMemory) (fault : HornFault)
    → fault ≡ H.Memory → IsHornFault clauses fault
memory_is_fault clauses error fault is = subst (IsHornFault clauses) (sym is) tt
