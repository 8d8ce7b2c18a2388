-- Why clauses are no 2CNF formula.
use Rattle.std.proofs.Common.{◌≡◌, List, subst, sym}
use Rattle.std.specs.Prelude.{⊤}
use Rattle.std.specs.declared.alloc.AllocError.{AllocError as NoMemory}
use Rattle.hv_sets.specs.declared.literal.Literal.{Literal}
use Rattle.hv_sets.specs.Kinds.{IsFirstOther, IsTwoClause}
use Rattle.hv_twocnf.specs.declared.two_cnf.TwoCnfFault.{TwoCnfFault}
use Rattle.hv_twocnf.specs.declared.two_cnf.TwoCnfFault.TheVariants as F

-- the clause that is named is the first that has more than two different literals; out of memory
-- may come at any time
abbrev pub IsTwoCnfFault : List (List Literal) → TwoCnfFault → Type 0
IsTwoCnfFault clauses (F.NotTwo place) = IsFirstOther IsTwoClause clauses place
IsTwoCnfFault clauses F.Memory = ⊤

-- out of memory is always right
pub memory_is_fault : (clauses : List (List Literal)) (error : NoMemory) (fault : TwoCnfFault)
    → fault ≡ F.Memory → IsTwoCnfFault clauses fault
memory_is_fault clauses error fault is = subst (IsTwoCnfFault clauses) (sym is) tt
