-- What is asked of each action: whether it leads from a state outside the one formula of a store
-- into it.
use Rattle.std.specs.Prelude.{◌≡◌, Bool, true, false, List, [], ◌∷◌, length}
use Rattle.hv_task.specs.Strips.{Strips, atoms}
use Rattle.hv_sets.specs.declared.literal.Literal.{Literal}
use Rattle.hv_sets.specs.declared.operand.Operand.{Operand}
use Rattle.hv_sets.specs.declared.operand.Which.TheVariants as W
use Rattle.hv_clauses.specs.Store.{AreOver, formula_at}
use Rattle.hv_trap.specs.declared.trap_query.TrapQuery.{TrapQuery}

-- the formula, asked about after the action (true) or before it (false)
abbrev pub formula_asked : Bool → Operand
formula_asked after = record { which = W.Set 0; id = 0; after = after }

-- there is one formula over the states of the task, and the query asks whether the state after an
-- action is in it, and the one before is not
pub record IsAsking (task : Strips) (asking : TrapQuery) : Type 0 where
  pub one : length asking.store ≡ 1
  pub over : AreOver asking.store (atoms task)
  pub positive : asking.query.positive ≡ formula_asked true ∷ []
  pub negative : asking.query.negative ≡ formula_asked false ∷ []

-- the clauses of the formula
abbrev pub clauses_asked : TrapQuery → List (List Literal)
clauses_asked asking = formula_at asking.store 0
