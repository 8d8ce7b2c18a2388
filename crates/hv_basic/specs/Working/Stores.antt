-- Working definitions beside those of `Stores`: for private contracts and proofs.
use Rattle.hv_lines.specs.declared.line.Expr.{Expr}
use Rattle.hv_lines.specs.declared.line.Expr.TheVariants as E

-- the set is none of the formulas that are put into a store
abbrev pub IsUnstored : Expr → Type 0
IsUnstored (E.Constant constant) = Unit {0}
IsUnstored (E.Horn clauses) = ⊥
IsUnstored (E.Dual clauses) = ⊥
IsUnstored (E.Two clauses) = ⊥
IsUnstored (E.States states) = ⊥
IsUnstored (E.Node node) = Unit {0}
IsUnstored (E.Not set) = Unit {0}
IsUnstored (E.And left right) = Unit {0}
IsUnstored (E.Or left right) = Unit {0}
IsUnstored (E.After set acts) = Unit {0}
IsUnstored (E.Before set acts) = Unit {0}
