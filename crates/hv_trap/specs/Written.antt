-- The proof that is written where the initial state satisfies a conjunction of the greatest trap:
-- the states that satisfy one are dead.
use Rattle.std.specs.Prelude.{◌≡◌, ◌+◌, ℕ, false, List, [], ◌∷◌}
use Rattle.hv_task.specs.Strips.{Strips}
use Rattle.hv_sets.specs.declared.literal.Literal.{Literal}
use Rattle.hv_lines.specs.DeadLines.{dead_lines, empty_note}
use Rattle.hv_lines.specs.Drafts.{conclusion, onto, prelude}
use Rattle.hv_lines.specs.declared.line.Expr.TheVariants as E
use Rattle.hv_lines.specs.declared.line.Line.{Line}
use Rattle.hv_lines.specs.declared.line.Line.TheVariants as L
use Rattle.hv_trap.specs.Trap.{AreTrapClauses}

-- The nine lines which show that the states outside a 2CNF formula are dead, where no action leads
-- into the formula from outside, and all goal states are in it. The formula is set s, and the first
-- statement is line k.
abbrev pub trap_block : ℕ → ℕ → List (List Literal) → List Line
trap_block s k clauses =
    L.Expr s (E.Two clauses)
    ∷ L.Expr (s + 1) (E.Not s)
    ∷ dead_lines false s (s + 1) empty_note k

-- the seventeen lines of the proof by a 2CNF formula, the newest first
abbrev pub trap_proof : List (List Literal) → List Line
trap_proof clauses = onto (conclusion 5 4 4) (onto (trap_block 3 1 clauses) (onto prelude []))

-- the lines are the proof by the greatest trap
abbrev pub IsTrapProof : Strips → List Line → Type 0
IsTrapProof task lines =
    (clauses : List (List Literal)) × AreTrapClauses task clauses × (lines ≡ trap_proof clauses)
