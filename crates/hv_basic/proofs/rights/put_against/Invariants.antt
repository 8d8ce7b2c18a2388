use Rattle.std.proofs.Common.{◌⊎◌, ◌∷◌, []}
use Rattle.std.specs.List.{Contains}
use Rattle.hv_sets.specs.Cubes.{opposite}
use Rattle.hv_sets.specs.declared.literal.Literal.{Literal}
use Rattle.hv_basic.specs.Sharing.{NamesLiteral}
use Rattle.hv_basic.proofs.rights.put_against.Given as goal

abbrev pub invariant-loop-place : goal.invariant-loop-place
invariant-loop-place l = (literal : Literal) → NamesLiteral l.enough literal
    → NamesLiteral l.fn.enough literal ⊎ Contains l.clauses (opposite literal ∷ [])
