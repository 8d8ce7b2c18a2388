use Rattle.std.proofs.Common.{[], ◌∷◌, arith, sym, subst}
use Rattle.std.specs.List.{All}
use Rattle.hv_sets.specs.Cubes.{SpeakBelow}
use Rattle.hv_indexes.specs.Implied.{AreImplications}
use Rattle.hv_formula.proofs.formula.implications_of.Goals as goal

pub of_lone-requires : goal.of_lone-requires
of_lone-requires c =
    let literal = c.in-Some.literal in
    let below = subst (All (SpeakBelow 2147483648)) c.in-Some.ensures c.requires.below in
    below 0 (literal ∷ []) (omega arith) 0 literal (omega arith)

pub returns-in-Some : goal.returns-in-Some
returns-in-Some c =
    subst (λ clauses. AreImplications clauses c.of_lone.result) (sym c.in-Some.ensures)
    c.of_lone.ensures
