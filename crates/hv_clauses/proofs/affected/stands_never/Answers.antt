use Rattle.std.proofs.Common.{◌≡◌, ◌∙◌, length, sym, arith, subst}
use Rattle.std.proofs.lemmas.Bool.{eqb-true}
use Rattle.hv_sets.specs.declared.literal.Literal.{Literal}
use Rattle.hv_indexes.specs.Signed.{StandsAs}
use Rattle.hv_clauses.proofs.affected.stands_never.Goals as goal

pub returns : goal.returns
returns c = λ is clauses index number stands.
    let has = ((c.standing.ensures.standing clauses index).row.has number).1
    (subst (λ (l : Literal). StandsAs l.positive clauses l.atom number)
    (sym c.standing.ensures.literal) stands) in
    let none : length c.standing.result.places.now ≡ 0 =
    eqb-true _ 0 (sym c.is_empty.ensures ∙ is) in
    omega (arith, has.1)
