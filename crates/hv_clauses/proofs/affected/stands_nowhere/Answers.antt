use Rattle.std.proofs.Common.{◌∙◌, sym, subst}
use Rattle.std.proofs.lemmas.Bool.{eqb-true}
use Rattle.hv_indexes.specs.Occurrences.{AreOccurrences, lent_rows}
use Rattle.hv_indexes.proofs.Standings.{none_stands}
use Rattle.hv_clauses.proofs.affected.stands_nowhere.Goals as goal

pub returns : goal.returns
returns c = λ is clauses index.
    none_stands c.args.sign clauses (lent_rows c.signed.result)
    (subst (AreOccurrences c.args.sign clauses) (sym c.signed.ensures) (index c.args.sign))
    (eqb-true _ 0 (sym c.is_empty.ensures ∙ is))
