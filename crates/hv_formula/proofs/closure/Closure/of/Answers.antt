use Rattle.std.proofs.Common.{sym, subst}
use Rattle.hv_indexes.specs.Occurrences.{IsIndexOf}
use Rattle.hv_formula.proofs.closure.Closure.of.Goals as goal

pub returns-in-Some : goal.returns-in-Some
returns-in-Some g c =
    let closure = c.of_lone.result in
    let whole = c.of_lone.ensures.broken in
    let lone = c.of_lone.ensures.lone in
    record {
      index = subst (λ clauses. IsIndexOf clauses closure.occurs) (sym c.in-Some.ensures)
          c.of_lone.ensures.index;
      never = λ broken. absurd (cc (whole, broken));
      forced = λ _ other. absurd (cc (lone, other));
      alone = λ _. (c.in-Some.literal, c.in-Some.ensures);
    }
