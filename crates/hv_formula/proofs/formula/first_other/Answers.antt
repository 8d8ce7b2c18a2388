use Rattle.std.proofs.Common.{◌≡◌, arith, [], inl, inr, refl, subst, sym}
use Rattle.std.proofs.lemmas.Bool.{cases_lt}
use Rattle.std.proofs.lemmas.Option.{get_or_from_slice_get}
use Rattle.std.proofs.lemmas.List.Elements.{All-from_get_or}
use Rattle.hv_formula.proofs.formula.first_other.Goals as goal

pub returns-then-not-takes : goal.returns-then-not-takes
returns-then-not-takes g c =
    let same = sym (get_or_from_slice_get c.args.clauses.now c.loop-place.place c.get.result.now []
    c.get.ensures) in
    let end = c.len-place-end.ensures in
    record {
      among = omega arith;
      other = λ two. let no = c.if-not-takes.ensures.1
          (subst g.K.ClauseKind.is_of (sym same) two) in cc;
      before = c.loop-place.invariant;
    }

pub loop-place-preserved : goal.loop-place-preserved
loop-place-preserved g c k less =
    elim (cases_lt k c.loop-place.place) [
      | inl before ↦ c.loop-place.invariant k before
      | inr last ↦
          let same = sym (get_or_from_slice_get c.args.clauses.now c.loop-place.place
          c.get.result.now [] c.get.ensures) in
          let e : k ≡ c.loop-place.place = omega arith in
          rw e (subst g.K.ClauseKind.is_of same (c.if-not-takes.ensures.0 refl))
    ]

pub returns : goal.returns
returns g c = All-from_get_or g.K.ClauseKind.is_of c.args.clauses.now []
    (λ k within. let end = c.len-place-end.ensures in c.loop-place.invariant k (omega arith))
