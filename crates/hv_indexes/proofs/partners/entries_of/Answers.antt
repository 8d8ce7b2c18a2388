use Rattle.std.proofs.Common.{get_or, sym, arith, below_more, subst}
use Rattle.hv_sets.specs.declared.literal.Literal.{Literal}
use Rattle.hv_indexes.specs.Places.{clause_at}
use Rattle.hv_indexes.specs.Occurrences.{IsPartner, entry_or_none}
use Rattle.hv_indexes.specs.Rows.{key_of, place_of_code}
use Rattle.hv_indexes.proofs.partners.entries_of.Goals as goal

pub loop-place-preserved : goal.loop-place-preserved
loop-place-preserved c =
    let clauses = c.args.clauses.now in
    let codes = c.args.codes.now in
    let sign = c.args.sign in
    let place = c.loop-place.place in
    let code = get_or codes place 0 in
    let new = c.put_entry.new.entries.items in
    let entry = c.entry_at.result in
    let own : Literal = record { atom = c.key_in.result; positive = sign } in
    let puts = c.in_ok-put_entry.ensures in
    let here = c.entry_at.ensures in
    record {
      few = puts.few;
      each = below_more (λ k. IsPartner (clause_at clauses (place_of_code (get_or codes k 0)))
          (record { atom = key_of (get_or codes k 0); positive = sign }) (entry_or_none new k))
          place
          (λ k less. subst (IsPartner (clause_at clauses (place_of_code (get_or codes k 0)))
          (record { atom = key_of (get_or codes k 0); positive = sign }))
          (sym (puts.before k less)) (c.loop-place.invariant.each k less))
          (subst (IsPartner (clause_at clauses (place_of_code code))
          (record { atom = key_of code; positive = sign })) (sym puts.here)
          (subst (λ a. IsPartner (clause_at clauses (place_of_code code))
          (record { atom = a; positive = sign }) entry) c.key_in.ensures
          (subst (λ n. IsPartner (clause_at clauses n) own entry) c.number_in-number.ensures here)));
    }

pub returns-clause-partners : goal.returns-clause-partners
returns-clause-partners c = λ k less. c.loop-place.invariant.each k (omega (arith, less, c.loop-place-test.false))
