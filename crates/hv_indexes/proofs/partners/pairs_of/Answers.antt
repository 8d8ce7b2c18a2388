use Rattle.std.proofs.Common.{◌≡◌, ◌∙◌, ◌++◌, ◌∷◌, [], length, get_or, ap, arith, inl, inr}
use Rattle.std.proofs.Common.{sym, subst}
use Rattle.std.proofs.lemmas.Bool.{cases_lt}
use Rattle.std.proofs.lemmas.List.{get_or_append_left, get_or_push, length-append}
use Rattle.std.proofs.lemmas.Option.{get_or_from_slice_get}
use Rattle.hv_sets.specs.Cubes.{SpeakBelow}
use Rattle.hv_indexes.specs.Places.{clause_at}
use Rattle.hv_indexes.specs.Working.Pairs.{IsEntryPair}
use Rattle.hv_indexes.proofs.partners.pairs_of.Goals as goal

pub entries_in-requires : goal.entries_in-requires
entries_in-requires c =
    subst (SpeakBelow _)
    (get_or_from_slice_get c.args.clauses.now c.loop-place.place c.get.result.now [] c.get.ensures)
    (c.requires c.loop-place.place []
    (omega (arith, c.loop-place-test.true, c.after_last_pair-upto.ensures)))

pub loop-place-preserved : goal.loop-place-preserved
loop-place-preserved c =
    let clauses = c.args.clauses.now in
    let place = c.loop-place.place in
    let old = c.loop-place.pairs.items in
    let new = c.push.new.self.items in
    let pair = c.entries_in.result in
    let items : new ≡ old ++ pair ∷ [] = c.in_ok-push.ensures.items in
    let size = c.loop-place.invariant.size in
    let long = ap length items in
    let more = length-append old (pair ∷ []) in
    let here = subst (λ ls. IsEntryPair ls pair)
    (sym (get_or_from_slice_get clauses place c.get.result.now [] c.get.ensures))
    c.entries_in.ensures in
    record {
      size = omega arith;
      are = λ k d less. elim (cases_lt k (length old)) [
        | inl before ↦ subst (IsEntryPair (clause_at clauses k))
            (sym (ap (λ xs. get_or xs k d) items
            ∙ get_or_append_left old (pair ∷ []) d k before))
            (c.loop-place.invariant.are k d before)
        | inr past ↦
            let last : length old ≡ k = omega arith in
            let at : place ≡ k = omega arith in
            subst (IsEntryPair (clause_at clauses k))
            (sym (ap (λ xs. get_or xs k d) items ∙ get_or_push old pair d k last))
            (subst (λ j. IsEntryPair (clause_at clauses j) pair) at here)
      ];
    }

pub returns : goal.returns
returns c = c.loop-place.invariant.are
