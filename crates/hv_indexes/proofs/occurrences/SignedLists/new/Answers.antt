use Rattle.std.proofs.Common.{◌∙◌, ℕ, List, ◌<◌, length, get_or, sym, subst}
use Rattle.std.proofs.lemmas.Bool.{eqb-true}
use Rattle.std.proofs.lemmas.List.{nil_from_length}
use Rattle.std.specs.List.Sorted.{IsStrictlyIncreasing}
use Rattle.hv_indexes.specs.Occurrences.{AreOccurrences, ArePartners}
use Rattle.hv_indexes.specs.Rows.{AreHeads, place_of_code}
use Rattle.hv_indexes.proofs.Alone.{empty_rows}
use Rattle.hv_indexes.proofs.Gathered.{signed_coded, signed_inside}
use Rattle.hv_indexes.proofs.occurrences.SignedLists.new.Goals as goal

pub returns-then-is_empty-clause-rows : goal.returns-then-is_empty-clause-rows
returns-then-is_empty-clause-rows c =
    subst (AreOccurrences c.args.sign c.args.clauses.now) (sym c.none.ensures)
    (empty_rows c.args.sign c.args.clauses.now c.args.codes.items c.requires.few c.requires.codes
    (nil_from_length c.args.codes.items
    (sym c.args.codes.ok.0 ∙ eqb-true _ 0 (sym c.is_empty.ensures ∙ c.if-is_empty.true))))

pub heads_of-requires : goal.heads_of-requires
heads_of-requires c =
    subst IsStrictlyIncreasing (sym c.deref.ensures.value) c.in_ok-sort_by_keys.ensures.rises

pub entries_of-requires-clause-below : goal.entries_of-requires-clause-below
entries_of-requires-clause-below c = c.requires.below

pub entries_of-requires-clause-pairs : goal.entries_of-requires-clause-pairs
entries_of-requires-clause-pairs c = c.requires.pairs

pub entries_of-requires-clause-inside : goal.entries_of-requires-clause-inside
entries_of-requires-clause-inside c =
    subst (λ (cs : List ℕ). (k : ℕ) → k < length cs
    → place_of_code (get_or cs k 0) < length c.args.clauses.now) (sym c.deref-2.ensures.value)
    (signed_inside c.args.sign c.args.clauses.now c.args.codes.items
    c.sort_by_keys.new.codes.items c.requires.few c.requires.codes c.in_ok-sort_by_keys.ensures.has)

pub returns-clause-rows : goal.returns-clause-rows
returns-clause-rows c =
    let codes = c.sort_by_keys.new.codes.items in
    record {
      codes = codes;
      heads = subst (λ cs. AreHeads cs c.in_ok-heads.heads.items) c.deref.ensures.value
          c.in_ok-heads.ensures;
      coded = signed_coded c.args.sign c.args.clauses.now c.args.codes.items codes
          c.strip.new.codes.items c.requires.few c.requires.codes c.in_ok-sort_by_keys.ensures.rises
          c.in_ok-sort_by_keys.ensures.has c.strip.ensures;
      partners = subst (λ cs. ArePartners c.args.sign c.args.clauses.now cs
          c.in_ok-partners.partners.items) c.deref-2.ensures.value c.in_ok-partners.ensures.partners;
    }
