use Rattle.std.proofs.Common.{◌∙◌, ℕ, List, map, ap, sym, subst}
use Rattle.std.proofs.lemmas.Bool.{eqb-true}
use Rattle.std.proofs.lemmas.List.{nil_from_length}
use Rattle.hv_indexes.specs.declared.implication_lists.ListedImplications.{ListedImplications}
use Rattle.hv_indexes.specs.Implied.{ImpliesNumber}
use Rattle.hv_indexes.specs.Rows.{AreHeads, AreRows, place_of_code}
use Rattle.hv_indexes.proofs.Alone.{empty_implied}
use Rattle.hv_indexes.proofs.Implying.{implied_coded}
use Rattle.hv_indexes.proofs.implication_lists.ImplicationLists.of.Goals as goal

pub returns-then-is_empty : goal.returns-then-is_empty
returns-then-is_empty c =
    empty_implied c.args.clauses.now c.in_ok-codes.codes.items c.requires.below
    c.in_ok-codes.ensures (nil_from_length c.in_ok-codes.codes.items
    (sym c.in_ok-codes.codes.ok.0 ∙ eqb-true _ 0 (sym c.is_empty.ensures ∙ c.if-is_empty.true)))

pub returns : goal.returns
returns c =
    let clauses = c.args.clauses.now in
    let codes = c.sort_by_keys.new.codes.items in
    subst (λ (l : ListedImplications). AreRows (ImpliesNumber clauses) l.heads.items
    l.numbers.items) (sym c.in_ok-new.ensures.ok) (record {
      codes = codes;
      headed = subst (λ cs. AreHeads cs c.in_ok-heads.heads.items) c.deref.ensures.value
          c.in_ok-heads.ensures;
      coded = implied_coded clauses c.in_ok-codes.codes.items codes
          c.in_ok-numbers.numbers.items c.requires.below c.in_ok-codes.ensures
          c.in_ok-sort_by_keys.ensures.rises c.in_ok-sort_by_keys.ensures.has
          (c.in_ok-numbers.ensures
          ∙ ap (λ (xs : List ℕ). map place_of_code xs) c.deref-2.ensures.value);
    })
