use Rattle.std.proofs.Common.{◌∙◌, map, ap, subst}
use Rattle.hv_indexes.specs.Rows.{AreHeads, code, place_of_code}
use Rattle.hv_clauses.proofs.literal_owners.SignedOwners.of.Goals as goal

pub returns : goal.returns
returns g c = record {
  codes = c.sort.new.codes.items;
  rises = c.sort.ensures.rises;
  heads = subst (λ cs. AreHeads cs c.in_ok-heads.heads.items) c.deref.ensures.value
      c.in_ok-heads.ensures;
  places = c.in_ok-places.ensures ∙ ap (map place_of_code) c.deref-2.ensures.value;
  few = c.in_ok-codes.ensures.few;
  all = λ k atom less owns. (c.sort.ensures.has (code atom k)).1
      (c.in_ok-codes.ensures.lists k atom less owns);
}
