use Rattle.std.proofs.Common.{◌∙◌, List, ap, length, map, refl, subst, sym, ℕ}
use Rattle.std.proofs.lemmas.List.{length-map}
use Rattle.std.specs.List.Sorted.{IsStrictlyIncreasing}
use Rattle.hv_indexes.specs.Working.Mates.{AreClustersUpto}
use Rattle.hv_indexes.specs.Rows.{AreHeads, code, place_of_code}
use Rattle.hv_indexes.proofs.Mated.{clusters_are, owned_by, places_inside}
use Rattle.hv_indexes.proofs.clusters.Clusters.of.Goals as goal

pub heads_of-requires : goal.heads_of-requires
heads_of-requires c =
    subst IsStrictlyIncreasing (sym c.deref.ensures.value) c.in_ok-sort_by_keys.ensures.rises

pub of-requires-clause-occurs : goal.of-requires-clause-occurs
of-requires-clause-occurs c = c.requires.occurs

pub of-requires-clause-heads : goal.of-requires-clause-heads
of-requires-clause-heads c =
    let sorted = c.sort_by_keys.new.codes.items in
    let numbers = c.in_ok-places.ensures
    ∙ ap (λ (xs : List ℕ). map place_of_code xs) c.deref-2.ensures.value in (
      sorted,
      subst (AreHeads sorted) (sym c.deref-3.ensures.value)
          (subst (λ xs. AreHeads xs c.in_ok-heads.heads.items) c.deref.ensures.value
          c.in_ok-heads.ensures),
      sym (ap length (c.deref-4.ensures.value ∙ numbers) ∙ length-map sorted place_of_code),
    )

pub of-requires-clause-places : goal.of-requires-clause-places
of-requires-clause-places c =
    let numbers = c.in_ok-places.ensures
    ∙ ap (λ (xs : List ℕ). map place_of_code xs) c.deref-2.ensures.value in
    places_inside c.args.codes.items c.sort_by_keys.new.codes.items c.deref-4.result.now
    (length c.args.clauses.now) (c.deref-4.ensures.value ∙ numbers) c.in_ok-sort_by_keys.ensures.has c.requires.codes

pub returns-clause-are : goal.returns-clause-are
returns-clause-are c =
    let clauses = c.args.clauses.now in
    let heads = c.in_ok-heads.heads in
    let places = c.in_ok-places.places in
    let list = c.in_ok-list.list in
    let numbers = c.in_ok-places.ensures
    ∙ ap (λ (xs : List ℕ). map place_of_code xs) c.deref-2.ensures.value in
    clusters_are clauses (record { heads = heads; places = places; list = list })
    c.in_ok-heads.ensures.rises
    (places_inside c.args.codes.items c.sort_by_keys.new.codes.items places.items (length clauses) numbers
    c.in_ok-sort_by_keys.ensures.has c.requires.codes)
    (subst (λ hs. AreClustersUpto clauses hs places.items (length hs) list)
    c.deref-3.ensures.value
    (subst (λ ps. AreClustersUpto clauses c.deref-3.result.now ps (length c.deref-3.result.now)
    list) c.deref-4.ensures.value c.in_ok-list.ensures))

pub returns-clause-owned : goal.returns-clause-owned
returns-clause-owned c = λ p number few has.
    let clauses = c.args.clauses.now in
    let sorted = c.sort_by_keys.new.codes.items in
    let heads = c.in_ok-heads.heads in
    let places = c.in_ok-places.places in
    let list = c.in_ok-list.list in
    let numbers = c.in_ok-places.ensures
    ∙ ap (λ (xs : List ℕ). map place_of_code xs) c.deref-2.ensures.value in
    owned_by sorted places.items c.in_ok-sort_by_keys.ensures.rises numbers clauses
    (record { heads = heads; places = places; list = list }) refl
    (subst (λ xs. AreHeads xs heads.items) c.deref.ensures.value c.in_ok-heads.ensures)
    (sym (ap length numbers ∙ length-map sorted place_of_code))
    (subst (λ hs. AreClustersUpto clauses hs places.items (length hs) list)
    c.deref-3.ensures.value
    (subst (λ ps. AreClustersUpto clauses c.deref-3.result.now ps (length c.deref-3.result.now)
    list) c.deref-4.ensures.value c.in_ok-list.ensures))
    p number few ((c.in_ok-sort_by_keys.ensures.has (code p number)).1 has)
