use Rattle.std.proofs.Common.{◌≡◌, ◌∙◌, ◌<◌, [], length, get_or, sym, ap, subst, Some}
use Rattle.std.proofs.lemmas.Option.{get_or_from_slice_get}
use Rattle.hv_explicit.specs.Working.Codes.{IsListCode}
use Rattle.hv_explicit.specs.Working.Listing.{first_at}
use Rattle.hv_explicit.proofs.firsts.coded_state.Goals as goal

pub invariant_of-result : goal.invariant_of-result
invariant_of-result c =
    let states = c.args.states.now in
    let firsts = c.args.firsts.now in
    let entry = c.in-Some.entry in
    let found = subst (λ xs. (entry < length xs) × (get_or xs entry 0 ≡ c.args.place))
    c.as_slice.ensures.value c.in-Some.ensures in
    let here = get_or_from_slice_get states c.args.place c.slice-atoms.result.now []
    (c.get.ensures.state ∙ ap Some (sym c.slice-atoms.ensures.atoms)) in
    record {
      rises = c.slice-atoms.ensures.rises;
      coded = subst (λ xs. IsListCode firsts.key xs c.get-2.result)
          (ap (λ k. get_or states k []) found.1 ∙ here)
          (subst (λ code. IsListCode firsts.key (first_at states firsts.places.items entry) code)
          (sym c.get-2.ensures) (c.requires.index.code entry found.0));
    }

pub returns-clause-atoms : goal.returns-clause-atoms
returns-clause-atoms c =
    sym (get_or_from_slice_get c.args.states.now c.args.place c.slice-atoms.result.now []
    (c.get.ensures.state ∙ ap Some (sym c.slice-atoms.ensures.atoms)))
