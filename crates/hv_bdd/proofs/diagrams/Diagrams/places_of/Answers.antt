use Rattle.std.proofs.Common.{◌∙◌, sym}
use Rattle.hv_task.specs.State.{has_atom}
use Rattle.hv_task.proofs.Listing.{within_state}
use Rattle.hv_bdd.proofs.Listed.{is_named}
use Rattle.hv_bdd.proofs.diagrams.Diagrams.places_of.Goals as goal

pub returns : goal.returns
returns c =
    let flags = c.in_ok-flags.flags in
    let listed = c.in_ok-list_atoms.ensures.listed in
    let places = c.list_atoms.new.held.items in
    record {
      rises = listed.rises;
      names = λ v.
          sym (is_named places v (has_atom flags v)
          (λ t. (listed.has v).1 (within_state flags v t, t))
          (λ among. ((listed.has v).0 among).1))
          ∙ c.in_ok-flags.ensures.has v;
    }
