-- The places of a list are places of the order.
use Rattle.std.proofs.Common.{◌≡◌, ℕ, ◌<◌, ◌∙◌, Bool, List, Option, None, Some, length, sym, arith}
use Rattle.std.proofs.Common.{inl, inr}
use Rattle.std.proofs.lemmas.Bool.{cases_lt}
use Rattle.std.specs.Prelude.{IfSome}
use Rattle.hv_task.specs.Atoms.{IsNext}
use Rattle.hv_task.specs.State.{names_atom}
use Rattle.hv_task.proofs.Listing.{within_state}
use Rattle.hv_bdd.specs.Nodes.{NodeList}
use Rattle.hv_bdd.specs.Order.{IsOrder, atom_at}
use Rattle.hv_bdd.specs.Working.Search.{ListsPlaces}
use Rattle.hv_bdd.proofs.Placed.{atom_past}

-- the next of the places is one of those that there are
pub place_within : (list : NodeList) → IsOrder list → (held : List Bool)
    → length held ≡ list.atoms → (places : List ℕ) → ListsPlaces list held places
    → (from : ℕ) (next : Option ℕ) → IsNext (names_atom places) from next
    → IfSome next (λ v. v < list.atoms)
place_within list is held size places lists from None next = tt
place_within list is held size places lists from (Some v) next =
    elim (cases_lt v list.atoms) [
      | inl less ↦ less
      | inr past ↦
          let beyond = atom_past list is v past in
          let less = within_state held (atom_at list v) (sym (lists.names v) ∙ next.1) in
          absurd (omega arith)
    ]
