-- Which sets list a state.
use Rattle.std.specs.Prelude.{◌≡◌, ◌<◌, ◌↔◌, ℕ, Bool, true, List, [], length, slice_get}
use Rattle.std.specs.Prelude.{slice_index_or, Some}
use Rattle.std.specs.List.{All}
use Rattle.hv_task.specs.State.{has_atom}
use Rattle.hv_sets.specs.Names.{AsksAbout}
use Rattle.hv_sets.specs.declared.operand.Operand.{Operand}
use Rattle.hv_sets.specs.declared.operand.Which.TheVariants as W
use Rattle.hv_explicit.specs.Working.Codes.{IsSame}
use Rattle.hv_explicit.specs.ListedStates.{AreRising, AreStates, ListedStates, in_set}
use Rattle.hv_explicit.specs.declared.state_owners.ListedAt.{ListedAt}

-- the state of an entry of a set that lists these
abbrev pub state_of_entry : List (List ℕ) → ListedAt → List ℕ
state_of_entry states entry = slice_index_or states entry.place []

-- the states of the sets are states of their tasks, by lists that rise
abbrev pub AreListings : List ListedStates → Type 0
AreListings sets = All (λ set. AreStates set.atoms set.states × AreRising set.states) sets

-- the entry is of a set that these operands name, asked about after the action or before it, and
-- its state has just these atoms
abbrev pub IsOwner : (ℕ → Bool) → List ListedStates → List Operand → Bool → ListedAt → Type 0
IsOwner held sets operands after entry =
    (set : ListedStates) × (slice_get sets entry.set ≡ Some set)
    × AsksAbout operands (W.Set entry.set) after
    × (entry.place < length set.states) × IsSame held (state_of_entry set.states entry)

-- some set of the store is among the operands of this side, and has the state
abbrev pub IsOwned : List ListedStates → List Operand → Bool → List Bool → Type 0
IsOwned sets operands after state =
    (number : ℕ) × AsksAbout operands (W.Set number) after × (in_set sets number state ≡ true)

-- each flag says whether the operands name the set of its number, on this side
abbrev pub AreFlagged : List Operand → Bool → List Bool → Type 0
AreFlagged operands after flags =
    (number : ℕ) → number < length flags
    → (has_atom flags number ≡ true) ↔ AsksAbout operands (W.Set number) after
