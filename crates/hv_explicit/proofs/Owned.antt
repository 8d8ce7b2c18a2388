-- Why an entry shows a set that lists the state.
use Rattle.std.proofs.Common.{◌≡◌, ◌∙◌, ◌↔◌, ℕ, Bool, true, List, [], ◌∷◌, ◌++◌, Some}
use Rattle.std.proofs.Common.{length, sym, ap, subst}
use Rattle.std.proofs.lemmas.List.Elements.{All-contains, All-push}
use Rattle.std.proofs.lemmas.Option.{get_or_from_slice_get, slice_get_within}
use Rattle.std.specs.List.{slice_get}
use Rattle.hv_sets.specs.Truth.{in_states}
use Rattle.hv_sets.specs.declared.operand.Operand.{Operand}
use Rattle.hv_explicit.specs.Codes.{IsBelow, IsSetOf}
use Rattle.hv_explicit.specs.Working.Codes.{HasListed}
use Rattle.hv_explicit.specs.ListedStates.{AreListsOver, AreRising, AreStates, ListedStates}
use Rattle.hv_explicit.specs.ListedStates.{in_found, in_listing}
use Rattle.hv_explicit.specs.Working.Owners.{AreListings, IsOwned, IsOwner}
use Rattle.hv_explicit.specs.declared.state_owners.ListedAt.{ListedAt}
use Rattle.hv_explicit.proofs.LookUp.{listed_decides}
use Rattle.hv_explicit.proofs.Anchored.{over_at}

listed_at : (sets : List ListedStates) (number : ℕ) (set : ListedStates) → AreListings sets
    → slice_get sets number ≡ Some set
    → AreStates set.atoms set.states × AreRising set.states
listed_at sets number set listed at =
    All-contains (λ (s : ListedStates). AreStates s.atoms s.states × AreRising s.states) sets set
    listed
    (number, slice_get_within sets number set at, get_or_from_slice_get sets number set set at)

module _ (n : ℕ) (sets : List ListedStates) (operands : List Operand) (after : Bool)
    (over : AreListsOver sets n) (listed : AreListings sets)
    (held : ℕ → Bool) (state : List Bool) (size : length state ≡ n) (below : IsBelow n held)
    (agree : IsSetOf held state) where
  -- whether a set lists the state
  in_set_is : (number : ℕ) (set : ListedStates) → slice_get sets number ≡ Some set
      → (in_listing set state ≡ true) ↔ HasListed held set.states
  in_set_is number set at =
      let same : set.atoms ≡ n = over_at sets n number set over at in
      let are : AreStates n set.states = subst
      (λ m. AreStates m set.states) same (listed_at sets number set listed at).0 in
      subst (λ m. (in_states m set.states state ≡ true) ↔ HasListed held set.states) (sym same)
      (listed_decides n held state size below agree set.states are)

  -- an entry that was met shows a set
  pub owned_from : (entry : ListedAt) → IsOwner held sets operands after entry
      → IsOwned sets operands after state
  owned_from entry owner = (
    entry.set,
    owner.2,
    ap (λ s. in_found s state) owner.1
        ∙ (in_set_is entry.set owner.0 owner.1).1 (entry.place, owner.3, owner.4),
  )

-- the sets of the store with one more
pub listed_more : (sets : List ListedStates) (last : ListedStates) → AreListings sets
    → AreStates last.atoms last.states × AreRising last.states → AreListings (sets ++ last ∷ [])
listed_more sets last listed new =
    All-push (λ (s : ListedStates). AreStates s.atoms s.states × AreRising s.states) sets last
    listed new
