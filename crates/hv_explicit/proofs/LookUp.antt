-- Why a walk over the entries of one code finds a listed state.
use Rattle.std.proofs.Common.{◌≡◌, ℕ, ◌+◌, ◌<◌, ◌↔◌, ◌∙◌, Bool, true, List, [], ◌∷◌}
use Rattle.std.proofs.Common.{◌++◌, length, get_or, Some, refl, sym, ap, subst, arith, inl, inr}
use Rattle.std.proofs.lemmas.Bool.{cases_lt}
use Rattle.std.proofs.lemmas.Bool.Decides.{same_from_decides, Decides-by_or}
use Rattle.std.proofs.lemmas.List.{get_or_default, get_or_push, get_or_append_left, length_push}
use Rattle.std.proofs.lemmas.List.Elements.{All-contains}
use Rattle.std.proofs.lemmas.Option.{get_or_from_slice_get, slice_get_within}
use Rattle.std.specs.List.{slice_get}
use Rattle.std.specs.List.Sorted.{IsStrictlyIncreasing}
use Rattle.hv_task.specs.State.{AreBelow, has_atom, names_atom, state_of}
use Rattle.hv_task.proofs.Places.{beq-Decides, has_atom-state_of, length-state_of}
use Rattle.hv_task.proofs.Places.{names_atom-Decides, same_state}
use Rattle.hv_task.proofs.Next.{unnamed}
use Rattle.hv_task.proofs.Rising.{same_rising}
use Rattle.hv_sets.specs.Truth.{in_states, is_same}
use Rattle.hv_explicit.specs.Codes.{IsBelow, IsSetOf}
use Rattle.hv_explicit.specs.Working.Codes.{HasListed, IsCode, IsListCode, IsSame}
use Rattle.hv_explicit.specs.ListedStates.{AreRising, AreStates}
use Rattle.hv_explicit.specs.Working.Listing.{AreFirsts, IsEnteredState, IsIndex, first_at}
use Rattle.hv_explicit.specs.Working.Places.{code_at}
use Rattle.hv_explicit.proofs.Coded.{from_same, into_same}
use Rattle.hv_explicit.proofs.Totals.{is_list_code, one_code}

pub here : (states : List (List ℕ)) (k : ℕ) (held : List ℕ) → slice_get states k ≡ Some held
    → get_or states k [] ≡ held
here states k held at = get_or_from_slice_get states k held [] at

-- a state of the set is entered under the code of the set
pub coded_at : (key : ℕ) (states : List (List ℕ)) (firsts codes : List ℕ) (set : ℕ → Bool)
    (code e : ℕ)
    → IsIndex key codes firsts states → IsCode key set code → e < length firsts
    → IsSame set (first_at states firsts e) → code_at codes e ≡ code
coded_at key states firsts codes set code e index is less same =
    one_code key (names_atom (first_at states firsts e)) set (code_at codes e) code
    (is_list_code key (code_at codes e) (first_at states firsts e) (index.code e less)) is
    (λ p. sym (same p))

-- two lists that rise and name the same atoms are one
pub same_lists : (xs ys : List ℕ) → IsStrictlyIncreasing xs → IsStrictlyIncreasing ys
    → IsSame (names_atom xs) ys → xs ≡ ys
same_lists xs ys rises_x rises_y same =
    same_rising xs ys rises_x rises_y
    (λ a c. from_same (names_atom xs) ys a same ((names_atom-Decides xs a).1 c))
    (λ a c. (names_atom-Decides xs a).0 (into_same (names_atom xs) ys a same c))

module _ (states : List (List ℕ)) (firsts : List ℕ) (place : ℕ) (held : List ℕ)
    (at : slice_get states place ≡ Some held) where
  -- the state is entered already
  pub firsts_there : AreRising states → AreFirsts states firsts place
      → IsEnteredState (names_atom held) states firsts → AreFirsts states firsts (place + 1)
  firsts_there rise so_far found = record {
    within = λ e less. let below = so_far.within e less in omega arith;
    each = λ k less. elim (cases_lt k place) [
      | inl before ↦ so_far.each k before
      | inr upto ↦
          let last : place ≡ k = omega arith in
          let is = here states place held at in
          let within = slice_get_within states place held at in
          let below = so_far.within found.0 found.1 in
          let mine : IsStrictlyIncreasing held = subst IsStrictlyIncreasing is
          (rise place [] within) in
          let other = rise (get_or firsts found.0 0) [] (omega arith) in (
            found.0,
            found.1,
            sym (same_lists held (first_at states firsts found.0) mine other
                found.2) ∙ (sym is ∙ ap (λ j. get_or states j []) last),
          )
    ];
  }

  -- an entry that is there stays
  first_kept : (e : ℕ) → e < length firsts
      → first_at states (firsts ++ place ∷ []) e ≡ first_at states firsts e
  first_kept e less = ap (λ j. get_or states j []) (get_or_append_left firsts (place ∷ []) 0 e less)

  first_new : (e : ℕ) → e ≡ length firsts → first_at states (firsts ++ place ∷ []) e ≡ held
  first_new e last = ap (λ j. get_or states j []) (get_or_push firsts place 0 e (sym last))
      ∙ here states place held at

  -- it is entered now
  pub firsts_more : AreFirsts states firsts place
      → AreFirsts states (firsts ++ place ∷ []) (place + 1)
  firsts_more so_far = record {
    within = λ e less.
        let size = length_push firsts place in
        elim (cases_lt e (length firsts)) [
          | inl old ↦ let below = so_far.within e old in
              let kept = get_or_append_left firsts (place ∷ []) 0 e old in omega arith
          | inr upto ↦ let new = get_or_push firsts place 0 e (omega arith) in omega arith
        ];
    each = λ k less.
        let size = length_push firsts place in
        elim (cases_lt k place) [
          | inl before ↦ let old = so_far.each k before in
              (old.0, omega (arith, old.1), first_kept old.0 old.1 ∙ old.2)
          | inr upto ↦
              let last : place ≡ k = omega arith in (
                length firsts,
                omega arith,
                first_new (length firsts) refl
                    ∙ (sym (here states place held at) ∙ ap (λ j. get_or states j []) last),
              )
        ];
  }

  pub index_more : (key : ℕ) (codes : List ℕ) (code : ℕ) → IsIndex key codes firsts states
      → IsListCode key held code
      → IsIndex key (codes ++ code ∷ []) (firsts ++ place ∷ []) states
  index_more key codes code index is = record {
    many = let old = index.many in omega (arith, length_push firsts place, length_push codes code);
    code = λ e less.
        let size = length_push firsts place in
        let many = index.many in
        elim (cases_lt e (length firsts)) [
          | inl old ↦
              subst (λ c. IsListCode key (first_at states (firsts ++ place ∷ []) e) c)
              (sym (get_or_append_left codes (code ∷ []) 0 e (omega arith)))
              (subst (λ h. IsListCode key h (code_at codes e)) (sym (first_kept e old))
              (index.code e old))
          | inr upto ↦
              subst (λ c. IsListCode key (first_at states (firsts ++ place ∷ []) e) c)
              (sym (get_or_push codes code 0 e (omega arith)))
              (subst (λ h. IsListCode key h code) (sym (first_new e (omega arith))) is)
        ];
  }

-- a state that some entry denotes is listed, and each listed state has an entry
pub listed_first : (set : ℕ → Bool) (states : List (List ℕ)) (firsts : List ℕ)
    → AreFirsts states firsts (length states)
    → IsEnteredState set states firsts ↔ HasListed set states
listed_first set states firsts are = (
  λ f. (get_or firsts f.0 0, are.within f.0 f.1, f.2),
  λ l. let e = are.each l.0 l.1 in (e.0, e.1, subst (IsSame set) (sym e.2) l.2),
)

module _ (n : ℕ) (set : ℕ → Bool) (state : List Bool) (size : length state ≡ n)
    (below : IsBelow n set) (agree : IsSetOf set state) where
  into : (held : List ℕ) → IsSame set held → state_of n held ≡ state
  into held same =
      same_state (state_of n held) state (length-state_of n held ∙ sym size)
      (λ p within. let less : p < n = omega (arith, length-state_of n held) in
      has_atom-state_of n held p less ∙ sym (same p) ∙ agree p)

  out : (held : List ℕ) → AreBelow n held → state_of n held ≡ state → IsSame set held
  out held within e p =
      elim (cases_lt p n) [
        | inl less ↦ agree p ∙ sym (ap (λ s. has_atom s p) e) ∙ has_atom-state_of n held p less
        | inr past ↦ below p past ∙ sym (unnamed held p
            (λ c. let less = All-contains (λ a. a < n) held p within c in omega arith))
      ]

  -- the set is listed exactly where its state is
  pub listed_decides : (states : List (List ℕ)) → AreStates n states
      → (in_states n states state ≡ true) ↔ HasListed set states
  listed_decides states are =
      let decides = Decides-by_or (λ held. is_same (state_of n held) state)
      (λ held. state_of n held ≡ state) (λ hs. in_states n hs state)
      (λ held. beq-Decides (state_of n held) state) refl (λ _ _. refl) states in (
        λ e. let at = decides.0 e in (
          at.0,
          at.1,
          out (get_or states at.0 []) (are at.0 [] at.1)
              (at.2 []),
        ),
        λ l. decides.1 (
          l.0,
          l.1,
          λ d. subst
              (λ held. state_of n held ≡ state) (get_or_default states l.0 [] d l.1)
              (into (get_or states l.0 []) l.2),
        ),
      )

  -- and a list is the set exactly where it gives the state
  pub same_decides : (held : List ℕ) → AreBelow n held
      → (is_same (state_of n held) state ≡ true) ↔ IsSame set held
  same_decides held within =
      let decides = beq-Decides (state_of n held) state in
      (λ e. out held within (decides.0 e), λ same. decides.1 (into held same))

-- two tests of one fact agree
pub same_tests : {P : Type 0} (a b : Bool) → ((a ≡ true) ↔ P) → ((b ≡ true) ↔ P) → a ≡ b
same_tests {P} a b one other = same_from_decides {P = P} a b (one.0, one.1) (other.0, other.1)
