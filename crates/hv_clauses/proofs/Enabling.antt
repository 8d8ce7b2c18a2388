-- Why an action is applicable once the atoms of its precondition are forced.
use Rattle.std.proofs.Common.{◌≡◌, ℕ, ◌+◌, ◌<◌, ◌≤◌, ◌∙◌, Bool, true, false, not, cond, subst, List}
use Rattle.std.proofs.Common.{[], length, get_or, refl, sym, ap, arith, below_more, Option, None}
use Rattle.std.proofs.Common.{Some}
use Rattle.std.proofs.lemmas.List.{get_or_default}
use Rattle.std.specs.Option.{option_map}
use Rattle.hv_task.specs.declared.action.Action.{Action}
use Rattle.hv_task.specs.State.{has_all, has_atom}
use Rattle.hv_sets.specs.Query.{may_apply}
use Rattle.hv_sets.specs.declared.literal.Literal.{Literal}
use Rattle.hv_sets.specs.Truth.{in_literal}
use Rattle.hv_clauses.specs.Working.Enabling.{AreMarkedIn, IsEnabled}
use Rattle.hv_propagation.specs.Units.{value_of, IsConcluded}
use Rattle.hv_propagation.specs.Marks.{known, over, Agrees}
use Rattle.hv_propagation.proofs.Marked.{over-nil}
use Rattle.hv_propagation.proofs.Rounds.{conclude_broken, conclude_same, conclude_then}
use Rattle.hv_propagation.proofs.Effects.{list_all_from, list_all_get}

-- a literal that was forced where there is no effect
pub forced_plain : (e : List ℕ) (l : Literal) (m k : List ℕ) (r : Bool) → e ≡ []
    → IsConcluded (λ state. in_literal l (over e state) ≡ true)
    (λ marks. value_of e marks l ≡ Some true) m k r
    → IsConcluded (λ state. in_literal l (over [] state) ≡ true)
    (λ marks. value_of [] marks l ≡ Some true) m k r
forced_plain e l m k r none one =
    subst (λ x. IsConcluded (λ state. in_literal l (over x state) ≡ true)
    (λ marks. value_of x marks l ≡ Some true) m k r) none one

abbrev pub lit : ℕ → Literal
lit p = record { atom = p; positive = true }

value_in : (o : Option Bool) → option_map (λ value. cond true value (not value)) o ≡ Some true
    → o ≡ Some true
value_in None h = absurd (cc)
value_in (Some true) h = refl
value_in (Some false) h = absurd (cc)

abbrev pub HaveBelow : List ℕ → ℕ → List Bool → Type 0
HaveBelow atoms i state = (k : ℕ) → k < i → has_atom state (get_or atoms k 0) ≡ true

abbrev pub InBelow : List ℕ → ℕ → List ℕ → Type 0
InBelow atoms i marks = (k : ℕ) → k < i → known marks (get_or atoms k 0) ≡ Some true

module _ (atoms : List ℕ) (i : ℕ) (m k n : List ℕ) where
  all_below : (state : List Bool) (j : ℕ) → j ≤ length atoms → has_all atoms state ≡ true
      → HaveBelow atoms j state
  all_below state j le h = λ q less. list_all_get (λ p. has_atom state p) atoms q 0 h (omega arith)

  one_in : (state : List Bool) → has_atom state (get_or atoms i 0) ≡ true
      → in_literal (lit (get_or atoms i 0)) (over [] state) ≡ true
  one_in state h = ap (λ s. has_atom s (get_or atoms i 0)) (over-nil state) ∙ h

  abbrev pub Forced : Bool → Type 0
  Forced r = IsConcluded (λ state. in_literal (lit (get_or atoms i 0)) (over [] state) ≡ true)
      (λ marks. value_of [] marks (lit (get_or atoms i 0)) ≡ Some true) k n r

  pub in_more : IsConcluded (HaveBelow atoms i) (InBelow atoms i) m k true → Forced true
      → IsConcluded (HaveBelow atoms (i + 1)) (InBelow atoms (i + 1)) m n true
  in_more before one =
      conclude_then (HaveBelow atoms i) (λ state. in_literal (lit (get_or atoms i 0))
      (over [] state) ≡ true) (HaveBelow atoms (i + 1))
      (InBelow atoms i) (λ marks. value_of [] marks (lit (get_or atoms i 0)) ≡ Some true)
      (InBelow atoms (i + 1)) m k n true
      (λ state size holds. λ q less. holds q (omega arith))
      (λ state size holds. one_in state (holds i (omega arith)))
      (λ old new grows done. λ q less. grows (get_or atoms q 0) true (done q less))
      (λ marks size first second. below_more
      (λ q. known marks (get_or atoms q 0) ≡ Some true) i first
      (value_in (known marks (get_or atoms i 0)) second))
      before one

  pub in_broken : i < length atoms → IsConcluded (HaveBelow atoms i) (InBelow atoms i) m k true
      → Forced false
      → IsConcluded (λ state. has_all atoms state ≡ true) (AreMarkedIn atoms) m n false
  in_broken within before one =
      conclude_broken (HaveBelow atoms i) (λ state. in_literal (lit (get_or atoms i 0))
      (over [] state) ≡ true) (λ state. has_all atoms state ≡ true)
      (InBelow atoms i) (λ marks. value_of [] marks (lit (get_or atoms i 0)) ≡ Some true)
      (AreMarkedIn atoms) m k n
      (λ state size holds. all_below state i (omega arith) holds)
      (λ state size holds. one_in state (all_below state (i + 1) (omega arith) holds i
      (omega arith)))
      before one

pub in_all : (atoms : List ℕ) (i : ℕ) (m k : List ℕ) → length atoms ≤ i → i ≤ length atoms
    → IsConcluded (HaveBelow atoms i) (InBelow atoms i) m k true
    → IsConcluded (λ state. has_all atoms state ≡ true) (AreMarkedIn atoms) m k true
in_all atoms i m k past within before =
    conclude_same (HaveBelow atoms i) (λ state. has_all atoms state ≡ true) (InBelow atoms i)
    (AreMarkedIn atoms) m k true
    (λ state size holds. λ q less. list_all_get
    (λ p. has_atom state p) atoms q 0 holds (omega arith))
    (λ marks size done. λ q d less. subst (λ p. known marks p ≡ Some true)
    (get_or_default atoms q 0 d less) (done q (omega arith)))
    before

-- the precondition of an action as the calls give it
pub enabled_by : (chosen : Option Action) (action : Action) (pre m k : List ℕ) (r : Bool)
    → chosen ≡ Some action → pre ≡ action.pre
    → IsConcluded (λ state. has_all pre state ≡ true) (AreMarkedIn pre) m k r
    → IsConcluded (λ state. may_apply chosen state ≡ true) (IsEnabled chosen) m k r
enabled_by chosen action pre m k r found pres one =
    conclude_same (λ state. has_all pre state ≡ true)
    (λ state. may_apply chosen state ≡ true) (AreMarkedIn pre) (IsEnabled chosen) m k r
    (λ state size holds. ap (λ p. has_all p state) pres ∙ sym (ap (λ a. may_apply a state) found)
    ∙ holds)
    (λ marks size done. λ state agrees.
    ap (λ a. may_apply a state) found ∙ sym (ap (λ p. has_all p state) pres)
    ∙ has_all_in pre marks state done agrees)
    one
  where
    has_all_in : (atoms marks : List ℕ) (state : List Bool) → AreMarkedIn atoms marks
        → Agrees marks state → has_all atoms state ≡ true
    has_all_in atoms marks state done agrees = list_all_from (λ p. has_atom state p) atoms
        (λ k d less. agrees (get_or atoms k d) true (done k d less))
