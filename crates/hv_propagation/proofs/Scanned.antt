-- What is told of a clause once one of its literals was read.
use Rattle.std.proofs.Common.{◌≡◌, ◌<◌, ◌⊎◌, ◌∷◌, ℕ, zero, suc, List, [], Option, None, Some}
use Rattle.std.proofs.Common.{true, false, get_or, length, arith, refl, inl, inr, subst}
use Rattle.std.proofs.lemmas.List.{get_or_default}
use Rattle.std.proofs.lemmas.List.Elements.{Contains-get_or}
use Rattle.std.specs.List.{All, Contains}
use Rattle.hv_sets.specs.declared.literal.Literal.{Literal}
use Rattle.hv_propagation.specs.declared.watched.Pending.{Pending}
use Rattle.hv_propagation.specs.declared.watched.Scan.TheVariants as S
use Rattle.hv_propagation.specs.declared.watched.ScanState.TheVariants as T
use Rattle.hv_propagation.specs.Units.{AreFalse, IsSettled, value_of}
use Rattle.hv_propagation.specs.Working.Scan.{IsScanState, IsSeenIn, Scans}

-- what is true of two literals is true of all of a clause that has no other
all_two : (P : Literal → Type 0) (one two : Literal) → P one → P two → All P (one ∷ two ∷ [])
all_two P one two first second zero d less = first
all_two P one two first second (suc zero) d less = second
all_two P one two first second (suc (suc k)) d less = absurd (omega (arith, less))

-- a clause of two literals
module _ (e m : List ℕ) (one two : Literal) where
  has_first : Contains (one ∷ two ∷ []) one
  has_first = (0, omega arith, refl)

  has_second : Contains (one ∷ two ∷ []) two
  has_second = (1, omega arith, refl)

  pub first_true : value_of e m one ≡ Some true → IsSettled e m (one ∷ two ∷ [])
  first_true is = inl (one, has_first, is)

  pub second_true : value_of e m two ≡ Some true → IsSettled e m (one ∷ two ∷ [])
  second_true is = inl (two, has_second, is)

  pub both_false : value_of e m one ≡ Some false → value_of e m two ≡ Some false
      → AreFalse e (one ∷ two ∷ []) m
  both_false first second =
      all_two (λ l. value_of e m l ≡ Some false) one two first second

  pub second_open : value_of e m one ≡ Some false → value_of e m two ≡ None
      → Scans (S.Unit two) e m (one ∷ two ∷ [])
  second_open out unknown = (
    has_second,
    unknown,
    all_two (λ l. (l ≡ two) ⊎ (value_of e m l ≡ Some false)) one two (inr out) (inl refl),
  )

  pub first_open : value_of e m one ≡ None → value_of e m two ≡ Some false
      → Scans (S.Unit one) e m (one ∷ two ∷ [])
  first_open unknown out = (
    has_first,
    unknown,
    all_two (λ l. (l ≡ one) ⊎ (value_of e m l ≡ Some false)) one two (inl refl) (inr out),
  )

-- the literal at a place of a clause
module _ (e m : List ℕ) (clause : List Literal) (place : ℕ) (less : place < length clause)
    (none : Literal) where
  pub true_there : value_of e m (get_or clause place none) ≡ Some true → IsSettled e m clause
  true_there is = inl (get_or clause place none, Contains-get_or clause place none less, is)

  pub seen_false : value_of e m (get_or clause place none) ≡ Some false
      → (pending : Option Pending) (d : Literal)
      → IsSeenIn (T.Left pending) e m (get_or clause place d)
  seen_false out None d =
      subst (λ l. value_of e m l ≡ Some false) (get_or_default clause place none d less) out
  seen_false out (Some pending) d =
      inr (subst (λ l. value_of e m l ≡ Some false) (get_or_default clause place none d less) out)

  pub open_there : value_of e m (get_or clause place none) ≡ None → (at : ℕ)
      → IsScanState (T.Left (Some (record { literal = get_or clause place none; place = at }))) e m
      clause
  open_there unknown at = (Contains-get_or clause place none less, unknown)

  pub seen_open : (at : ℕ) (d : Literal)
      → IsSeenIn (T.Left (Some (record { literal = get_or clause place none; place = at }))) e m
      (get_or clause place d)
  seen_open at d = inl (get_or_default clause place d none less)
