-- A list of pieces is judged in one way.
use Rattle.std.proofs.Common.{◌≡◌, ℕ, ◌+◌, ◌∙◌, ◌⊎◌, List, [], ◌∷◌, ◌++◌, Some, None, append_assoc}
use Rattle.std.proofs.Common.{inl, inr, length, refl, reverse, sym, ap, subst}
use Rattle.std.proofs.lemmas.List.{reverse-append}
use Rattle.hv_lines.specs.Spelling.{Spells, IsSkipped}
use Rattle.hv_lines.specs.Good.{IsGood, IsRefutedBy}
use Rattle.hv_lines.specs.Judged.{Accepts, Concludes, IsReason, IsRefused, IsShownBy}
use Rattle.hv_lines.specs.Judged.{IsJudgedUnsolvable, IsInconclusive, Judged, Judgement, LineText}
use Rattle.hv_lines.specs.Judged.{JudgedInOrder, Passes, outline_of}
use Rattle.hv_lines.specs.Judged as J
use Rattle.hv_lines.specs.Order.{Test, without_state}
use Rattle.hv_lines.specs.Order as O
use Rattle.hv_lines.specs.Setting.{Setting}
use Rattle.hv_lines.specs.Versions.{judged_whole}
use Rattle.hv_lines.specs.declared.line.Line.{Line}
use Rattle.hv_lines.specs.declared.reason.Clash.{Clash}
use Rattle.hv_lines.specs.declared.reason.Reason.{Reason}
use Rattle.hv_lines.specs.declared.reason.Reason.TheVariants as R
use Rattle.hv_lines.proofs.Reasons.{clash_of_line_once, no_reason, reason_once}
use Rattle.hv_proof_text.proofs.LineFields.{one_line, skipped_apart}

-- the first item, or this one; the others
first_of : {X : Type 0} → X → List X → X
first_of other [] = other
first_of other (x ∷ xs) = x

rest_of : {X : Type 0} → List X → List X
rest_of [] = []
rest_of (x ∷ xs) = xs

-- of two cuts of a list at an item, they are one, or the one is in the prefix of the other
unfoldable pub Cuts : {X : Type 0} → List X → X → List X → X → Type 0
Cuts {X} f b g c = ((f ≡ g) × (b ≡ c)) ⊎
    (((more : List X) × (f ≡ g ++ c ∷ more)) ⊎ ((more : List X) × (g ≡ f ++ b ∷ more)))

pub cut_cases : {X : Type 0} → (f g : List X) (b c : X) (r s : List X) → f ++ b ∷ r ≡ g ++ c ∷ s
    → Cuts f b g c
unfolding Cuts first_of rest_of
cut_cases [] [] b c r s h = inl (refl, ap (λ xs. first_of b xs) h)
cut_cases [] (y ∷ g) b c r s h = inr (inr (g, ap (λ z. z ∷ g) (sym (ap (λ xs. first_of b xs) h))))
cut_cases (x ∷ f) [] b c r s h = inr (inl (f, ap (λ z. z ∷ f) (ap (λ xs. first_of x xs) h)))
cut_cases (x ∷ f) (y ∷ g) b c r s h =
    let head : x ≡ y = ap (λ xs. first_of x xs) h in
    elim (cut_cases f g b c r s (ap rest_of h)) [
      | inl same ↦ inl (ap (λ z. z ∷ f) head ∙ ap (λ zs. y ∷ zs) same.0, same.1)
      | inr (inl w) ↦ inr (inl (w.0, ap (λ z. z ∷ f) head ∙ ap (λ zs. y ∷ zs) w.1))
      | inr (inr w) ↦ inr (inr (w.0, ap (λ z. z ∷ g) (sym head) ∙ ap (λ zs. x ∷ zs) w.1))
    ]

module _ (setting : Setting) where
  -- what is accepted of pieces is one list of lines
  pub accepts_once : (pieces : List LineText) (a b : List Line) → Accepts setting pieces a
      → Accepts setting pieces b → a ≡ b
  accepts_once [] a b x y = x ∙ sym y
  accepts_once (None ∷ older) a b x y = absurd x
  accepts_once (Some bytes ∷ older) a b (inl x) (inl y) = accepts_once older a b x.1 y.1
  accepts_once (Some bytes ∷ older) a b (inl x) (inr (line, before, added, spelled, good, accepts))
      =
      absurd (skipped_apart line bytes spelled x.0)
  accepts_once (Some bytes ∷ older) a b (inr (line, before, added, spelled, good, accepts)) (inl y)
      =
      absurd (skipped_apart line bytes spelled y.0)
  accepts_once (Some bytes ∷ older) a b (inr (line, before, added, spelled, good, accepts))
      (inr (other, earlier, put, says, fine, takes)) =
      added ∙ (ap (λ l. l ∷ before) (one_line line other bytes spelled says)
      ∙ (ap (λ ls. other ∷ ls) (accepts_once older before earlier accepts takes) ∙ sym put))

  -- a piece that is skipped passes each test, and so does one that spells a good line
  pub skipped_passes : (lines : List Line) (bytes : List ℕ) → IsSkipped bytes → (test : Test)
      → Passes setting lines (Some bytes) test
  skipped_passes lines bytes skipped O.Length = tt
  skipped_passes lines bytes skipped test = inl skipped

  good_passes : (lines : List Line) (bytes : List ℕ) (line : Line) → Spells line bytes
      → IsGood setting lines line → (test : Test)
      → Passes setting lines (Some bytes) test
  good_passes lines bytes line spells good O.Length = tt
  good_passes lines bytes line spells good test = inr (line, spells, good test)

  -- a piece with a reason isn't accepted
  pub not_accepted : (older : List LineText) (bad : LineText) (lines all : List Line) (r : Reason)
      → Accepts setting older lines
      → IsReason setting lines bad r → Accepts setting (bad ∷ older) all → ⊥
  not_accepted older None lines all r accepts reason takes = takes
  not_accepted older (Some bytes) lines all r accepts reason (inl skipped) =
      no_reason (Passes setting lines (Some bytes)) (IsShownBy setting lines (Some bytes)) r reason
      (skipped_passes lines bytes skipped.0)
  not_accepted older (Some bytes) lines all r accepts reason
      (inr (line, before, added, spells, good, takes)) =
      no_reason (Passes setting lines (Some bytes)) (IsShownBy setting lines (Some bytes)) r reason
      (good_passes lines bytes line spells (subst
      (λ ls. IsGood setting ls line) (accepts_once older before lines takes accepts) good))

  -- what is accepted of a list is begun by what is accepted of a beginning
  pub begins_with : (newer older : List LineText) (all : List Line)
      → Accepts setting (newer ++ older) all
      → (lines : List Line) × Accepts setting older lines
  begins_with [] older all accepts = (all, accepts)
  begins_with (None ∷ newer) older all accepts = absurd accepts
  begins_with (Some bytes ∷ newer) older all (inl x) = begins_with newer older all x.1
  begins_with (Some bytes ∷ newer) older all (inr (line, before, added, spelled, good, accepts)) =
      begins_with newer older before accepts

  turned : (front : List LineText) (bad : LineText) (more : List LineText)
      → reverse (front ++ bad ∷ more) ≡ reverse more ++ (bad ∷ reverse front)
  turned front bad more =
      reverse-append front (bad ∷ more)
      ∙ (ap (λ ps. ps ++ reverse front) (reverse-append (bad ∷ []) more)
      ∙ append_assoc (reverse more) (bad ∷ []) (reverse front))

  -- no list with a refused piece is accepted
  pub never : (front more : List LineText) (bad : LineText) (lines all : List Line) (r : Reason)
      → Accepts setting (reverse front) lines → IsReason setting lines bad r
      → Accepts setting (reverse (front ++ bad ∷ more)) all → ⊥
  never front more bad lines all r accepts reason takes =
      let w = begins_with (reverse more) (bad ∷ reverse front) all
      (subst (λ ps. Accepts setting ps all) (turned front bad more) takes) in
      not_accepted (reverse front) bad lines w.0 r accepts reason w.1

  refused_alone : (pieces : List LineText) (place : ℕ) (r : Reason) (all : List Line)
      → IsRefused setting pieces place r
      → Accepts setting (reverse pieces) all → ⊥
  refused_alone pieces place r all refused takes =
      never refused.front refused.rest refused.bad refused.lines all r refused.accepted
      refused.reason_is
      (subst (λ ps. Accepts setting (reverse ps) all) refused.cut takes)

  -- the counterexamples to what a piece spells are one, but for the state
  pub shown_once : (lines : List Line) (piece : LineText) (a b : Clash)
      → IsShownBy setting lines piece a → IsShownBy setting lines piece b
      → without_state (R.False a) ≡ without_state (R.False b)
  shown_once lines None a b x y = absurd x
  shown_once lines (Some bytes) a b x y =
      clash_of_line_once setting lines y.0 a b
      (subst (λ l. IsRefutedBy setting lines l a) (one_line x.0 y.0 bytes x.1 y.1) x.2) y.2

  -- a list has one first refused piece, with one reason but for the state of a counterexample
  refused_once : (pieces : List LineText) (p q : ℕ) (r s : Reason) → IsRefused setting pieces p r
      → IsRefused setting pieces q s
      → (p ≡ q) × (without_state r ≡ without_state s)
  unfolding Cuts
  refused_once pieces p q r s x y =
      elim (cut_cases x.front y.front x.bad y.bad x.rest y.rest (sym x.cut ∙ y.cut)) [
        | inl same ↦ (
          x.counted ∙ (ap (λ ps. length ps + 1) same.0 ∙ sym y.counted),
          reason_once (Passes setting y.lines y.bad) (IsShownBy setting y.lines y.bad)
              (shown_once y.lines y.bad) r s
              (subst (λ b. IsReason setting y.lines b r) same.1
              (subst (λ ls. IsReason setting ls x.bad r)
              (accepts_once (reverse y.front) x.lines y.lines
              (subst (λ ps. Accepts setting (reverse ps) x.lines) same.0 x.accepted) y.accepted)
              x.reason_is)) y.reason_is,
        )
        | inr (inl w) ↦ absurd (never y.front w.0 y.bad y.lines x.lines s y.accepted y.reason_is
            (subst (λ ps. Accepts setting (reverse ps) x.lines) w.1 x.accepted))
        | inr (inr w) ↦ absurd (never x.front w.0 x.bad x.lines y.lines r x.accepted x.reason_is
            (subst (λ ps. Accepts setting (reverse ps) y.lines) w.1 y.accepted))
      ]

  -- no list concludes and doesn't
  yes_or_open : (pieces : List LineText) → IsJudgedUnsolvable setting pieces
      → IsInconclusive setting pieces → ⊥
  yes_or_open pieces yes_so open_so =
      open_so.silent (subst Concludes
      (accepts_once (reverse pieces) yes_so.lines open_so.lines yes_so.accepted open_so.accepted)
      yes_so.concludes)

  in_order_once : (pieces : List LineText) (a b : Judgement) → JudgedInOrder setting pieces a
      → JudgedInOrder setting pieces b
      → outline_of a ≡ outline_of b
  in_order_once pieces J.Unsolvable J.Unsolvable x y = refl
  in_order_once pieces J.Unsolvable (J.Refused q s) x y = absurd
      (refused_alone pieces q s x.lines y x.accepted)
  in_order_once pieces J.Unsolvable J.NoConclusion x y = absurd (yes_or_open pieces x y)
  in_order_once pieces (J.Refused p r) J.Unsolvable x y = absurd
      (refused_alone pieces p r y.lines x y.accepted)
  in_order_once pieces (J.Refused p r) (J.Refused q s) x y =
      let same = refused_once pieces p q r s x y in
      ap (λ n. J.Refused n (without_state r)) same.0 ∙ ap (λ t. J.Refused q t) same.1
  in_order_once pieces (J.Refused p r) J.NoConclusion x y = absurd
      (refused_alone pieces p r y.lines x y.accepted)
  in_order_once pieces J.NoConclusion J.Unsolvable x y = absurd (yes_or_open pieces y x)
  in_order_once pieces J.NoConclusion (J.Refused q s) x y = absurd
      (refused_alone pieces q s x.lines y x.accepted)
  in_order_once pieces J.NoConclusion J.NoConclusion x y = refl

  pub judged_once : (pieces : List LineText) (a b : Judgement) → Judged setting pieces a
      → Judged setting pieces b
      → outline_of a ≡ outline_of b
  judged_once pieces a b x y = in_order_once (judged_whole pieces) a b x y
