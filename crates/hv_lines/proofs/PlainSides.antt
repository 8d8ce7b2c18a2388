-- What is asked about a list of formulas and constants, and which leaves a set has.
use Rattle.std.proofs.Common.{◌≡◌, ℕ, zero, suc, ◌<◌, ◌∙◌, ◌⊎◌, Bool, List, []}
use Rattle.std.proofs.Common.{◌∷◌, Option, Some, None, length, refl, sym, ap, subst, inl, inr}
use Rattle.std.proofs.Common.{arith}
use Rattle.std.proofs.lemmas.Option.{same_Some}
use Rattle.std.specs.List.{Contains}
use Rattle.hv_lines.specs.Numbering.{expr_at}
use Rattle.hv_lines.specs.Shapes.{AskedBefore, Askings, AskingsRise}
use Rattle.hv_lines.specs.Shapes.{IsLeaf, alone}
use Rattle.hv_lines.specs.Shapes.{of_left, of_right}
use Rattle.hv_lines.specs.declared.line.Expr.{Expr}
use Rattle.hv_lines.specs.declared.line.Line.{Line}
use Rattle.hv_lines.proofs.Elements.{cons_cases, head_in, nothing_in, tail_in}

-- each of these numbers, asked about after the action or before it
abbrev pub asked_all : Bool → List ℕ → Askings
asked_all after [] = []
asked_all after (set ∷ sets) = (set, after) ∷ asked_all after sets

pub to_asked : (after : Bool) (sets : List ℕ) (set : ℕ) → Contains sets set
    → Contains (asked_all after sets) (set, after)
to_asked after [] set c = absurd (nothing_in set c)
to_asked after (x ∷ sets) set c =
    elim (cons_cases x sets set c) [
      | inl same ↦ subst (λ y. Contains ((x, after) ∷ asked_all after sets) (y, after)) same
          (head_in (x, after) (asked_all after sets))
      | inr there ↦ tail_in (x, after) (asked_all after sets) (set, after)
          (to_asked after sets set there)
    ]

pub from_asked : (after : Bool) (sets : List ℕ) (a : ℕ × Bool) → Contains (asked_all after sets) a
    → Contains sets a.0 × (a.1 ≡ after)
from_asked after [] a c = absurd (nothing_in a c)
from_asked after (x ∷ sets) a c =
    elim (cons_cases (x, after) (asked_all after sets) a c) [
      | inl same ↦ (
        subst (λ (y : ℕ × Bool). Contains (x ∷ sets) y.0) same (head_in x sets),
        sym
            (ap (λ (y : ℕ × Bool). y.1) same),
      )
      | inr there ↦ let w = from_asked after sets a there in (tail_in x sets a.0 w.0, w.1)
    ]

pub asked_size : (after : Bool) (sets : List ℕ) → length (asked_all after sets) ≡ length sets
asked_size after [] = refl
asked_size after (x ∷ sets) = ap suc (asked_size after sets)

pub rises_none : AskingsRise []
rises_none i j first second less at_first at_second = absurd (cc (at_first))

pub rises_one : (after : Bool) (x : ℕ) → AskingsRise (asked_all after (x ∷ []))
rises_one after x i zero first second less at_first at_second = absurd (omega (arith, less))
rises_one after x i (suc j) first second less at_first at_second = absurd (cc (at_second))

pub rises_two : (after : Bool) (x y : ℕ) → x < y → AskingsRise (asked_all after (x ∷ y ∷ []))
rises_two after x y before i zero first second less at_first at_second = absurd
    (omega (arith, less))
rises_two after x y before zero (suc zero) first second less at_first at_second =
    let one : (x, after) ≡ first = same_Some (x, after) first at_first in
    let two : (y, after) ≡ second = same_Some (y, after) second at_second in
    subst (λ a. AskedBefore a second) one (subst (λ b. AskedBefore (x, after) b) two (inl before))
rises_two after x y before (suc i) (suc zero) first second less at_first at_second = absurd
    (omega (arith, less))
rises_two after x y before i (suc (suc j)) first second less at_first at_second = absurd
    (cc (at_second))

-- a set without parts is its only leaf, and a leaf of one of two parts is one of a part

pub only_leaf : (parts : Expr → Option (ℕ × ℕ)) (lines : List Line) (set leaf : ℕ)
    → IsLeaf parts lines set leaf → (x : Expr)
    → expr_at lines set ≡ Some x → parts x ≡ None → set ≡ leaf
only_leaf parts lines _ _ (alone set y at none) x is single = refl
only_leaf parts lines _ leaf (of_left set left right l y at has of) x is single =
    let same : y ≡ x = cc (at, is) in
    let out : parts x ≡ Some (left, right) = subst (λ e. parts e ≡ Some (left, right)) same has in
    absurd (cc (out, single))
only_leaf parts lines _ leaf (of_right set left right l y at has of) x is single =
    let same : y ≡ x = cc (at, is) in
    let out : parts x ≡ Some (left, right) = subst (λ e. parts e ≡ Some (left, right)) same has in
    absurd (cc (out, single))

pub part_leaf : (parts : Expr → Option (ℕ × ℕ)) (lines : List Line) (set leaf : ℕ)
    → IsLeaf parts lines set leaf → (x : Expr) (a b : ℕ)
    → expr_at lines set ≡ Some x → parts x ≡ Some (a, b)
    → IsLeaf parts lines a leaf ⊎ IsLeaf parts lines b leaf
part_leaf parts lines _ _ (alone set y at none) x a b is two =
    let same : y ≡ x = cc (at, is) in
    let out : parts x ≡ None = subst (λ e. parts e ≡ None) same none in
    absurd (cc (out, two))
part_leaf parts lines _ leaf (of_left set left right l y at has of) x a b is two =
    let same : y ≡ x = cc (at, is) in
    let out : parts x ≡ Some (left, right) = subst (λ e. parts e ≡ Some (left, right)) same has in
    let pair : (left, right) ≡ (a, b) = same_Some (left, right) (a, b) (sym out ∙ two) in
    inl (subst (λ (p : ℕ × ℕ). IsLeaf parts lines p.0 leaf) pair of)
part_leaf parts lines _ leaf (of_right set left right l y at has of) x a b is two =
    let same : y ≡ x = cc (at, is) in
    let out : parts x ≡ Some (left, right) = subst (λ e. parts e ≡ Some (left, right)) same has in
    let pair : (left, right) ≡ (a, b) = same_Some (left, right) (a, b) (sym out ∙ two) in
    inr (subst (λ (p : ℕ × ℕ). IsLeaf parts lines p.1 leaf) pair of)
