-- Going through the sets that a set is made of, from the newest to the oldest, and keeping its
-- leaves.
use Rattle.std.proofs.Common.{◌≡◌, ℕ, ◌<◌, ◌≤◌, ◌⊎◌, ◌↔◌, ◌++◌, ◌∙◌, List, [], ◌∷◌, Option, Some}
use Rattle.std.proofs.Common.{None}
use Rattle.std.proofs.Common.{refl, sym, subst, inl, inr, arith}
use Rattle.std.proofs.lemmas.List.Elements.{Contains-append_left, Contains-push}
use Rattle.std.proofs.lemmas.List.Elements.{Contains-push_cases}
use Rattle.std.proofs.lemmas.Option.{same_Some}
use Rattle.std.specs.List.{Contains}
use Rattle.std.specs.BTreeSet.{BTreeSet}
use Rattle.hv_lines.specs.Numbering.{expr_at, expr_count}
use Rattle.hv_lines.specs.Shapes.{IsLeaf, alone, of_left, of_right}
use Rattle.hv_lines.specs.declared.line.Expr.{Expr}
use Rattle.hv_lines.specs.declared.line.Line.{Line}
use Rattle.hv_lines.proofs.Elements.{head_in, of_one}
use Rattle.hv_basic.specs.Working.Work.{Has, IsLookedAt, IsTaken, LookedAt, parts_on}
use Rattle.hv_basic.specs.declared.leaves.Half.{Half}

-- what holds while the sets are gone through: a leaf of the root is found already, or is a leaf of
-- a set that is still to be looked
-- at; and nothing else is
pub record IsLeafing (parts : Expr → Option (ℕ × ℕ)) (lines : List Line) (root : ℕ)
    (work : BTreeSet ℕ) (found : List ℕ) (bound : ℕ) : Type 0 where
  pub within : bound ≤ expr_count lines
  pub below : (set : ℕ) → Has work set → set < bound
  pub covers : (leaf : ℕ) → IsLeaf parts lines root leaf
      → Contains found leaf ⊎ ((set : ℕ) × Has work set × IsLeaf parts lines set leaf)
  pub ahead : (set leaf : ℕ) → Has work set → IsLeaf parts lines set leaf
      → IsLeaf parts lines root leaf
  pub done : (leaf : ℕ) → Contains found leaf → IsLeaf parts lines root leaf

-- a set that isn't taken apart is its only leaf
pub leaf_alone : (parts : Expr → Option (ℕ × ℕ)) (lines : List Line) (set leaf : ℕ) (expr : Expr)
    → expr_at lines set ≡ Some expr
    → parts expr ≡ None → IsLeaf parts lines set leaf → leaf ≡ set
leaf_alone parts lines _ _ expr at none (alone set x found out) = refl
leaf_alone parts lines _ leaf expr at none (of_left set left right l x found has of) =
    let same : x ≡ expr = cc (at, found) in
    let both : parts expr ≡ Some (left, right) = subst
    (λ y. parts y ≡ Some (left, right)) same has in
    absurd (cc (none, both))
leaf_alone parts lines _ leaf expr at none (of_right set left right l x found has of) =
    let same : x ≡ expr = cc (at, found) in
    let both : parts expr ≡ Some (left, right) = subst
    (λ y. parts y ≡ Some (left, right)) same has in
    absurd (cc (none, both))

-- so this is all that is found of it
pub leaf_found : (parts : Expr → Option (ℕ × ℕ)) (lines : List Line) (set : ℕ) (expr : Expr)
    (found : List ℕ) → expr_at lines set ≡ Some expr → parts expr ≡ None → found ≡ set ∷ []
    → (leaf : ℕ) → Contains found leaf ↔ IsLeaf parts lines set leaf
leaf_found parts lines set expr found at none is leaf = (
  λ c. of_one (IsLeaf parts lines set) set (alone set expr at none) leaf
      (subst (λ ls. Contains ls leaf) is c),
  λ of. subst (λ ls. Contains ls leaf) (sym is)
      (subst (Contains (set ∷ [])) (sym (leaf_alone parts lines set leaf expr at none of))
      (head_in set [])),
)

-- a leaf of a set that is taken apart is a leaf of one of its parts
pub leaf_parts : (parts : Expr → Option (ℕ × ℕ)) (lines : List Line) (set leaf : ℕ) (expr : Expr)
    (p : ℕ × ℕ) → expr_at lines set ≡ Some expr
    → parts expr ≡ Some p → IsLeaf parts lines set leaf
    → IsLeaf parts lines p.0 leaf ⊎ IsLeaf parts lines p.1 leaf
leaf_parts parts lines _ _ expr p at some (alone set x found out) =
    let same : x ≡ expr = cc (at, found) in
    let none : parts expr ≡ None = subst (λ y. parts y ≡ None) same out in
    absurd (cc (none, some))
leaf_parts parts lines _ leaf expr p at some (of_left set left right l x found has of) =
    let same : x ≡ expr = cc (at, found) in
    let both : (left, right) ≡ p = same_Some (left, right) p
    (sym (subst (λ y. parts y ≡ Some (left, right)) same has) ∙ some) in
    inl (subst (λ (y : ℕ × ℕ). IsLeaf parts lines y.0 leaf) both of)
leaf_parts parts lines _ leaf expr p at some (of_right set left right l x found has of) =
    let same : x ≡ expr = cc (at, found) in
    let both : (left, right) ≡ p = same_Some (left, right) p
    (sym (subst (λ y. parts y ≡ Some (left, right)) same has) ∙ some) in
    inr (subst (λ (y : ℕ × ℕ). IsLeaf parts lines y.1 leaf) both of)

module _ (parts : Expr → Option (ℕ × ℕ)) (lines : List Line) (root set bound : ℕ) (expr : Expr)
    (at : expr_at lines set ≡ Some expr)
    (old mid new : BTreeSet ℕ) (found kept : List ℕ)
    (leafing : IsLeafing parts lines root old found bound) (taken : IsTaken old mid set) where
  looked : (p : Option (ℕ × ℕ)) → parts expr ≡ p → LookedAt p set mid new found kept
      → IsLeafing parts lines root new kept set
  looked None none is =
      let there : (other : ℕ) → Has new other
      → Has mid other = λ other h. subst (λ w. Has w other) is.0 h in
      let back : (other : ℕ) → Has mid other
      → Has new other = λ other h. subst (λ w. Has w other) (sym is.0) h in
      record {
        within = omega (arith, leafing.within, leafing.below set taken.was);
        below = λ other h. (taken.back other (there other h)).1;
        covers = λ leaf of. subst (λ ls. Contains ls leaf
            ⊎ ((y : ℕ) × Has new y × IsLeaf parts lines y leaf)) (sym is.1)
            (elim (leafing.covers leaf of) [
              | inl here ↦ inl (Contains-append_left found (set ∷ []) leaf here)
              | inr later ↦ elim (taken.others later.0 later.1) [
                | inl same ↦
                    let only : leaf ≡ set = leaf_alone parts lines set leaf expr at none
                    (subst (λ y. IsLeaf parts lines y leaf) same later.2) in
                    inl (subst (Contains (found ++ set ∷ [])) (sym only) (Contains-push found set))
                | inr still ↦ inr (later.0, back later.0 still, later.2)
              ]
            ]);
        ahead = λ other leaf h of. leafing.ahead other leaf (taken.back other (there other h)).0 of;
        done = λ leaf c. elim (Contains-push_cases found set leaf
            (subst (λ ls. Contains ls leaf) is.1 c)) [
              | inl before ↦ leafing.done leaf before
              | inr same ↦ subst (IsLeaf parts lines root) same
                  (leafing.ahead set set taken.was (alone set expr at none))
            ];
      }
  looked (Some p) some is = record {
    within = omega (arith, leafing.within, leafing.below set taken.was);
    below = λ other h. elim ((is.0 other).0 h) [
      | inl left ↦ omega (arith, left, is.2)
      | inr (inl right) ↦ omega (arith, right, is.3)
      | inr (inr there) ↦ (taken.back other there).1
    ];
    covers = λ leaf of. subst (λ ls. Contains ls leaf
        ⊎ ((y : ℕ) × Has new y × IsLeaf parts lines y leaf)) (sym is.1)
        (elim (leafing.covers leaf of) [
          | inl here ↦ inl here
          | inr later ↦ elim (taken.others later.0 later.1) [
            | inl same ↦ elim (leaf_parts parts lines set leaf expr p at some
                (subst (λ y. IsLeaf parts lines y leaf) same later.2)) [
                  | inl left ↦ inr (p.0, (is.0 p.0).1 (inl refl), left)
                  | inr right ↦ inr (p.1, (is.0 p.1).1 (inr (inl refl)), right)
                ]
            | inr still ↦ inr (later.0, (is.0 later.0).1 (inr (inr still)), later.2)
          ]
        ]);
    ahead = λ other leaf h of. elim ((is.0 other).0 h) [
      | inl left ↦ leafing.ahead set leaf taken.was
          (of_left set p.0 p.1 leaf expr at some (subst (λ y. IsLeaf parts lines y leaf) left of))
      | inr (inl right) ↦ leafing.ahead set leaf taken.was
          (of_right set p.0 p.1 leaf expr at some (subst (λ y. IsLeaf parts lines y leaf) right of))
      | inr (inr there) ↦ leafing.ahead other leaf (taken.back other there).0 of
    ];
    done = λ leaf c. leafing.done leaf (subst (λ ls. Contains ls leaf) is.1 c);
  }

-- one more set is looked at
pub leafing_step : (lines : List Line) (side : Half) (root set bound : ℕ) (old mid new : BTreeSet ℕ)
    (found kept : List ℕ)
    → IsLeafing (parts_on side) lines root old found bound → IsTaken old mid set
    → IsLookedAt lines side set mid new found kept
    → IsLeafing (parts_on side) lines root new kept set
leafing_step lines side root set bound old mid new found kept leafing taken (expr, at, is) =
    looked (parts_on side) lines root set bound expr at old mid new found kept leafing taken
    (parts_on side expr) refl is
