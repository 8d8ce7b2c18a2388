-- Gathering what literals ask about, leaf by leaf.
use Rattle.std.proofs.Common.{◌≡◌, ℕ, zero, suc, ◌<◌, ◌≤◌, ◌+◌, ◌∙◌, ◌⊎◌, ◌++◌, Bool, true, false}
use Rattle.std.proofs.Common.{List, [], ◌∷◌, Option, Some, None, length, get_or, take, refl, sym, ap, subst, inl, inr}
use Rattle.std.proofs.Common.{arith}
use Rattle.std.proofs.lemmas.List.Elements.{Contains-append_left, Contains-push}
use Rattle.std.proofs.lemmas.List.Elements.{Contains-push_cases}
use Rattle.std.proofs.lemmas.List.{get_or-map, take_all}
use Rattle.std.specs.List.{All, Contains}
use Rattle.std.proofs.lemmas.Option.{same_Some}
use Rattle.std.specs.Option.{IfSome, MatchOption}
use Rattle.hv_lines.specs.Literals.{IsLiteral}
use Rattle.hv_lines.specs.Numbering.{expr_at}
use Rattle.hv_lines.specs.Shapes.{IsLiteralOf, family_of}
use Rattle.hv_lines.specs.declared.formula_family.FormulaFamily.{FormulaFamily}
use Rattle.hv_lines.specs.declared.line.Line.{Line}
use Rattle.hv_lines.proofs.Shaped.{literal_from, literal_once}
use Rattle.hv_basic.specs.Working.Gathered.{AreGathered, AreOthers, IsGiven, IsThe, sign_on}
use Rattle.hv_basic.specs.Leaves.{IsItsFamily, IsLeafRead, places}
use Rattle.hv_basic.specs.declared.signed_sets.Asking.{Asking}
use Rattle.hv_basic.specs.declared.signed_sets.Leaf.{Leaf}
use Rattle.hv_basic.specs.declared.signed_sets.SignedSet.{SignedSet}
use Rattle.hv_basic.specs.declared.signed_sets.Others.{Others}
use Rattle.hv_basic.specs.declared.signed_sets.Others.TheVariants as O

-- a literal's formula or constant has one family
pub its_family : (lines : List Line) (leaf set : ℕ) (sign : Bool)
    → IsLiteralOf lines leaf set sign
    → (family : Option FormulaFamily) × IsItsFamily lines set family
its_family lines leaf set true is = (family_of is.1.0, (is.1.0, is.1.1, refl))
its_family lines leaf set false is = (family_of is.1.0, (is.1.0, is.1.1, refl))

pub family_once : (lines : List Line) (set other : ℕ) (first second : Option FormulaFamily)
    → set ≡ other → IsItsFamily lines set first → IsItsFamily lines other second → first ≡ second
family_once lines set other first second same (x, at, is) (y, there, also) =
    let one : x ≡ y = same_Some x y (sym at ∙ (ap (λ s. expr_at lines s) same ∙ there)) in
    is ∙ (ap family_of one ∙ sym also)

-- what was read of leaves stays so in a list that is the same
pub read_there : (lines : List Line) (xs ys : List Leaf) → xs ≡ ys → All (IsLeafRead lines) ys
    → All (IsLeafRead lines) xs
read_there lines xs ys same = subst (All (IsLeafRead lines)) (sym same)

-- the identifier at a place
pub place_at : (leaves : List Leaf) (i : ℕ) (d : Leaf) → i < length leaves
    → get_or (places leaves) i 0 ≡ (get_or leaves i d).place
place_at leaves i d within = get_or-map (λ (leaf : Leaf). leaf.place) leaves i d 0 within

-- what was read of the leaf at a place
module _ (lines : List Line) (leaves : List Leaf) (i : ℕ) (d : Leaf) (within : i < length leaves)
    (read : All (IsLeafRead lines) leaves) where
  read_at : (l : Option SignedSet) → (get_or leaves i d).literal ≡ l
      → MatchOption l (IsLiteral lines (get_or leaves i d).place → ⊥)
      (IsThe lines (get_or leaves i d).place)
  read_at l is = subst (λ x. MatchOption x (IsLiteral lines (get_or leaves i d).place → ⊥)
      (IsThe lines (get_or leaves i d).place)) is (read i d within).is

  pub literal_at : (literal : SignedSet) → (get_or leaves i d).literal ≡ Some literal
      → IsThe lines (get_or (places leaves) i 0) literal
  literal_at literal is =
      subst (λ leaf. IsThe lines leaf literal) (sym (place_at leaves i d within))
      (read_at (Some literal) is)

  pub family_at : (literal : SignedSet) → (get_or leaves i d).literal ≡ Some literal
      → IsItsFamily lines literal.set (get_or leaves i d).family
  family_at literal is =
      subst (λ o. IfSome o (λ (l : SignedSet). IsItsFamily lines l.set (get_or leaves i d).family))
      is (read i d within).family

  pub other_at : (get_or leaves i d).literal ≡ None
      → IsLiteral lines (get_or (places leaves) i 0) → ⊥
  other_at is =
      subst (λ leaf. IsLiteral lines leaf → ⊥) (sym (place_at leaves i d within)) (read_at None is)

  pub others_with : (others result : Others) → (get_or leaves i d).literal ≡ None
      → AreOthers lines (take i (places leaves)) others
      → ((all : List Line) (before : List ℕ) → AreOthers all before others
      → (IsLiteral all (get_or leaves i d).place → ⊥)
      → AreOthers all (before ++ (get_or leaves i d).place ∷ []) result)
      → AreOthers lines (take i (places leaves) ++ get_or (places leaves) i 0 ∷ []) result
  others_with others result is are with =
      subst (λ leaf. AreOthers lines (take i (places leaves) ++ leaf ∷ []) result)
      (sym (place_at leaves i d within))
      (with lines (take i (places leaves)) are (read_at None is))

-- one more of a list
pub take_more : {X : Type 0} (xs : List X) (i : ℕ) (d : X) → i < length xs
    → take (suc i) xs ≡ take i xs ++ get_or xs i d ∷ []
take_more [] i d within = absurd (omega (arith, within))
take_more (x ∷ xs) zero d within = refl
take_more (x ∷ xs) (suc i) d within = ap (λ t. x ∷ t) (take_more xs i d (omega (arith, within)))

-- signs

sign_twice : (on_left b : Bool) → sign_on on_left (sign_on on_left b) ≡ b
sign_twice true b = refl
sign_twice false true = refl
sign_twice false false = refl

module _ (lines : List Line) (leaves : List ℕ) (i : ℕ) (within : i < length leaves)
    (on_left after : Bool) (old mid : List Asking)
    (before : AreGathered lines (take i leaves) on_left after old mid) where
  one_more : take (i + 1) leaves ≡ take i leaves ++ get_or leaves i 0 ∷ []
  one_more =
      let next : i + 1 ≡ suc i = omega arith in
      ap (λ n. take n leaves) next ∙ take_more leaves i 0 within

  still_given : (asking : Asking) → IsGiven lines (take i leaves) on_left after asking
      → IsGiven lines (take (i + 1) leaves) on_left after asking
  still_given asking given = (
    given.0,
    subst (λ ls. Contains ls given.0) (sym one_more)
        (Contains-append_left (take i leaves) (get_or leaves i 0 ∷ []) given.0 given.1),
    given.2,
    given.3,
    given.4,
  )

  -- what was given is given by an earlier leaf, or by this one
  given_cases : (asking : Asking) → IsGiven lines (take (i + 1) leaves) on_left after asking
      → IsGiven lines (take i leaves) on_left after asking
      ⊎ (IsLiteralOf lines (get_or leaves i 0) asking.set (sign_on on_left asking.positive)
      × (asking.after ≡ after) × IsItsFamily lines asking.set asking.family)
  given_cases asking given =
      elim (Contains-push_cases (take i leaves) (get_or leaves i 0) given.0
      (subst (λ ls. Contains ls given.0) one_more given.1)) [
        | inl earlier ↦ inl (given.0, earlier, given.2, given.3, given.4)
        | inr same ↦ inr (
          subst (λ leaf. IsLiteralOf lines leaf asking.set
              (sign_on on_left asking.positive)) (sym same) given.2,
          given.3,
          given.4,
        )
      ]

  -- a leaf that is no literal asks nothing
  pub gathered_other : (IsLiteral lines (get_or leaves i 0) → ⊥)
      → AreGathered lines (take (i + 1) leaves) on_left after old mid
  gathered_other other asking = (
    λ c. elim ((before asking).0 c) [
      | inl was ↦ inl was
      | inr given ↦ inr (still_given asking given)
    ],
    elim [
      | inl was ↦ (before asking).1 (inl was)
      | inr given ↦ elim (given_cases asking given) [
        | inl earlier ↦ (before asking).1 (inr earlier)
        | inr here ↦ absurd (other (literal_from lines (get_or leaves i 0) asking.set
            (sign_on on_left asking.positive) here.0))
      ]
    ],
  )

  -- a literal asks about its formula or constant
  pub gathered_more : (literal : SignedSet) (family : Option FormulaFamily) (positive : Bool)
      → IsThe lines (get_or leaves i 0) literal → IsItsFamily lines literal.set family
      → positive ≡ sign_on on_left literal.is_plain
      → AreGathered lines (take (i + 1) leaves) on_left after old (mid ++ record {
        set = literal.set;
        after = after;
        positive = positive;
        family = family;
      } ∷ [])
  gathered_more literal family positive is own sign asking =
      let new : Asking = record {
        set = literal.set;
        after = after;
        positive = positive;
        family = family;
      } in
      let plain : sign_on on_left positive ≡ literal.is_plain = ap (sign_on on_left) sign
      ∙ sign_twice on_left literal.is_plain in
      let here : IsGiven lines (take (i + 1) leaves) on_left after new = (
        get_or leaves i 0,
        subst (λ ls. Contains ls (get_or leaves i 0)) (sym one_more)
            (Contains-push (take i leaves) (get_or leaves i 0)),
        subst (IsLiteralOf lines (get_or leaves i 0) literal.set) (sym plain) is,
        refl,
        own,
      ) in (
        λ c. elim (Contains-push_cases mid new asking c) [
          | inl was ↦ elim ((before asking).0 was)
              [ inl first ↦ inl first | inr given ↦ inr (still_given asking given) ]
          | inr same ↦ inr (subst (IsGiven lines (take (i + 1) leaves) on_left after) same here)
        ],
        elim [
          | inl was ↦ Contains-append_left mid (new ∷ []) asking ((before asking).1 (inl was))
          | inr given ↦ elim (given_cases asking given) [
            | inl earlier ↦ Contains-append_left mid (new ∷ []) asking
                ((before asking).1 (inr earlier))
            | inr now ↦
                let one = literal_once lines (get_or leaves i 0) literal.set asking.set
                literal.is_plain (sign_on on_left asking.positive) is now.0 in
                let signs : positive ≡ asking.positive = sign
                ∙ (ap (sign_on on_left) one.1 ∙ sign_twice on_left asking.positive) in
                let late : after ≡ asking.after = sym now.1 in
                let alike : family ≡ asking.family =
                family_once lines literal.set asking.set family asking.family one.0 own now.2 in
                let same : new ≡ asking = λ k. record {
                  set = one.0 k;
                  after = late k;
                  positive = signs k;
                  family = alike k;
                } in
                subst (Contains (mid ++ new ∷ [])) same (Contains-push mid new)
          ]
        ],
      )

-- what all leaves give
pub gathered_whole : (lines : List Line) (leaves : List ℕ) (i : ℕ) → length leaves ≤ i
    → (on_left after : Bool) (old new : List Asking)
    → AreGathered lines (take i leaves) on_left after old new
    → AreGathered lines leaves on_left after old new
gathered_whole lines leaves i size on_left after old new is =
    subst (λ ls. AreGathered lines ls on_left after old new) (take_all i leaves size) is

-- the leaves that are no literals

-- a literal is none of them
pub others_same : (lines : List Line) (before : List ℕ) (leaf : ℕ) (others : Others)
    → IsLiteral lines leaf → AreOthers lines before others
    → AreOthers lines (before ++ leaf ∷ []) others
others_same lines before leaf O.None is all = λ l c.
    elim (Contains-push_cases before leaf l c) [
      | inl was ↦ all l was
      | inr same ↦ subst (IsLiteral lines) same is
    ]
others_same lines before leaf (O.One other) is (has, out, rest) = (
  Contains-append_left before (leaf ∷ []) other has,
  out,
  λ l c. elim (Contains-push_cases before leaf l c) [
    | inl was ↦ rest l was
    | inr same ↦ inl (subst (IsLiteral lines) same is)
  ],
)
others_same lines before leaf O.More is (first, second, has, also, out, also_out, apart) = (
  first,
  second,
  Contains-append_left before (leaf ∷ []) first has,
  Contains-append_left before (leaf ∷ []) second also,
  out,
  also_out,
  apart,
)

-- one more
pub others_one : (lines : List Line) (before : List ℕ) (leaf : ℕ) → AreOthers lines before O.None
    → (IsLiteral lines leaf → ⊥) → AreOthers lines (before ++ leaf ∷ []) (O.One leaf)
others_one lines before leaf all out = (
  Contains-push before leaf,
  out,
  λ l c. elim (Contains-push_cases before leaf l c) [
    | inl was ↦ inl (all l was)
    | inr same ↦ inr (sym same)
  ],
)

pub others_again : (lines : List Line) (before : List ℕ) (leaf other : ℕ) → other ≡ leaf
    → AreOthers lines before (O.One other) → AreOthers lines (before ++ leaf ∷ []) (O.One other)
others_again lines before leaf other same (has, out, rest) = (
  Contains-append_left before (leaf ∷ []) other has,
  out,
  λ l c. elim (Contains-push_cases before leaf l c) [
    | inl was ↦ rest l was
    | inr here ↦ inr (sym here ∙ sym same)
  ],
)

pub others_two : (lines : List Line) (before : List ℕ) (leaf other : ℕ) → (other ≡ leaf → ⊥)
    → AreOthers lines before (O.One other) → (IsLiteral lines leaf → ⊥)
    → AreOthers lines (before ++ leaf ∷ []) O.More
others_two lines before leaf other apart (has, out, rest) also_out = (
  other,
  leaf,
  Contains-append_left before (leaf ∷ []) other has,
  Contains-push before leaf,
  out,
  also_out,
  apart,
)

pub others_more : (lines : List Line) (before : List ℕ) (leaf : ℕ) → AreOthers lines before O.More
    → AreOthers lines (before ++ leaf ∷ []) O.More
others_more lines before leaf (first, second, has, also, out, also_out, apart) = (
  first,
  second,
  Contains-append_left before (leaf ∷ []) first has,
  Contains-append_left before (leaf ∷ []) second also,
  out,
  also_out,
  apart,
)

-- at a place of a list
pub others_at : (lines : List Line) (leaves : List ℕ) (i : ℕ) (others : Others) → i < length leaves
    → AreOthers lines (take i leaves ++ get_or leaves i 0 ∷ []) others
    → AreOthers lines (take (i + 1) leaves) others
others_at lines leaves i others within are =
    let next : i + 1 ≡ suc i = omega arith in
    subst (λ ls. AreOthers lines ls others)
    (sym (ap (λ n. take n leaves) next ∙ take_more leaves i 0 within)) are

pub others_whole : (lines : List Line) (leaves : List ℕ) (i : ℕ) (others : Others)
    → length leaves ≤ i → AreOthers lines (take i leaves) others → AreOthers lines leaves others
others_whole lines leaves i others size are =
    subst (λ ls. AreOthers lines ls others) (take_all i leaves size) are
