-- The leaves that are kept of left sides stay right, and grow with the intersection.
use Rattle.std.proofs.Common.{◌≡◌, ℕ, suc, ◌<◌, ◌≤◌, ◌+◌, ◌∙◌, ◌⊎◌, ◌↔◌, ◌++◌}
use Rattle.std.proofs.Common.{List, [], ◌∷◌, length, get_or, drop, take}
use Rattle.std.proofs.Common.{refl, sym, ap, subst, inl, inr, arith}
use Rattle.std.proofs.lemmas.List.{take_all}
use Rattle.std.proofs.lemmas.List.Elements.{All-append, All-contains, All-drop}
use Rattle.std.proofs.lemmas.List.Elements.{All-take, All-weaker, Contains-append_left}
use Rattle.std.proofs.lemmas.List.Elements.{Contains-get_or, Contains-push, Contains-push_cases}
use Rattle.std.specs.Global.{Vec}
use Rattle.std.specs.List.{All, Contains, insert, remove}
use Rattle.hv_lines.specs.Numbering.{MayFollow, expr_count}
use Rattle.hv_lines.specs.Shapes.{IsAndLeaf, and_parts, of_left, of_right}
use Rattle.hv_lines.specs.declared.line.Expr.TheVariants as E
use Rattle.hv_lines.specs.declared.line.Line.{Line}
use Rattle.hv_lines.proofs.Elements.{all_from, head_in, in_mapped, of_one}
use Rattle.hv_lines.proofs.Laws.{exprs_grow}
use Rattle.hv_lines.proofs.Shaped.{leaf_below}
use Rattle.hv_basic.specs.Leaves.{IsLeafRead, places}
use Rattle.hv_basic.specs.Sharing.{AreItsFlags, AreItsLeaves, IsJointKept, IsRightSide, IsShared}
use Rattle.hv_basic.specs.Sharing.{SharedState}
use Rattle.hv_basic.specs.Working.Sharing.{AreLeavesWith, AreTakenLeaves, IsAndBeside}
use Rattle.hv_basic.specs.declared.shared.KeptLeaves.{KeptLeaves}
use Rattle.hv_basic.specs.declared.signed_sets.Leaf.{Leaf}
use Rattle.hv_basic.proofs.Flagging.{flagged_more}
use Rattle.hv_basic.proofs.Gathering.{take_more}
use Rattle.hv_basic.proofs.Joints.{joint_more}
use Rattle.hv_basic.proofs.Leafing.{leaf_parts}
use Rattle.hv_basic.proofs.Sharing.{and_earlier, insert_cases, insert_in, inserted, leaf_before}
use Rattle.hv_basic.proofs.Sharing.{leaf_more, read_more, side_stays}
use Rattle.hv_basic.proofs.Within.{map_has}

-- the identifier of a leaf
abbrev place_of : Leaf → ℕ
place_of leaf = leaf.place

-- what is kept of a left side stays right when a line is added
leaves_more : (line : Line) (older : List Line) (kept : KeptLeaves) → MayFollow older line
    → AreItsLeaves older kept → AreItsLeaves (line ∷ older) kept
leaves_more line older kept next is = record {
  table = (next, is.table);
  below = omega (arith, is.below, exprs_grow line older);
  leaves = λ leaf. (
    λ c. leaf_more line older next and_parts kept.root leaf is.table ((is.leaves leaf).0 c),
    λ of. (is.leaves leaf).1 (leaf_before line older next and_parts
        (and_earlier line older next is.table) kept.root leaf is.below of),
  );
  read = all_from (IsLeafRead (line ∷ older)) kept.leaves.items (λ leaf c.
      read_more line older next is.table leaf
      (leaf_below older and_parts kept.root leaf.place is.table
      ((is.leaves leaf.place).0 (map_has place_of kept.leaves.items leaf c)))
      (All-contains (IsLeafRead older) kept.leaves.items leaf is.read c));
}

pub shared_more : (line : Line) (older : List Line) (shared : SharedState) → MayFollow older line
    → IsShared older shared → IsShared (line ∷ older) shared
shared_more line older shared next is = record {
  sides = All-weaker (IsRightSide older) (IsRightSide (line ∷ older))
      (λ kept right. side_stays line older kept next right) shared.sides is.sides;
  lefts = All-weaker (AreItsLeaves older) (AreItsLeaves (line ∷ older))
      (λ kept right. leaves_more line older kept next right) shared.lefts is.lefts;
  joints = All-weaker (IsJointKept older) (IsJointKept (line ∷ older))
      (λ kept right. joint_more line older next kept right) shared.joints is.joints;
  flagged = All-weaker (AreItsFlags older) (AreItsFlags (line ∷ older))
      (λ kept right. flagged_more line older kept next right) shared.flagged is.flagged;
}

-- without one of what is kept
pub lefts_without : (lines : List Line) (lefts : List KeptLeaves) (place : ℕ)
    → All (AreItsLeaves lines) lefts → All (AreItsLeaves lines) (remove lefts place)
lefts_without lines lefts place are =
    All-append (AreItsLeaves lines) (take place lefts) (drop (suc place) lefts)
    (All-take (AreItsLeaves lines) place lefts are)
    (All-drop (AreItsLeaves lines) (suc place) lefts are)

-- one leaf more
pub leaf_put : (leaves : List Leaf) (i : ℕ) (leaf : Leaf)
    → AreLeavesWith (places leaves) (leaf.place ∷ []) (places (insert leaves i leaf))
leaf_put leaves i leaf p = (
  λ c.
      let w = in_mapped place_of (insert leaves i leaf) p c in
      elim (insert_cases leaves i leaf w.0 w.1) [
        | inl was ↦ inl (subst (Contains (places leaves)) w.2 (map_has place_of leaves w.0 was))
        | inr same ↦
            inr (subst (Contains (leaf.place ∷ [])) (ap place_of same ∙ w.2)
            (head_in leaf.place []))
      ],
  elim [
    | inl was ↦
        let w = in_mapped place_of leaves p was in
        subst (Contains (places (insert leaves i leaf))) w.2
        (map_has place_of (insert leaves i leaf) w.0 (insert_in leaves i leaf w.0 w.1))
    | inr here ↦
        of_one (Contains (places (insert leaves i leaf))) leaf.place
        (map_has place_of (insert leaves i leaf) leaf (inserted leaves i leaf)) p here
  ],
)

pub read_put : (lines : List Line) (leaves : List Leaf) (i : ℕ) (leaf : Leaf)
    → All (IsLeafRead lines) leaves → IsLeafRead lines leaf
    → All (IsLeafRead lines) (insert leaves i leaf)
read_put lines leaves i leaf read own =
    all_from (IsLeafRead lines) (insert leaves i leaf) (λ x c.
    elim (insert_cases leaves i leaf x c) [
      | inl was ↦ All-contains (IsLeafRead lines) leaves x read was
      | inr same ↦ subst (IsLeafRead lines) same own
    ])

-- one more of the leaves that are put in
pub leaves_put : (old mid new more : List ℕ) (i p : ℕ) → i < length more → get_or more i 0 ≡ p
    → AreLeavesWith old (take i more) mid → AreLeavesWith mid (p ∷ []) new
    → AreLeavesWith old (take (i + 1) more) new
leaves_put old mid new more i p within is before put leaf =
    let up : i + 1 ≡ suc i = omega arith in
    let next : take (i + 1) more ≡ take i more ++ p ∷ [] = ap (λ n. take n more) up
    ∙ (take_more more i 0 within ∙ ap (λ x. take i more ++ x ∷ []) is) in (
      λ c. elim ((put leaf).0 c) [
        | inl was ↦ elim ((before leaf).0 was) [
          | inl first ↦ inl first
          | inr early ↦ inr (subst (λ xs. Contains xs leaf) (sym next)
              (Contains-append_left (take i more) (p ∷ []) leaf early))
        ]
        | inr here ↦ inr (subst (λ xs. Contains xs leaf) (sym next)
            (of_one (Contains (take i more ++ p ∷ [])) p (Contains-push (take i more) p) leaf here))
      ],
      elim [
        | inl first ↦ (put leaf).1 (inl ((before leaf).1 (inl first)))
        | inr many ↦ elim (Contains-push_cases (take i more) p leaf
            (subst (λ xs. Contains xs leaf) next many)) [
              | inl early ↦ (put leaf).1 (inl ((before leaf).1 (inr early)))
              | inr same ↦ (put leaf).1 (inr (subst (Contains (p ∷ [])) same (head_in p [])))
            ]
      ],
    )

pub leaves_whole : (old more new : List ℕ) (i : ℕ) → length more ≤ i
    → AreLeavesWith old (take i more) new → AreLeavesWith old more new
leaves_whole old more new i whole are =
    subst (λ xs. AreLeavesWith old xs new) (take_all i more whole) are

-- the leaf at a place is there
pub leaf_at : (leaves : List Leaf) (place set : ℕ) (d : Leaf) → place < length leaves
    → (get_or leaves place d).place ≡ set → Contains (places leaves) set
leaf_at leaves place set d within is =
    subst (Contains (places leaves)) is
    (map_has place_of leaves (get_or leaves place d) (Contains-get_or leaves place d within))

-- what is kept becomes the intersection's
pub joined : (lines : List Line) (own : KeptLeaves) (root part : ℕ) (leaves : Vec Leaf)
    → root < expr_count lines → IsAndBeside lines own.root root part → AreItsLeaves lines own
    → ((leaf : ℕ) → Contains (places leaves.items) leaf
    ↔ (Contains (places own.leaves.items) leaf ⊎ IsAndLeaf lines part leaf))
    → All (IsLeafRead lines) leaves.items
    → AreTakenLeaves lines root (record { root = root; leaves = leaves })
joined lines own root part leaves below (_, both) is with read = (
  refl,
  record {
    table = is.table;
    below = below;
    leaves = λ leaf. (
      λ c. elim ((with leaf).0 c) [
        | inl was ↦ elim both [
          | inl at ↦ of_left root own.root part leaf (E.And own.root part) at refl
              ((is.leaves leaf).0 was)
          | inr at ↦ of_right root part own.root leaf (E.And part own.root) at refl
              ((is.leaves leaf).0 was)
        ]
        | inr of ↦ elim both [
          | inl at ↦ of_right root own.root part leaf (E.And own.root part) at refl of
          | inr at ↦ of_left root part own.root leaf (E.And part own.root) at refl of
        ]
      ],
      λ of. elim both [
        | inl at ↦ elim (leaf_parts and_parts lines root leaf (E.And own.root part)
            (own.root, part) at refl of) [
              | inl first ↦ (with leaf).1 (inl ((is.leaves leaf).1 first))
              | inr other ↦ (with leaf).1 (inr other)
            ]
        | inr at ↦ elim (leaf_parts and_parts lines root leaf (E.And part own.root)
            (part, own.root) at refl of) [
              | inl other ↦ (with leaf).1 (inr other)
              | inr first ↦ (with leaf).1 (inl ((is.leaves leaf).1 first))
            ]
      ],
    );
    read = read;
  },
)

-- leaves with those of a part
pub with_part : (lines : List Line) (part : ℕ) (old more new : List ℕ)
    → ((leaf : ℕ) → Contains more leaf ↔ IsAndLeaf lines part leaf) → AreLeavesWith old more new
    → (leaf : ℕ) → Contains new leaf ↔ (Contains old leaf ⊎ IsAndLeaf lines part leaf)
with_part lines part old more new are with leaf = (
  λ c. elim ((with leaf).0 c) [
    | inl was ↦ inl was
    | inr also ↦ inr ((are leaf).0 also)
  ],
  elim [
    | inl was ↦ (with leaf).1 (inl was)
    | inr also ↦ (with leaf).1 (inr ((are leaf).1 also))
  ],
)

-- the intersection of a set with itself has its leaves
pub joined_twice : (lines : List Line) (own : KeptLeaves) (root part : ℕ)
    → root < expr_count lines → IsAndBeside lines own.root root part → AreItsLeaves lines own
    → part ≡ own.root
    → AreTakenLeaves lines root (record { root = root; leaves = own.leaves })
joined_twice lines own root part below beside is same =
    joined lines own root part own.leaves below beside is (λ leaf. (
      λ c. inl c,
      elim [
        | inl c ↦ c
        | inr of ↦ (is.leaves leaf).1 (subst (λ set. IsAndLeaf lines set leaf) same of)
      ],
    )) is.read

-- the leaves of the set of which they were asked for
pub taken : (lines : List Line) (root : ℕ) (own : KeptLeaves) → AreTakenLeaves lines root own
    → (leaf : ℕ) → Contains (places own.leaves.items) leaf ↔ IsAndLeaf lines root leaf
taken lines root own (same, is) =
    subst (λ r. (leaf : ℕ) → Contains (places own.leaves.items) leaf ↔ IsAndLeaf lines r leaf) same
    is.leaves
