-- Rows of nodes for the literals of a batch, and what they tell of two literals.
use Rattle.std.proofs.Common.{◌≡◌, ◌≢◌, ℕ, ◌<◌, ◌≤◌, ◌+◌, ◌*◌, ◌/◌, ◌%◌, ◌∙◌, ◌++◌, ◌∷◌, Bool}
use Rattle.std.proofs.Common.{true, false, List, [], bit_or, cond, get_or, inl, inr, length, not}
use Rattle.std.proofs.Common.{refl, sym, ap, arith, subst, set, replicate}
use Rattle.std.proofs.Math.ListN.{get_or-append}
use Rattle.std.proofs.lemmas.Bool.{and_parts, cases_Bool, cases_eq, cases_lt}
use Rattle.std.proofs.lemmas.Grind.{get_or-set_at}
use Rattle.std.proofs.lemmas.List.{get_or_default, get_or_push, get_or-replicate, get_or-set_other}
use Rattle.std.proofs.lemmas.List.{length_push, length-replicate, length-set}
use Rattle.std.proofs.lemmas.Nat.Bits.{bit_at-lt, bit_at_ones, bit_at_or}
use Rattle.std.specs.Global.{Vec}
use Rattle.std.specs.Int.{bit_at}
use Rattle.hv_task.specs.State.{has_atom}
use Rattle.hv_sets.specs.declared.literal.Literal.{Literal}
use Rattle.hv_sets.specs.Truth.{in_cube, in_literal}
use Rattle.hv_sets.proofs.Truths.{in_push}
use Rattle.hv_paths.proofs.Filled.{cube_has}
use Rattle.hv_bdd.specs.declared.node_exclusions.Landing.{Landing}
use Rattle.hv_bdd.specs.declared.level.Level.{Level}
use Rattle.hv_bdd.specs.declared.node.Node.{Node}
use Rattle.hv_bdd.specs.Exclusions.{AreExclusions, IsBatch, bit_of, word_place}
use Rattle.hv_bdd.specs.Fronts.{AreBelowBound, HoldCube, IsLevel}
use Rattle.hv_bdd.specs.Nodes.{NodeList, in_node, node_count}
use Rattle.hv_bdd.specs.Reduced.{IsReduced, child, node_at}
use Rattle.hv_bdd.specs.Working.Excluding.{AreLandings, AreMasks, HasExclusion, IsExcluded}
use Rattle.hv_bdd.specs.Working.Excluding.{IsLanding, IsMask}
use Rattle.hv_bdd.specs.Working.Fronts.{IsMetNowhere}
use Rattle.hv_bdd.specs.Working.Walking.{child_less, in_inner}
use Rattle.hv_bdd.proofs.Advanced.{not_bad}

sign_few : (b : Bool) → cond b 1 0 < 2
sign_few true = omega arith
sign_few false = omega arith

sign_one : (b : Bool) → b ≡ true → ◌≡◌ {A = ℕ} (cond b 1 0) 1
sign_one true e = refl
sign_one false e = let f : false ≡ true = e in absurd cc

sign_none : (b : Bool) → b ≡ false → ◌≡◌ {A = ℕ} (cond b 1 0) 0
sign_none false e = refl
sign_none true e = let f : true ≡ false = e in absurd cc

sign_same : (a b : Bool) → ◌≡◌ {A = ℕ} (cond a 1 0) (cond b 1 0) → a ≡ b
sign_same true true e = refl
sign_same false false e = refl
sign_same true false e = absurd (omega (arith, e))
sign_same false true e = absurd (omega (arith, e))

pub bit_few : (x : Literal) → bit_of x < 64
bit_few x = let few = sign_few x.positive in omega arith

-- a literal that is true tells the flag of its atom
flag_is : (x : Literal) (s : List Bool) → in_literal x s ≡ true → has_atom s x.atom ≡ x.positive
flag_is x s is = flag x.positive (has_atom s x.atom) is
  where
    flag : (sign b : Bool) → cond sign b (not b) ≡ true → b ≡ sign
    flag true b e = e
    flag false true e = let f : false ≡ true = e in absurd cc
    flag false false e = refl

both : (b : Bool) → b ≡ true → b ≡ false → ⊥
both true e f = let g : true ≡ false = f in absurd cc
both false e f = let g : false ≡ true = e in absurd cc

pub or_left : (a b i : ℕ) → bit_at a i ≡ 1 → bit_at (bit_or a b) i ≡ 1
or_left a b i is = let e = bit_at_or a b i in let f = bit_at-lt b i in omega arith

pub or_right : (a b i : ℕ) → bit_at b i ≡ 1 → bit_at (bit_or a b) i ≡ 1
or_right a b i is = let e = bit_at_or a b i in let f = bit_at-lt a i in omega arith

-- the masks of the ends
module _ (list : NodeList) (inside : Bool) (reduced : IsReduced list) (batch : ℕ) where
  pub mask_none : (node : ℕ) → node ≡ cond inside 0 1 → IsMask list inside batch node 0
  mask_none node bad x s in_batch is so =
      absurd (not_bad list inside reduced s (ap (λ n. in_node list n s) (sym bad) ∙ is))

  pub mask_all : (node : ℕ) → IsMask list inside batch node 18446744073709551615
  mask_all node x s in_batch is so = bit_at_ones 64 (bit_of x) (bit_few x)

  -- and of a node whose children's are there
  module _ (node : ℕ) (masks : List ℕ) (listed : Node) (inner : 2 ≤ node)
      (within : node < node_count list) (size : length masks ≡ node)
      (are : AreMasks list inside batch masks) (is_listed : listed ≡ node_at list node) where
    mask_step : (word : ℕ)
        → ((x : Literal) (s : List Bool) → x.atom / 32 ≡ batch → in_literal x s ≡ true
        → has_atom s listed.atom ≡ true
        → bit_at (get_or masks listed.high 0) (bit_of x) ≡ 1 → bit_at word (bit_of x) ≡ 1)
        → ((x : Literal) (s : List Bool) → x.atom / 32 ≡ batch → in_literal x s ≡ true
        → has_atom s listed.atom ≡ false
        → bit_at (get_or masks listed.low 0) (bit_of x) ≡ 1 → bit_at word (bit_of x) ≡ 1)
        → IsMask list inside batch node word
    mask_step word by_high by_low x s in_batch is so = go (has_atom s listed.atom) refl
      where
        goes : (b : Bool) → has_atom s listed.atom ≡ b
            → bit_at (get_or masks (child list node b) 0) (bit_of x) ≡ 1
        goes b e =
            let less = child_less list reduced node b inner within in
            are (child list node b) (omega arith) x s in_batch
            (ap (λ c. in_node list (child list node c) s)
            (sym (sym (ap (λ n. has_atom s n.atom) is_listed) ∙ e))
            ∙ sym (in_inner list reduced s node inner within) ∙ is) so

        go : (b : Bool) → has_atom s listed.atom ≡ b → bit_at word (bit_of x) ≡ 1
        go true e = by_high x s in_batch so e
            (ap (λ n. bit_at (get_or masks n.high 0) (bit_of x)) is_listed ∙ goes true e)
        go false e = by_low x s in_batch so e
            (ap (λ n. bit_at (get_or masks n.low 0) (bit_of x)) is_listed ∙ goes false e)

    -- it asks for an atom of another batch
    pub mask_whole : IsMask list inside batch node
        (bit_or (get_or masks listed.low 0) (get_or masks listed.high 0))
    mask_whole = mask_step (bit_or (get_or masks listed.low 0) (get_or masks listed.high 0))
        (λ x s in_batch so e has. or_right (get_or masks listed.low 0)
        (get_or masks listed.high 0) (bit_of x) has)
        (λ x s in_batch so e has. or_left (get_or masks listed.low 0)
        (get_or masks listed.high 0) (bit_of x) has)

    -- or for one of this batch
    pub mask_parted : (low high bit : ℕ) → listed.atom / 32 ≡ batch → bit ≡ listed.atom % 32 * 2
        → ((i : ℕ) → i < 64 → i ≢ bit + 1 → bit_at low i ≡ bit_at (get_or masks listed.low 0) i)
        → ((i : ℕ) → i < 64 → i ≢ bit → bit_at high i ≡ bit_at (get_or masks listed.high 0) i)
        → IsMask list inside batch node (bit_or low high)
    mask_parted low high bit here at keeps_low keeps_high = mask_step (bit_or low high)
        (λ x s in_batch so held has. or_right low high (bit_of x)
        (keeps_high (bit_of x) (bit_few x) (not_low x s in_batch so held) ∙ has))
        (λ x s in_batch so held has. or_left low high (bit_of x)
        (keeps_low (bit_of x) (bit_few x) (not_high x s in_batch so held) ∙ has))
      where
        not_low : (x : Literal) (s : List Bool) → x.atom / 32 ≡ batch → in_literal x s ≡ true
            → has_atom s listed.atom ≡ true → bit_of x ≡ bit → ⊥
        not_low x s in_batch so held same = elim (cases_Bool x.positive) [
          | inl pos ↦ let one = sign_one x.positive pos in omega arith
          | inr neg ↦
              let none = sign_none x.positive neg in
              let atom : x.atom ≡ listed.atom = omega arith in
              both (has_atom s listed.atom) held
              (ap (has_atom s) (sym atom) ∙ flag_is x s so ∙ neg)
        ]

        not_high : (x : Literal) (s : List Bool) → x.atom / 32 ≡ batch → in_literal x s ≡ true
            → has_atom s listed.atom ≡ false → bit_of x ≡ bit + 1 → ⊥
        not_high x s in_batch so held same = elim (cases_Bool x.positive) [
          | inl pos ↦
              let one = sign_one x.positive pos in
              let atom : x.atom ≡ listed.atom = omega arith in
              both (has_atom s listed.atom)
              (ap (has_atom s) (sym atom) ∙ flag_is x s so ∙ pos) held
          | inr neg ↦ let none = sign_none x.positive neg in omega arith
        ]

-- a mask more
pub masks_more : (list : NodeList) (inside : Bool) (batch : ℕ) (masks new : List ℕ) (mask : ℕ)
    → AreMasks list inside batch masks → IsMask list inside batch (length masks) mask
    → new ≡ masks ++ mask ∷ [] → AreMasks list inside batch new
masks_more list inside batch masks new mask are one is n less =
    let size = ap length is ∙ length_push masks mask in
    elim (cases_lt n (length masks)) [
      | inl before ↦
          subst (IsMask list inside batch n)
          (sym (ap (λ xs. get_or xs n 0) is ∙ get_or-append masks (mask ∷ []) 0 n before))
          (are n before)
      | inr behind ↦
          let last : length masks ≡ n = omega arith in
          subst (λ k. IsMask list inside batch k (get_or new k 0)) last
          (subst (IsMask list inside batch (length masks))
          (sym (ap (λ xs. get_or xs (length masks) 0) is
          ∙ get_or_push masks mask 0 (length masks) refl)) one)
    ]

-- two literals whose words stand at one place are the same
place_same : (x y : Literal) → word_place x ≡ word_place y → x ≡ y
place_same x y same =
    let few = sign_few x.positive in
    let less = sign_few y.positive in
    let atoms : x.atom ≡ y.atom = omega arith in
    let signs : ◌≡◌ {A = ℕ} (cond x.positive 1 0) (cond y.positive 1 0) = omega arith in
    ap (λ (n : ℕ). let r : Literal = record { atom = n; positive = x.positive } in r) atoms
    ∙ ap (λ (p : Bool). let r : Literal = record { atom = y.atom; positive = p } in r)
    (sign_same x.positive y.positive signs)

-- nothing is known yet
pub words_none : (list : NodeList) (inside : Bool) (node batch count : ℕ)
    → IsBatch list inside node batch (replicate count 18446744073709551615)
words_none list inside node batch count x y s in_batch is so too less =
    ap (λ w. bit_at w (bit_of x)) (get_or-replicate count (word_place y) 18446744073709551615 0
    (subst (λ n. word_place y < n) (length-replicate count 18446744073709551615) less))
    ∙ bit_at_ones 64 (bit_of x) (bit_few x)

-- a word more
pub words_more : (list : NodeList) (inside : Bool) (node batch : ℕ) (words masks : List ℕ)
    (landing : Landing) (word : ℕ) → AreMasks list inside batch masks → length masks ≡ node + 1
    → IsLanding list inside node landing
    → ((k i : ℕ) → k < length landing.nodes.items
    → bit_at (get_or masks (get_or landing.nodes.items k 0) 0) i ≡ 1 → bit_at word i ≡ 1)
    → IsBatch list inside node batch words
    → IsBatch list inside node batch (set words (word_place landing.literal) word)
words_more list inside node batch words masks landing word are size is_landing has old x y s
    in_batch is so too less =
    let within : word_place y < length words =
    subst (λ n. word_place y < n) (length-set words (word_place landing.literal) word) less in
    elim (cases_eq (word_place y) (word_place landing.literal)) [
      | inl same ↦
          let y_is : y ≡ landing.literal = place_same y landing.literal same in
          let here : in_cube (landing.literal ∷ []) s ≡ true =
          in_push [] landing.literal s ∙ (ap (λ l. in_literal l s) (sym y_is) ∙ too) in
          let w = is_landing.holds s here is in
          let c = w.1 in
          let at : get_or landing.nodes.items (c.0) 0 ≡ w.0 =
          get_or_default landing.nodes.items (c.0) 0 (w.0) (c.1) ∙ c.2 in
          let under = is_landing.below (c.0) (c.1) in
          let bit : bit_at (get_or masks (get_or landing.nodes.items (c.0) 0) 0) (bit_of x) ≡ 1 =
          are (get_or landing.nodes.items (c.0) 0) (omega (arith, under, size)) x s in_batch
          (ap (λ n. in_node list n s) at ∙ w.2) so in
          ap (λ v. bit_at v (bit_of x))
          (get_or-set_at words (word_place landing.literal) (word_place y) word 0 same
          (subst (λ n. n < length words) same within))
          ∙ has (c.0) (bit_of x) (c.1) bit
      | inr other ↦
          ap (λ v. bit_at v (bit_of x))
          (get_or-set_other words (word_place landing.literal) (word_place y) word 0 other)
          ∙ old x y s in_batch is so too within
    ]

-- a batch more
pub table_more : (list : NodeList) (inside : Bool) (node : ℕ) (table : List (Vec ℕ))
    (words : Vec ℕ) → AreExclusions list inside node table
    → IsBatch list inside node (length table) words.items
    → AreExclusions list inside node (table ++ words ∷ [])
table_more list inside node table words are one batch d less =
    let size = length_push table words in
    elim (cases_lt batch (length table)) [
      | inl before ↦
          subst (λ (v : Vec ℕ). IsBatch list inside node batch v.items)
          (sym (get_or-append table (words ∷ []) d batch before)) (are batch d before)
      | inr behind ↦
          let last : batch ≡ length table = omega arith in
          subst (λ (v : Vec ℕ). IsBatch list inside node batch v.items)
          (sym (get_or_push table words d batch (sym last)))
          (subst (λ k. IsBatch list inside node k words.items) (sym last) one)
    ]

-- the nodes of the level after a literal
pub landing_is : (list : NodeList) (inside : Bool) (node : ℕ) (literal : Literal) (nodes : Vec ℕ)
    (level : Level) → literal.atom < list.atoms → nodes.items ≡ level.start.items
    → IsLevel list inside node (literal ∷ []) level
    → IsLanding list inside node (record { literal = literal; nodes = nodes })
landing_is list inside node literal nodes level atom same is = record {
  atom = atom;
  below = subst (λ xs. AreBelowBound (node + 1) xs) (sym same) is.start_below;
  holds = subst (λ xs. HoldCube list inside node (literal ∷ []) xs) (sym same) is.start;
}

-- a landing more
pub landings_more : (list : NodeList) (inside : Bool) (node : ℕ) (landings : List Landing)
    (landing : Landing) → AreLandings list inside node landings → IsLanding list inside node landing
    → AreLandings list inside node (landings ++ landing ∷ [])
landings_more list inside node landings landing are one k d less =
    let size = length_push landings landing in
    elim (cases_lt k (length landings)) [
      | inl before ↦
          subst (IsLanding list inside node)
          (sym (get_or-append landings (landing ∷ []) d k before)) (are k d before)
      | inr behind ↦
          let last : length landings ≡ k = omega arith in
          subst (IsLanding list inside node) (sym (get_or_push landings landing d k last)) one
    ]

-- one more mask is joined
pub joined_more : (masks nodes : List ℕ) (word place : ℕ)
    → ((k i : ℕ) → k < place → bit_at (get_or masks (get_or nodes k 0) 0) i ≡ 1
    → bit_at word i ≡ 1)
    → (k i : ℕ) → k < place + 1 → bit_at (get_or masks (get_or nodes k 0) 0) i ≡ 1
    → bit_at (bit_or word (get_or masks (get_or nodes place 0) 0)) i ≡ 1
joined_more masks nodes word place before k i less has =
    elim (cases_lt k place) [
      | inl early ↦ or_left word (get_or masks (get_or nodes place 0) 0) i (before k i early has)
      | inr late ↦
          let e : place ≡ k = omega arith in
          or_right word (get_or masks (get_or nodes place 0) 0) i
          (ap (λ j. bit_at (get_or masks (get_or nodes j 0) 0) i) e ∙ has)
    ]

-- two literals of which one excludes the other have no state
module _ (list : NodeList) (inside : Bool) (node : ℕ) (table : List (Vec ℕ))
    (known : AreExclusions list inside node table) where
  excluded_never : (x y : Literal) (s : List Bool) → IsExcluded table x y
      → in_node list node s ≡ inside → in_literal x s ≡ true → in_literal y s ≡ true → ⊥
  excluded_never x y s e is so too =
      e.clear (subst (λ (v : Vec ℕ). IsBatch list inside node (x.atom / 32) v.items) e.there
      (known (x.atom / 32) e.words e.batch) x y s refl is so too e.word)

  pub excluded_nowhere : (old : List Literal) (l : Literal) → HasExclusion table old l
      → IsMetNowhere list inside node (old ++ l ∷ [])
  excluded_nowhere old l (x, has, out) s h is =
      let parts = and_parts (in_cube old s) (in_literal l s) (sym (in_push old l s) ∙ h) in
      let one : in_literal x s ≡ true = cube_has old s x (parts.0) has in
      elim out [
        | inl e ↦ excluded_never x l s e is one (parts.1)
        | inr e ↦ excluded_never l x s e is (parts.1) one
      ]
