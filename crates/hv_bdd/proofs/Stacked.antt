-- A stack of nodes: what a step down, aside or up does to the paths that are left.
use Rattle.std.proofs.Common.{◌≡◌, ℕ, suc, ◌<◌, ◌≤◌, ◌+◌, ◌-◌, ◌∙◌, true, false, List, [], ◌∷◌}
use Rattle.std.proofs.Common.{◌++◌, cond, get_or, length, take, refl, sym, ap, arith, inl, inr}
use Rattle.std.proofs.Common.{subst, append_assoc}
use Rattle.std.proofs.lemmas.Bool.{cases_lt, eq-eqb, ne_eqb}
use Rattle.std.proofs.lemmas.List.{append-nil, get_or_append_left, get_or_at}
use Rattle.std.proofs.lemmas.List.{length-append}
use Rattle.std.proofs.Math.Seq.{take-length, take-suc}
use Rattle.hv_sets.specs.declared.cursor.Cursor.{Cursor}
use Rattle.hv_sets.specs.declared.literal.Literal.{Literal}
use Rattle.hv_bdd.specs.Nodes.{NodeList, node_count}
use Rattle.hv_bdd.specs.Paths.{IsStack, is_high, last_of, left_at, left_of, paths, with_bit}
use Rattle.hv_bdd.specs.Working.Paths.{literals_of}
use Rattle.hv_bdd.specs.Reduced.{IsReduced, node_at}
use Rattle.hv_bdd.specs.Working.Laws.{paths_end, paths_inner}

module _ (list : NodeList) (e : ℕ) where
  alone : (n : ℕ) (inner : List (List Literal)) → left_of list e (n ∷ []) inner ≡ inner
  unfolding left_of
  alone n inner = refl

  two : (n m : ℕ) (inner : List (List Literal)) → left_of list e (n ∷ m ∷ []) inner
      ≡ with_bit (node_at list n).atom (is_high list n m) inner
      ++ cond (is_high list n m) []
      (with_bit (node_at list n).atom true (paths list e (node_at list n).high))
  unfolding left_of
  two n m inner = refl

  -- below a prefix that stays, what is left goes by what is left of the rest
  pub left_below : (front : List ℕ) (n : ℕ) (more more' : List ℕ)
      (inner inner' : List (List Literal))
      → left_of list e (n ∷ more) inner ≡ left_of list e (n ∷ more') inner'
      → left_of list e (front ++ n ∷ more) inner ≡ left_of list e (front ++ n ∷ more') inner'
  unfolding left_of
  left_below [] n more more' inner inner' same = same
  left_below (f ∷ []) n more more' inner inner' same =
      ap (λ ps. with_bit (node_at list f).atom (is_high list f n) ps
      ++ cond (is_high list f n) []
      (with_bit (node_at list f).atom true (paths list e (node_at list f).high))) same
  left_below (f ∷ (g ∷ front)) n more more' inner inner' same =
      ap (λ ps. with_bit (node_at list f).atom (is_high list f g) ps
      ++ cond (is_high list f g) []
      (with_bit (node_at list f).atom true (paths list e (node_at list f).high)))
      (left_below (g ∷ front) n more more' inner inner' same)

  -- up from the high child: nothing is left below
  pub go_up : (front : List ℕ) (n m : ℕ) → is_high list n m ≡ true
      → left_of list e (front ++ n ∷ m ∷ []) [] ≡ left_of list e (front ++ n ∷ []) []
  go_up front n m high =
      left_below front n (m ∷ []) [] [] []
      (two n m []
      ∙ (ap (λ b.
      with_bit (node_at list n).atom b []
      ++ cond b [] (with_bit (node_at list n).atom true (paths list e (node_at list n).high)))
      high
      ∙ sym (alone n [])))

  -- up from the low child, where the high one has no paths
  pub go_up_low : (front : List ℕ) (n m : ℕ) → is_high list n m ≡ false
      → paths list e (node_at list n).high ≡ []
      → left_of list e (front ++ n ∷ m ∷ []) [] ≡ left_of list e (front ++ n ∷ []) []
  go_up_low front n m low none =
      left_below front n (m ∷ []) [] [] []
      (two n m []
      ∙ (ap (λ b.
      with_bit (node_at list n).atom b []
      ++ cond b [] (with_bit (node_at list n).atom true (paths list e (node_at list n).high)))
      low
      ∙ (ap (λ ps. with_bit (node_at list n).atom true ps) none ∙ sym (alone n []))))

  -- aside: after the low child comes the high one
  pub turn : (front : List ℕ) (n m : ℕ) → is_high list n m ≡ false
      → left_of list e (front ++ n ∷ m ∷ []) []
      ≡ left_of list e (front ++ n ∷ (node_at list n).high ∷ [])
      (paths list e (node_at list n).high)
  turn front n m low =
      left_below front n (m ∷ []) ((node_at list n).high ∷ []) []
      (paths list e (node_at list n).high)
      (two n m []
      ∙ (ap (λ b.
      with_bit (node_at list n).atom b []
      ++ cond b [] (with_bit (node_at list n).atom true (paths list e (node_at list n).high)))
      low
      ∙ sym (two n (node_at list n).high (paths list e (node_at list n).high)
      ∙ (ap (λ b.
      with_bit (node_at list n).atom b (paths list e (node_at list n).high)
      ++ cond b [] (with_bit (node_at list n).atom true (paths list e (node_at list n).high)))
      (eq-eqb (node_at list n).high (node_at list n).high refl)
      ∙ append-nil (with_bit (node_at list n).atom true (paths list e (node_at list n).high))))))

  module _ (reduced : IsReduced list) where
    -- down to the low child
    pub go_low : (front : List ℕ) (n : ℕ) → 2 ≤ n → n < node_count list
        → left_of list e (front ++ n ∷ []) (paths list e n)
        ≡ left_of list e (front ++ n ∷ (node_at list n).low ∷ [])
        (paths list e (node_at list n).low)
    go_low front n inner within =
        left_below front n [] ((node_at list n).low ∷ []) (paths list e n)
        (paths list e (node_at list n).low)
        (alone n (paths list e n) ∙ (paths_inner list e reduced n inner within
        ∙ sym (two n (node_at list n).low (paths list e (node_at list n).low)
        ∙ ap (λ b.
        with_bit (node_at list n).atom b (paths list e (node_at list n).low)
        ++ cond b [] (with_bit (node_at list n).atom true (paths list e (node_at list n).high)))
        (ne_eqb (node_at list n).low (node_at list n).high (reduced.apart n inner within)))))

    -- or to the high one, where the low one has no paths
    pub go_high : (front : List ℕ) (n : ℕ) → 2 ≤ n → n < node_count list
        → paths list e (node_at list n).low ≡ []
        → left_of list e (front ++ n ∷ []) (paths list e n)
        ≡ left_of list e (front ++ n ∷ (node_at list n).high ∷ [])
        (paths list e (node_at list n).high)
    go_high front n inner within none =
        left_below front n [] ((node_at list n).high ∷ []) (paths list e n)
        (paths list e (node_at list n).high)
        (alone n (paths list e n) ∙ (paths_inner list e reduced n inner within
        ∙ (ap (λ ps.
        with_bit (node_at list n).atom false ps
        ++ with_bit (node_at list n).atom true (paths list e (node_at list n).high)) none
        ∙ sym (two n (node_at list n).high (paths list e (node_at list n).high)
        ∙ (ap (λ b.
        with_bit (node_at list n).atom b (paths list e (node_at list n).high)
        ++ cond b [] (with_bit (node_at list n).atom true (paths list e (node_at list n).high)))
        (eq-eqb (node_at list n).high (node_at list n).high refl)
        ∙ append-nil (with_bit (node_at list n).atom true (paths list e (node_at list n).high)))))))

  -- at its end the stack gives the path that it denotes
  pub give : (stack : List ℕ) (n : ℕ) (rest : List (List Literal))
      → left_of list e (stack ++ n ∷ []) ([] ∷ rest)
      ≡ literals_of list (stack ++ n ∷ []) ∷ left_of list e (stack ++ n ∷ []) rest
  unfolding left_of literals_of
  give [] n rest = refl
  give (f ∷ []) n rest = refl
  give (f ∷ (g ∷ stack)) n rest =
      ap (λ ps. with_bit (node_at list f).atom (is_high list f g) ps
      ++ cond (is_high list f g) []
      (with_bit (node_at list f).atom true (paths list e (node_at list f).high)))
      (give (g ∷ stack) n rest)

-- the lists of a stack
pub none_left : (list : NodeList) (e : ℕ) (stack : List ℕ) → length stack ≤ 1
    → left_of list e stack [] ≡ []
unfolding left_of
none_left list e [] few = refl
none_left list e (n ∷ []) few = refl
none_left list e (n ∷ m ∷ more) few = absurd (omega arith)

-- an end to which no path leads
pub no_paths : (list : NodeList) (e node : ℕ) → e < 2 → node ≡ 1 - e → paths list e node ≡ []
no_paths list e node end other =
    paths_end list e node (omega arith)
    ∙ ap (λ b. cond b ([] ∷ []) []) (ne_eqb node e (λ same. omega arith))

pub one_path : (list : NodeList) (e : ℕ) → e < 2 → paths list e e ≡ [] ∷ []
one_path list e end = paths_end list e e end ∙ ap (λ b. cond b ([] ∷ []) []) (eq-eqb e e refl)

-- the last nodes of a stack
pub last_split : (stack : List ℕ) (n : ℕ) → length stack ≡ n + 1
    → stack ≡ take n stack ++ get_or stack n 0 ∷ []
last_split stack n size =
    sym (take-length stack)
    ∙ (ap (λ k. take k stack) (let f : length stack ≡ suc n = omega arith in f)
    ∙ take-suc stack n 0 (omega arith))

pub last_one : (stack : List ℕ) (k at : ℕ) → at ≡ k + 1 → at ≤ length stack
    → take at stack ≡ take k stack ++ get_or stack k 0 ∷ []
last_one stack k at next within =
    ap (λ n. take n stack) (let f : at ≡ suc k = omega arith in f)
    ∙ take-suc stack k 0 (omega arith)

pub last_two : (stack : List ℕ) (k at count : ℕ) → at ≡ k + 1 → count ≡ at + 1
    → count ≤ length stack
    → take count stack ≡ take k stack ++ get_or stack k 0 ∷ get_or stack at 0 ∷ []
last_two stack k at count next last within =
    last_one stack at count last within
    ∙ (ap (λ xs. xs ++ get_or stack at 0 ∷ []) (last_one stack k at next (omega arith))
    ∙ append_assoc (take k stack) (get_or stack k 0 ∷ []) (get_or stack at 0 ∷ []))

-- a stack with one node more
pub last_push : (stack : List ℕ) (n : ℕ) → last_of (stack ++ n ∷ []) ≡ n
last_push stack n =
    get_or_at stack n [] 0 (length (stack ++ n ∷ []) - 1)
    (let l = length-append stack (n ∷ []) in omega arith)

module _ (list : NodeList) (stack : List ℕ) where
  -- with a further node below the last
  pub stack_push : (n : ℕ) → IsStack list stack → 2 ≤ last_of stack → n < node_count list
      → IsStack list (stack ++ n ∷ [])
  stack_push n is inner within =
      let size = length-append stack (n ∷ []) in
      record {
        some = omega arith;
        node = λ k less. elim (cases_lt k (length stack)) [
          | inl old ↦ subst (λ x. x < node_count list)
              (sym (get_or_append_left stack (n ∷ []) 0 k old)) (is.node k old)
          | inr new ↦ subst (λ x. x < node_count list)
              (sym (get_or_at stack n [] 0 k (omega arith))) within
        ];
        inner = λ k less. elim (cases_lt (k + 1) (length stack)) [
          | inl old ↦ subst (λ x. 2 ≤ x) (sym (get_or_append_left stack (n ∷ []) 0 k (omega arith)))
              (is.inner k old)
          | inr new ↦ subst (λ x. 2 ≤ x) (sym (get_or_append_left stack (n ∷ []) 0 k (omega arith)))
              (subst (λ j. 2 ≤ get_or stack j 0) (let f : length stack - 1 ≡ k = omega arith in f)
              inner)
        ];
      }

pub left_later : (list : NodeList) (e root : ℕ) (cursor : Cursor) → (cursor.place ≡ 0 → ⊥)
    → left_at list e root cursor ≡ left_of list e cursor.path.items []
left_later list e root cursor later =
    ap (λ b. cond b (paths list e root) (left_of list e cursor.path.items []))
    (ne_eqb cursor.place 0 later)

-- at the end of a path, the path is the next one
pub gives : (list : NodeList) (e : ℕ) (stack : List ℕ) → 0 < length stack → e < 2
    → left_of list e stack (paths list e e) ≡ literals_of list stack ∷ left_of list e stack []
gives list e stack some end =
    subst (λ xs. left_of list e xs (paths list e e) ≡ literals_of list xs ∷ left_of list e xs [])
    (sym (last_split stack (length stack - 1) (omega arith)))
    (ap (left_of list e (take (length stack - 1) stack ++ get_or stack (length stack - 1) 0 ∷ []))
    (one_path list e end)
    ∙ give list e (take (length stack - 1) stack) (get_or stack (length stack - 1) 0) [])

-- the literals of a path with one node more
pub literals_push : (list : NodeList) (front : List ℕ) (n m : ℕ)
    → literals_of list (front ++ n ∷ m ∷ []) ≡ literals_of list (front ++ n ∷ []) ++ record {
      atom =
          (node_at list n).atom;
      positive = is_high list n m;
    } ∷ []
unfolding literals_of
literals_push list [] n m = refl
literals_push list (f ∷ []) n m = refl
literals_push list (f ∷ (g ∷ front)) n m =
    ap (λ ls. record { atom = (node_at list f).atom; positive = is_high list f g } ∷ ls)
    (literals_push list (g ∷ front) n m)

pub literals_few : (list : NodeList) (stack : List ℕ) → length stack ≤ 1
    → literals_of list stack ≡ []
unfolding literals_of
literals_few list [] few = refl
literals_few list (n ∷ []) few = refl
literals_few list (n ∷ m ∷ more) few = absurd (omega arith)

-- a step down to a child
pub down : (list : NodeList) (e : ℕ) (stack : List ℕ) (n m : ℕ) → 0 < length stack
    → last_of stack ≡ n
    → ((front : List ℕ)
    → left_of list e (front ++ n ∷ []) (paths list e n)
    ≡ left_of list e (front ++ n ∷ m ∷ []) (paths list e m))
    → left_of list e (stack ++ m ∷ []) (paths list e m) ≡ left_of list e stack (paths list e n)
down list e stack n m some last step =
    let front = take (length stack - 1) stack in
    let split : stack
    ≡ front ++ n
    ∷ [] = subst (λ x. stack ≡ front ++ x ∷ []) last
    (last_split stack (length stack - 1) (omega arith)) in
    subst (λ s. left_of list e (s ++ m ∷ []) (paths list e m) ≡ left_of list e s (paths list e n))
    (sym split)
    (ap (λ s. left_of list e s (paths list e m)) (append_assoc front (n ∷ []) (m ∷ []))
    ∙ sym (step front))

-- the root alone
pub root_left : (list : NodeList) (e root : ℕ)
    → left_of list e (root ∷ []) (paths list e (last_of (root ∷ []))) ≡ paths list e root
unfolding left_of
root_left list e root = refl
