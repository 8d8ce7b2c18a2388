-- Sums over the atoms of a set.
use Rattle.std.proofs.Common.{add-one, Some, ◌≡◌, ℕ, zero, suc, ◌+◌, ◌%◌, ◌^◌, ◌<◌, ◌≤◌, ◌∙◌, ◌&&◌}
use Rattle.std.proofs.Common.{◌||◌, ◌⊎◌, not, Bool, true, false, cond, List, [], ◌∷◌, ◌++◌, length}
use Rattle.std.proofs.Common.{get_or, take, refl, sym, ap, ap₂, arith, inl, inr, subst}
use Rattle.std.proofs.Math.Nat.{mod-add-mod}
use Rattle.std.proofs.lemmas.List.{get_or-take, get_or_default, length-take}
use Rattle.std.proofs.lemmas.List.Elements.{All-contains, Contains-append_left, Contains-push}
use Rattle.std.proofs.lemmas.List.Elements.{Contains-push_cases}
use Rattle.std.specs.List.Sorted.{IsStrictlyIncreasing}
use Rattle.hv_task.specs.declared.action.Action.{Action}
use Rattle.hv_task.specs.State.{AreBelow, names_atom}
use Rattle.hv_task.specs.Strips.{IsOver}
use Rattle.hv_task.specs.Atoms.{IsNext, is_after}
use Rattle.hv_task.proofs.Places.{names_atom-Decides}
use Rattle.hv_task.proofs.Rising.{rises_apart}
use Rattle.std.proofs.lemmas.Bool.{false_from_ne_true, both_ways, cases_lt, cases_eq, cases_Bool}
use Rattle.std.proofs.lemmas.Bool.{cond-true, cond-false}
use Rattle.hv_explicit.specs.Working.Codes.{IsAfterCode, IsCode, IsListCode, code_sum, total}
use Rattle.hv_explicit.specs.Working.Codes.{weight, with_more, without}
use Rattle.hv_explicit.proofs.Clashes.{below_after, below_list}

-- a set with the same atoms below the bound has the same sum
pub total_same : (key : ℕ) (f g : ℕ → Bool) (n : ℕ) → ((p : ℕ) → p < n → f p ≡ g p) → total key f n
    ≡ total key g n
total_same key f g zero same = refl
total_same key f g (suc n) same =
    ap₂ (λ a b. a + b) (total_same key f g n (λ p less. same p (omega arith)))
    (ap (λ b. cond b (weight key n) 0) (same n (omega arith)))

-- one atom more
pub total_more : (key : ℕ) (f g : ℕ → Bool) (n a : ℕ) → a < n → f a ≡ false → g a ≡ true →
    ((p : ℕ) → (p ≡ a → ⊥) → f p ≡ g p)
    → total key g n ≡ total key f n + weight key a
total_more key f g zero a less out in_ same = absurd (omega arith)
total_more key f g (suc n) a less out in_ same =
    elim (cases_eq n a) [
      | inl e ↦
          let front : total key f n ≡ total key g n = total_same key f g n
          (λ p below. same p (λ q. omega arith)) in
          let last_f : cond (f n) (weight key n) 0 ≡ 0 = cond-false (f n) (weight key n) 0
          (ap f e ∙ out) in
          let last_g : cond (g n) (weight key n) 0 ≡ weight key n = cond-true (g n) (weight key n)
          0 (ap g e ∙ in_) in
          let w : weight key n ≡ weight key a = ap (λ p. weight key p) e in
          omega arith
      | inr other ↦
          let front = total_more key f g n a (omega arith) out in_ same in
          let last : cond (f n) (weight key n) 0 ≡ cond (g n) (weight key n) 0 = ap
          (λ b. cond b (weight key n) 0) (same n other) in
          omega arith
    ]

-- the code of one atom more
pub code_more : (key : ℕ) (f g : ℕ → Bool) (n a code : ℕ) → a < n → f a ≡ false → g a ≡ true →
    ((p : ℕ) → (p ≡ a → ⊥) → f p ≡ g p)
    → code ≡ code_sum key f n → (code + weight key a) % 2 ^ 64 ≡ code_sum key g n
code_more key f g n a code less out in_ same is =
    ap (λ c. (c + weight key a) % 2 ^ 64) is ∙ mod-add-mod (total key f n) (2 ^ 64) (weight key a)
    ∙ ap (λ t. t % 2 ^ 64) (sym (total_more key f g n a less out in_ same))

-- and of one less: what with the atom's number wraps back to the code
pub code_less : (key : ℕ) (f g : ℕ → Bool) (n a code less : ℕ) → a < n → f a ≡ true → g a ≡ false →
    ((p : ℕ) → (p ≡ a → ⊥) → g p ≡ f p)
    → code ≡ code_sum key f n → less < 2 ^ 64 → (less + weight key a) % 2 ^ 64 ≡ code → less ≡
    code_sum key g n
code_less key f g n a code less within in_ out same is fits back =
    let more = code_more key g f n a (code_sum key g n) within out in_ same refl in
    cancel less (code_sum key g n) (weight key a) fits (omega arith) (back ∙ is ∙ sym more)
  where
    cancel : (x y w : ℕ) → x < 2 ^ 64 → y < 2 ^ 64 → (x + w) % 2 ^ 64 ≡ (y + w) % 2 ^ 64 → x ≡ y
    cancel x y w fit_x fit_y e = omega arith

pub code_agrees : (key : ℕ) (f g : ℕ → Bool) (n code : ℕ) → ((p : ℕ) → f p ≡ g p) → code ≡ code_sum
    key f n → code ≡ code_sum key g n
code_agrees key f g n code same is = is ∙ ap (λ t. t % 2 ^ 64)
    (total_same key f g n (λ p less. same p))

-- a list with one atom more at its end
pub named_last : (xs : List ℕ) (x : ℕ) → names_atom (xs ++ x ∷ []) x ≡ true
named_last xs x = (names_atom-Decides (xs ++ x ∷ []) x).1 (Contains-push xs x)

pub named_other : (xs : List ℕ) (x p : ℕ) → (p ≡ x → ⊥) → names_atom xs p ≡ names_atom
    (xs ++ x ∷ []) p
named_other xs x p other =
    elim (cases_Bool (names_atom xs p)) [
      | inl is ↦ is ∙ sym ((names_atom-Decides (xs ++ x ∷ []) p).1
          (Contains-append_left xs (x ∷ []) p ((names_atom-Decides xs p).0 is)))
      | inr isnt ↦ isnt ∙ sym (false_from_ne_true (names_atom (xs ++ x ∷ []) p) (λ e.
          elim (Contains-push_cases xs x p ((names_atom-Decides (xs ++ x ∷ []) p).0 e)) [
            | inl old ↦ both_ways (names_atom xs p) isnt ((names_atom-Decides xs p).1 old)
            | inr last ↦ other (sym last)
          ]))
    ]

-- in a list that rises an atom isn't among those before it
pub not_yet : (xs : List ℕ) (i : ℕ) → IsStrictlyIncreasing xs → i < length xs → names_atom
    (take i xs) (get_or xs i 0) ≡ false
not_yet xs i rises within = false_from_ne_true (names_atom (take i xs) (get_or xs i 0)) (λ e.
    let c = (names_atom-Decides (take i xs) (get_or xs i 0)).0 e in
    let size = length-take i xs in
    let place : c.0 < i = omega (arith, c.1) in
    let apart = rises_apart xs c.0 i rises place within in
    let at : get_or xs c.0 0 ≡ get_or xs i 0 =
    get_or_default xs c.0 0 (get_or xs i 0) (omega arith) ∙
    (sym (get_or-take i xs c.0 (get_or xs i 0) place) ∙ c.2) in omega arith)

-- one deleted atom more
module _ (key : ℕ) (del add held : List ℕ) (x n code less : ℕ) (fresh : names_atom del x ≡ false)
    (is : code ≡ code_sum key (without del add held) n) where
  rest : (p : ℕ) → (p ≡ x → ⊥) → without (del ++ x ∷ []) add held p ≡ without del add held p
  rest p other = ap (λ b. names_atom held p && not (b && not (names_atom add p)))
      (sym (named_other del x p other))

  at_x : (h d a : Bool) → (h ≡ false) ⊎ (a ≡ true) → (h && not (d && not a)) ≡ h
  at_x false d a e = refl
  at_x true true true e = refl
  at_x true false a e = refl
  at_x true true false (inl e) = let f : true ≡ false = e in absurd cc
  at_x true true false (inr e) = let f : false ≡ true = e in absurd cc

  pub without_kept : less ≡ code → (names_atom held x ≡ false) ⊎ (names_atom add x ≡ true) → less ≡
      code_sum key (without (del ++ x ∷ []) add held) n
  without_kept same e = code_agrees key (without del add held) (without (del ++ x ∷ []) add held) n
      less
      (λ p. elim (cases_eq p x) [
        | inl here ↦
            subst (λ q. without del add held q ≡ without (del ++ x ∷ []) add held q) (sym here)
            (at_x (names_atom held x) (names_atom del x) (names_atom add x) e ∙ sym
            (at_x (names_atom held x) (names_atom (del ++ x ∷ []) x) (names_atom add x) e))
        | inr other ↦ sym (rest p other)
      ]) (same ∙ is)

  pub without_less : x < n → names_atom held x ≡ true → names_atom add x ≡ false → less < 2 ^ 64 →
      (less + weight key x) % 2 ^ 64 ≡ code
      → less ≡ code_sum key (without (del ++ x ∷ []) add held) n
  without_less within there not_added fits back =
      code_less key (without del add held) (without (del ++ x ∷ []) add held) n x code less within
      (ap₂ (λ h d. h && not (d && not (names_atom add x))) there fresh)
      (ap₂ (λ h d. h && not (d && not (names_atom add x))) there (named_last del x) ∙ ap
      (λ a. not (not a)) not_added)
      rest is fits back

-- one added atom more
module _ (key : ℕ) (adds : List ℕ) (test : ℕ → Bool) (x n code more : ℕ)
    (fresh : names_atom adds x ≡ false) (is : code ≡ code_sum key (with_more adds test) n) where
  pub with_kept : more ≡ code → test x ≡ true → more ≡ code_sum key
      (with_more (adds ++ x ∷ []) test) n
  with_kept same there = code_agrees key (with_more adds test) (with_more (adds ++ x ∷ []) test) n
      more
      (λ p. elim (cases_eq p x) [
        | inl here ↦
            subst (λ q. with_more adds test q ≡ with_more (adds ++ x ∷ []) test q) (sym here)
            (ap₂ (λ a b. a || b) fresh there ∙ sym (ap (λ a. a || test x) (named_last adds x)))
        | inr other ↦ ap (λ a. a || test p) (named_other adds x p other)
      ]) (same ∙ is)

  pub with_new : x < n → test x ≡ false → more ≡ (code + weight key x) % 2 ^ 64 → more ≡ code_sum
      key (with_more (adds ++ x ∷ []) test) n
  with_new within out sum =
      sum ∙ code_more key (with_more adds test) (with_more (adds ++ x ∷ []) test) n x code within
      (ap₂ (λ a b. a || b) fresh out) (ap (λ a. a || test x) (named_last adds x))
      (λ p other. ap (λ a. a || test p) (named_other adds x p other)) is

-- what is added isn't taken out
without_added : (h d a : Bool) → a ≡ true → (h && not (d && not a)) ≡ h
without_added true true true e = refl
without_added true false true e = refl
without_added false d true e = refl
without_added h d false e = let f : false ≡ true = e in absurd cc

pub kept_at : (del add held : List ℕ) (x : ℕ) → names_atom add x ≡ true → without del add held x ≡
    names_atom held x
kept_at del add held x e = without_added (names_atom held x) (names_atom del x) (names_atom add x) e

-- what is left and what is added is the result of the action
after_bits : (a d h : Bool) → (a || (h && not (d && not a))) ≡ (a || (not d && h))
after_bits true d h = refl
after_bits false true true = refl
after_bits false true false = refl
after_bits false false true = refl
after_bits false false false = refl

pub after_agrees : (action : Action) (held : List ℕ) (p : ℕ) → with_more action.add
    (without action.del action.add held) p ≡ is_after action held p
after_agrees action held p = after_bits (names_atom action.add p) (names_atom action.del p)
    (names_atom held p)

-- the empty list
pub none_total : (key n : ℕ) → 0 ≡ code_sum key (names_atom []) n
none_total key zero = refl
none_total key (suc n) = none_total key n ∙ ap (λ t. t % 2 ^ 64)
    (let e : total key (names_atom []) n ≡ total key (names_atom []) n + 0 = omega arith in e)

without_none : (h a : Bool) → h ≡ (h && not (false && not a))
without_none true a = refl
without_none false a = refl

pub without_nothing : (add held : List ℕ) (p : ℕ) → names_atom held p ≡ without [] add held p
without_nothing add held p = without_none (names_atom held p) (names_atom add p)

-- an atom of a list below a bound is below it
pub below_named : (n : ℕ) (held : List ℕ) (x : ℕ) → AreBelow n held → names_atom held x ≡ true → x
    < n
below_named n held x below e = All-contains (λ a. a < n) held x below
    ((names_atom-Decides held x).0 e)

-- no atom between: the sum stays
pub total_gap : (key : ℕ) (test : ℕ → Bool) (from a : ℕ) → from ≤ a →
    ((p : ℕ) → from ≤ p → p < a → test p ≡ false) → total key test a ≡ total key test from
total_gap key test from zero upto none = let e : zero ≡ from = omega arith in ap (total key test) e
total_gap key test from (suc a) upto none =
    elim (cases_lt a from) [
      | inl less ↦ let e : suc a ≡ from = omega arith in ap (total key test) e
      | inr past ↦
          let front = total_gap key test from a past (λ p f l. none p f (omega arith)) in
          let last : cond (test a) (weight key a) 0 ≡ 0 = cond-false (test a) (weight key a) 0
          (none a past (omega arith)) in
          omega arith
    ]

pub code_next : (key : ℕ) (test : ℕ → Bool) (from a code : ℕ) → IsNext test from (Some a) → code ≡
    total key test from % 2 ^ 64
    → (code + weight key a) % 2 ^ 64 ≡ total key test (a + 1) % 2 ^ 64
code_next key test from a code next is =
    ap (λ c. (c + weight key a) % 2 ^ 64) is ∙ mod-add-mod (total key test from) (2 ^ 64)
    (weight key a)
    ∙ ap (λ t. t % 2 ^ 64) (
    let gap = total_gap key test from a next.0 next.2 in
    let last : cond (test a) (weight key a) 0 ≡ weight key a = cond-true (test a) (weight key a) 0
    next.1 in
    let e : total key test (a + 1) ≡ total key test a + cond (test a) (weight key a) 0 = rw add-one
    in
    omega arith)

-- a set has one code
pub one_code : (key : ℕ) (f g : ℕ → Bool) (a b : ℕ) → IsCode key f a → IsCode key g b
    → ((p : ℕ) → f p ≡ g p) → a ≡ b
one_code key f g a b one other same = elim (cases_lt one.0 other.0) [
  | inl less ↦
      one.2 ∙ ap (λ t. t % 2 ^ 64) (sym (total_gap key f one.0 other.0 (omega arith)
      (λ p from upto. one.1 p from)) ∙ total_same key f g other.0 (λ p _. same p)) ∙ sym other.2
  | inr past ↦
      one.2 ∙ ap (λ t. t % 2 ^ 64) (total_same key f g one.0 (λ p _. same p)
      ∙ total_gap key g other.0 one.0 (omega arith) (λ p from upto. other.1 p from)) ∙ sym other.2
]

-- each list has a bound
abbrev pub bound_of : List ℕ → ℕ
bound_of [] = 0
bound_of (x ∷ xs) = suc x + bound_of xs

pub below_bound : (xs : List ℕ) (n : ℕ) → bound_of xs ≤ n → (k d : ℕ) → k < length xs → get_or xs k
    d < n
below_bound [] n upto k d within = absurd (omega arith)
below_bound (x ∷ xs) n upto zero d within =
    let first : get_or (x ∷ xs) 0 d ≡ x = refl in
    let sum : bound_of (x ∷ xs) ≡ suc x + bound_of xs = refl in omega (arith, upto, first, sum)
below_bound (x ∷ xs) n upto (suc k) d within =
    let sum : bound_of (x ∷ xs) ≡ suc x + bound_of xs = refl in
    below_bound xs n (omega (arith, upto, sum)) k d (omega (arith, within))

-- the code of a list, and of the result of an action
pub is_list_code : (key code : ℕ) (xs : List ℕ)
    → IsListCode key xs code → IsCode key (names_atom xs) code
is_list_code key code xs is =
    let all = below_bound xs (bound_of xs) (omega arith) in
    (bound_of xs, below_list (bound_of xs) xs all, is (bound_of xs) all)

pub is_after_code : (key code : ℕ) (action : Action) (held : List ℕ)
    → IsAfterCode key action held code → IsCode key (is_after action held) code
is_after_code key code action held is =
    let n = bound_of held + (bound_of action.pre + (bound_of action.add + bound_of action.del)) in
    let all = below_bound held n (omega arith) in
    let over : IsOver n action = record {
      pre = below_bound action.pre n (omega arith);
      add = below_bound action.add n (omega arith);
      del = below_bound action.del n (omega arith);
    } in
    (n, below_after n action held all over, is n all over)
