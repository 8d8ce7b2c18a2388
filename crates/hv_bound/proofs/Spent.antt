-- A state of the given task and one of the made task, where so much is left to spend, and what a
-- copy of an action does to them.
use Rattle.std.proofs.Common.{◌≡◌, ℕ, ◌+◌, ◌-◌, ◌<◌, ◌≤◌, ◌∙◌, Bool, true, false, not, ◌&&◌, ◌||◌}
use Rattle.std.proofs.Common.{eqb, List, [], ◌∷◌, ◌++◌, length, refl, sym, ap, arith, inl, inr}
use Rattle.std.proofs.lemmas.Bool.{cases_eq, eq-eqb, ne_eqb}
use Rattle.std.proofs.lemmas.List.Elements.{All-head, All-tail, All-weaker}
use Rattle.std.proofs.lemmas.List.Folds.{list_all-append, list_any-append, list_any_none}
use Rattle.hv_task.specs.declared.action.Action.{Action}
use Rattle.hv_task.specs.State.{AreBelow, applicable, has_all, has_atom, names_atom, successor}
use Rattle.hv_task.specs.Strips.{IsOver}
use Rattle.hv_task.proofs.Places.{has_atom-successor, length-successor}
use Rattle.hv_bound.specs.Bounded.{paid_copy}

-- the second state is the first one, of a task with n atoms, and says that so much is left, of at
-- most `most`
pub record Leaves (n most : ℕ) (state : List Bool) (left : ℕ) (made : List Bool) : Type 0 where
  pub small : length state ≡ n
  pub large : length made ≡ n + (most + 1)
  pub within : left ≤ most
  pub same : (p : ℕ) → p < n → has_atom made p ≡ has_atom state p
  pub tells : (q : ℕ) → q ≤ most → has_atom made (n + q) ≡ eqb q left

or_false : (b : Bool) → (b || false) ≡ b
or_false true = refl
or_false false = refl

and_true : (b : Bool) → (b && true) ≡ b
and_true true = refl
and_true false = refl

pub names_atom-push : (xs : List ℕ) (x p : ℕ)
    → names_atom (xs ++ x ∷ []) p ≡ (names_atom xs p || eqb x p)
names_atom-push xs x p =
    list_any-append (λ y. eqb y p) xs (x ∷ [])
    ∙ ap (λ b. names_atom xs p || b) (or_false (eqb x p))

-- a list of atoms below n names none from n on
pub names_none : (n : ℕ) (xs : List ℕ) (p : ℕ) → AreBelow n xs → n ≤ p → names_atom xs p ≡ false
names_none n xs p below from =
    list_any_none (λ y. eqb y p) xs
    (All-weaker (λ k. k < n) (λ k. eqb k p ≡ false)
    (λ k less. ne_eqb k p (λ e. absurd (omega arith))) xs below)

-- with an atom more such a list names that one alone from n on
pub names_new : (n : ℕ) (xs : List ℕ) (x p : ℕ) → AreBelow n xs → n ≤ p
    → names_atom (xs ++ x ∷ []) p ≡ eqb x p
names_new n xs x p below from =
    names_atom-push xs x p ∙ ap (λ b. b || eqb x p) (names_none n xs p below from)

-- and names the same atoms below n
pub names_old : (n : ℕ) (xs : List ℕ) (x p : ℕ) → n ≤ x → p < n
    → names_atom (xs ++ x ∷ []) p ≡ names_atom xs p
names_old n xs x p from less =
    names_atom-push xs x p
    ∙ ap (λ b. names_atom xs p || b) (ne_eqb x p (λ e. absurd (omega arith)))
    ∙ or_false (names_atom xs p)

has_all-push : (xs : List ℕ) (x : ℕ) (state : List Bool)
    → has_all (xs ++ x ∷ []) state ≡ (has_all xs state && has_atom state x)
has_all-push xs x state =
    list_all-append (λ p. has_atom state p) xs (x ∷ [])
    ∙ ap (λ b. has_all xs state && b) (and_true (has_atom state x))

-- two states that agree below n hold the same lists of atoms below n
pub has_all_same : (n : ℕ) (xs : List ℕ) (s t : List Bool) → AreBelow n xs
    → ((p : ℕ) → p < n → has_atom t p ≡ has_atom s p) → has_all xs t ≡ has_all xs s
has_all_same n [] s t below same = refl
has_all_same n (x ∷ xs) s t below same =
    ap (λ b. b && has_all xs t) (same x (All-head (λ k. k < n) x xs below))
    ∙ ap (λ b. has_atom s x && b)
    (has_all_same n xs s t (All-tail (λ k. k < n) x xs below) same)

kept : (added deleted held : Bool) → added ≡ false → deleted ≡ false
    → (added || (not deleted && held)) ≡ held
kept true deleted held a d = absurd cc
kept false true held a d = absurd cc
kept false false held a d = refl

-- of the amounts the one that was left is taken away, and the one that is left then is added
spent : (n j c q : ℕ) (added deleted held : Bool) → c ≤ j → added ≡ eqb (n + j - c) (n + q)
    → deleted ≡ eqb (n + j) (n + q) → held ≡ eqb q j
    → (added || (not deleted && held)) ≡ eqb q (j - c)
spent n j c q true deleted held upto a d h =
    elim (cases_eq q (j - c)) [
      | inl e ↦ sym (eq-eqb q (j - c) e)
      | inr ne ↦ absurd (let f : eqb (n + j - c) (n + q) ≡ false =
          ne_eqb (n + j - c) (n + q) (λ e. ne (omega arith)) in cc)
    ]
spent n j c q false deleted held upto a d h =
    elim (cases_eq q (j - c)) [
      | inl e ↦ absurd (let f : eqb (n + j - c) (n + q) ≡ true =
          eq-eqb (n + j - c) (n + q) (omega arith) in cc)
      | inr ne ↦ rest n j q deleted held d h ∙ sym (ne_eqb q (j - c) ne)
    ]
  where
    rest : (n j q : ℕ) (deleted held : Bool) → deleted ≡ eqb (n + j) (n + q) → held ≡ eqb q j
        → (not deleted && held) ≡ false
    rest n j q true held d h = refl
    rest n j q false true d h =
        elim (cases_eq q j) [
          | inl e ↦ absurd (let f : eqb (n + j) (n + q) ≡ true =
              eq-eqb (n + j) (n + q) (omega arith) in cc)
          | inr ne ↦ absurd (let f : eqb q j ≡ false = ne_eqb q j ne in cc)
        ]
    rest n j q false false d h = refl

module _ (n most : ℕ) (a : Action) (s t : List Bool) (j : ℕ) (over : IsOver n a)
    (leaves : Leaves n most s j t) where
  -- a copy that costs nothing is applicable where the action is
  pub free_applies : applicable a t ≡ applicable a s
  free_applies = has_all_same n a.pre s t over.pre leaves.same

  -- and a copy that is paid for where just so much is left, too
  pub paid_applies : (i l : ℕ) → l ≤ most
      → applicable (paid_copy n i a l) t ≡ (applicable a s && eqb l j)
  paid_applies i l upto =
      has_all-push a.pre (n + l) t
      ∙ ap (λ b. b && has_atom t (n + l)) free_applies
      ∙ ap (λ b. applicable a s && b) (leaves.tells l upto)

  within_s : (p : ℕ) → p < n → p < length s
  within_s p less = let size = leaves.small in omega arith

  within_t : (p : ℕ) → p < n + (most + 1) → p < length t
  within_t p less = let size = leaves.large in omega arith

  -- an action that costs nothing leaves as much as there was
  pub free_step : Leaves n most (successor a s) j (successor a t)
  free_step = record {
    small = length-successor a s ∙ leaves.small;
    large = length-successor a t ∙ leaves.large;
    within = leaves.within;
    same = λ p less.
        has_atom-successor a t p (within_t p (omega arith))
        ∙ ap (λ b. names_atom a.add p || (not (names_atom a.del p) && b)) (leaves.same p less)
        ∙ sym (has_atom-successor a s p (within_s p less));
    tells = λ q upto.
        has_atom-successor a t (n + q) (within_t (n + q) (omega arith))
        ∙ kept (names_atom a.add (n + q)) (names_atom a.del (n + q)) (has_atom t (n + q))
        (names_none n a.add (n + q) over.add (omega arith))
        (names_none n a.del (n + q) over.del (omega arith))
        ∙ leaves.tells q upto;
  }

  -- an action that is paid for leaves what is left then
  pub paid_step : (i : ℕ) → a.cost ≤ j
      → Leaves n most (successor a s) (j - a.cost) (successor (paid_copy n i a j) t)
  paid_step i pays = let bound = leaves.within in record {
    small = length-successor a s ∙ leaves.small;
    large = length-successor (paid_copy n i a j) t ∙ leaves.large;
    within = omega arith;
    same = λ p less.
        has_atom-successor (paid_copy n i a j) t p (within_t p (omega arith))
        ∙ ap (λ b. b || (not (names_atom (a.del ++ (n + j) ∷ []) p) && has_atom t p))
        (names_old n a.add (n + j - a.cost) p (omega arith) less)
        ∙ ap (λ b. names_atom a.add p || (not b && has_atom t p))
        (names_old n a.del (n + j) p (omega arith) less)
        ∙ ap (λ b. names_atom a.add p || (not (names_atom a.del p) && b)) (leaves.same p less)
        ∙ sym (has_atom-successor a s p (within_s p less));
    tells = λ q upto.
        has_atom-successor (paid_copy n i a j) t (n + q) (within_t (n + q) (omega arith))
        ∙ spent n j a.cost q (names_atom (a.add ++ (n + j - a.cost) ∷ []) (n + q))
        (names_atom (a.del ++ (n + j) ∷ []) (n + q)) (has_atom t (n + q)) pays
        (names_new n a.add (n + j - a.cost) (n + q) over.add (omega arith))
        (names_new n a.del (n + j) (n + q) over.del (omega arith)) (leaves.tells q upto);
  }
