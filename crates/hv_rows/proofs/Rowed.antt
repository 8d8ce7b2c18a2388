-- Rows of actions to which one action is put.
use Rattle.std.proofs.Common.{◌≡◌, ℕ, zero, suc, ◌+◌, ◌<◌, ◌∙◌, ◌⊎◌, true, List, [], ◌∷◌, Some}
use Rattle.std.proofs.Common.{ap, arith, get_or, inl, inr, length, refl, subst, sym}
use Rattle.std.proofs.lemmas.Bool.{cases_lt}
use Rattle.std.proofs.lemmas.List.{get_or_default}
use Rattle.std.proofs.lemmas.List.Elements.{All-contains}
use Rattle.std.proofs.lemmas.List.Folds.{Any-from_list_any, list_any_at}
use Rattle.std.specs.Global.{Vec}
use Rattle.std.specs.List.{Contains, list_any, slice_get}
use Rattle.hv_task.specs.State.{AreBelow}
use Rattle.hv_task.specs.declared.action.Action.{Action}
use Rattle.hv_task.proofs.Places.{names_atom-Decides}
use Rattle.hv_rows.specs.Rows.{IsInRow, in_found_row, in_row}

-- the actions before this one are in the row of an atom of their precondition, or in the last
abbrev pub AreRowed : ℕ → List (Vec ℕ) → List Action → ℕ → Type 0
AreRowed past rows actions bound =
    (k : ℕ) (a : Action) → k < bound → slice_get actions k ≡ Some a
    → (place : ℕ) × (place < past + 1) × (Contains a.pre place ⊎ (place ≡ past))
    × IsInRow rows place k

pub rowed_more : (past : ℕ) (old new : List (Vec ℕ)) (actions : List Action) (n : ℕ) (b : Action)
    (place : ℕ) → slice_get actions n ≡ Some b
    → ((p k : ℕ) → IsInRow old p k → IsInRow new p k) → place < past + 1
    → Contains b.pre place ⊎ (place ≡ past)
    → IsInRow new place n → AreRowed past old actions n → AreRowed past new actions (n + 1)
rowed_more past old new actions n b place at keeps within key here before k a below is =
    elim (cases_lt k n) [
      | inl less ↦ let w = before k a less is in (w.0, w.1, w.2, keeps w.0 k w.3)
      | inr upto ↦
          let same : n ≡ k = omega (arith, below, upto) in
          let one : b ≡ a = let f = subst (λ m. slice_get actions m ≡ Some b) same at in cc in (
            place,
            within,
            subst (λ (x : Action). Contains x.pre place ⊎ (place ≡ past)) one key,
            subst (λ m. IsInRow new place m) same here,
          )
    ]

-- the test whether a number is in a row
pub in_row_true : (rows : List (Vec ℕ)) (place k : ℕ) → place < length rows → IsInRow rows place k
    → in_row rows k place ≡ true
in_row_true [] place k within here = absurd (omega (arith, within))
in_row_true (row ∷ rows) zero k within here = (names_atom-Decides row.items k).1 (here row refl)
in_row_true (row ∷ rows) (suc p) k within here = in_row_true rows p k (omega (arith, within)) here

pub is_in : (rows : List (Vec ℕ)) (place k : ℕ) → in_row rows k place ≡ true → IsInRow rows place k
is_in rows place k e row at =
    (names_atom-Decides row.items k).0 (ap (λ found. in_found_row found k) (sym at) ∙ e)

-- all actions pass the test
pub rowed_test : (past : ℕ) (rows : List (Vec ℕ)) (a : Action) (k : ℕ) → length rows ≡ past + 1
    → (place : ℕ) → place < past + 1 → Contains a.pre place ⊎ (place ≡ past) → IsInRow rows place k
    → list_any (in_row rows k) (past ∷ a.pre) ≡ true
rowed_test past rows a k size place within key here =
    let yes = in_row_true rows place k (omega (arith, size, within)) here in
    elim key [
      | inl c ↦
          let at : get_or a.pre c.0 0 ≡ place = get_or_default a.pre c.0 0 place c.1 ∙ c.2 in
          list_any_at (in_row rows k) (past ∷ a.pre) (suc c.0) 0
          (let less = c.1 in omega (arith, less)) (ap (in_row rows k) at ∙ yes)
      | inr last ↦
          list_any_at (in_row rows k) (past ∷ a.pre) 0 0 (omega arith)
          (ap (in_row rows k) (sym last) ∙ yes)
    ]

-- and what passes is in a row
pub tested_row : (past : ℕ) (rows : List (Vec ℕ)) (places : List ℕ) (k : ℕ)
    → list_any (in_row rows k) (past ∷ places) ≡ true
    → (place : ℕ) × Contains (past ∷ places) place × IsInRow rows place k
tested_row past rows places k e =
    let found = Any-from_list_any (in_row rows k) (past ∷ places) e in
    (found.1, (found.0, found.2, found.3), is_in rows found.1 k found.4)

-- the place for an action
pub place_of : (pre listed : List ℕ) (past n place : ℕ) → listed ≡ pre → n ≡ past
    → Contains listed place ⊎ (place ≡ n) → Contains pre place ⊎ (place ≡ past)
place_of pre listed past n place same last (inl c) = inl (subst (λ xs. Contains xs place) same c)
place_of pre listed past n place same last (inr e) = inr (e ∙ last)

pub place_within : (pre : List ℕ) (past place : ℕ) → AreBelow past pre
    → Contains pre place ⊎ (place ≡ past) → place < past + 1
place_within pre past place below (inl c) =
    let less = All-contains (λ n. n < past) pre place below c in omega (arith, less)
place_within pre past place below (inr e) = omega (arith, e)

pub below_more : (bound more : ℕ) (xs : List ℕ) → bound < more → AreBelow bound xs
    → AreBelow more xs
below_more bound more xs less below k d within =
    let upto = below k d within in omega (arith, upto, less)
