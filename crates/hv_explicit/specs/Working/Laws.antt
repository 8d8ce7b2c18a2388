-- The laws of the walk over the listed states: its cubes are just these states.
use Rattle.std.proofs.Common.{◌≡◌, ℕ, zero, suc, ◌<◌, ◌∙◌, Bool, true, false, not, ◌&&◌, ◌||◌, List}
use Rattle.std.proofs.Common.{[], ◌∷◌, length, drop, map, refl, sym, ap, ap₂, arith, inl, inr}
use Rattle.std.proofs.Common.{subst, cond}
use Rattle.std.proofs.lemmas.Bool.{cases_lt}
use Rattle.std.proofs.lemmas.Bool.Decides.{same_from_decides}
use Rattle.std.proofs.lemmas.List.Folds.{list_all-append}
use Rattle.hv_task.specs.State.{has_atom, names_atom, state_of}
use Rattle.hv_task.proofs.Places.{beq-Decides, has_atom-state_of, length-state_of, same_state}
use Rattle.hv_sets.specs.declared.cursor.Cursor.{Cursor}
use Rattle.hv_sets.specs.Truth.{in_cube, in_literal, in_states, is_same}
use Rattle.hv_sets.specs.Walks.{IsNew, in_cubes}
use Rattle.hv_sets.proofs.Truths.{literal_from_same, same_from_literal}
use Rattle.hv_explicit.specs.ListedStates.{ListedStates, full_cube, full_cubes, in_listing}

-- a new cursor has all cubes before it
pub starts_with_all : (set : ListedStates) (cursor : Cursor) → IsNew cursor
    → drop cursor.place (full_cubes set) ≡ full_cubes set
starts_with_all set cursor new = ap (λ k. drop k (full_cubes set)) new.0

both : (a b : Bool) → (a && b) ≡ true → (a ≡ true) × (b ≡ true)
both true b e = (refl, e)
both false b e = let f : false ≡ true = e in absurd cc

from_both : (a b : Bool) → a ≡ true → b ≡ true → (a && b) ≡ true
from_both a b e f = ap₂ (λ x y. x && y) e f

alone : (b : Bool) → (b && true) ≡ b
alone true = refl
alone false = refl

module _ (held : List ℕ) (state : List Bool) where
  -- the cube over one more atom
  in_more : (n : ℕ) → in_cube (full_cube (suc n) held) state
      ≡ (in_cube (full_cube n held) state && cond (names_atom held n) (has_atom state n)
      (not (has_atom state n)))
  in_more n =
      list_all-append (λ l. in_literal l state) (full_cube n held)
      (record { atom = n; positive = names_atom held n } ∷ [])
      ∙ ap (λ b. in_cube (full_cube n held) state && b)
      (alone (cond (names_atom held n) (has_atom state n) (not (has_atom state n))))

  -- a state in the cube has just the atoms of the listed one
  flags_from_cube : (n : ℕ) → in_cube (full_cube n held) state ≡ true → (p : ℕ) → p < n
      → names_atom held p ≡ has_atom state p
  flags_from_cube zero e p less = absurd (omega arith)
  flags_from_cube (suc n) e p less =
      let parts = both (in_cube (full_cube n held) state)
      (cond (names_atom held n) (has_atom state n) (not (has_atom state n)))
      (sym (in_more n) ∙ e) in
      elim (cases_lt p n) [
        | inl before ↦ flags_from_cube n parts.0 p before
        | inr last ↦
            let same : n ≡ p = omega arith in
            subst (λ q. names_atom held q ≡ has_atom state q) same
            (same_from_literal (names_atom held n) (has_atom state n) parts.1)
      ]

  cube_from_flags : (n : ℕ) → ((p : ℕ) → p < n → names_atom held p ≡ has_atom state p)
      → in_cube (full_cube n held) state ≡ true
  cube_from_flags zero flags = refl
  cube_from_flags (suc n) flags =
      in_more n ∙ from_both (in_cube (full_cube n held) state)
      (cond (names_atom held n) (has_atom state n) (not (has_atom state n)))
      (cube_from_flags n (λ p less. flags p (omega arith)))
      (literal_from_same (names_atom held n) (has_atom state n) (flags n (omega arith)))

  -- the cube of one state has just that state
  pub full_cube_is : (n : ℕ) → length state ≡ n
      → in_cube (full_cube n held) state ≡ is_same (state_of n held) state
  full_cube_is n size =
      let decides = beq-Decides (state_of n held) state in
      same_from_decides {P = state_of n held ≡ state} (in_cube (full_cube n held) state)
      (is_same (state_of n held) state) (
        λ e. same_state (state_of n held) state (length-state_of n held ∙ sym size)
            (λ p within.
            let less : p < n = omega (arith, length-state_of n held) in
            has_atom-state_of n held p less ∙ flags_from_cube n e p less),
        λ same. cube_from_flags n (λ p less. sym (has_atom-state_of n held p less)
            ∙ ap (λ s. has_atom s p) same),
      )
      decides

-- so the cubes of the listed states have just these
cubes_are : (n : ℕ) (states : List (List ℕ)) (state : List Bool) → length state ≡ n
    → in_cubes (map (λ held. full_cube n held) states) state ≡ in_states n states state
cubes_are n [] state size = refl
cubes_are n (held ∷ states) state size = ap₂
    (λ a b. a || b) (full_cube_is held state n size) (cubes_are n states state size)

pub full_cubes_are : (set : ListedStates) (state : List Bool) → length state ≡ set.atoms
    → in_cubes (full_cubes set) state ≡ in_listing set state
full_cubes_are set state size = cubes_are set.atoms set.states state size
