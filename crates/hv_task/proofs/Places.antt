-- States place by place: their length, the flag of each atom, equality.
use Rattle.std.proofs.Common.{◌≡◌, ℕ, ◌<◌, ◌≤◌, ◌∙◌, Bool, true, false, not, ◌&&◌, ◌||◌, cond, eqb}
use Rattle.std.proofs.Common.{List, [], ◌∷◌, length, set, replicate, refl, sym, ap, arith, inl, inr}
use Rattle.std.proofs.lemmas.List.{length-set, length-replicate, get_or-replicate, get_or-set_other}
use Rattle.std.proofs.lemmas.List.{get_or_past, ext_get_or}
use Rattle.std.proofs.lemmas.Grind.{get_or-set_at}
use Rattle.std.proofs.lemmas.Bool.{cases_eq, eq-eqb, ne_eqb, cond-true, cond-false}
use Rattle.std.proofs.lemmas.Bool.Decides.{Decides-eqb, Decides-by_and, Decides-by_or}
use Rattle.std.proofs.lemmas.List.Elements.{Decides-contains}
use Rattle.std.proofs.lemmas.Slice.Eq.{slice_eq-Decides}
use Rattle.std.specs.Bool.{Decides}
use Rattle.std.specs.Cmp.{booleans_Decides}
use Rattle.std.specs.Cmp.Lexicographic.{pointwise}
use Rattle.std.specs.List.{All, Contains}
use Rattle.std.proofs.Math.Bool.{beq}
use Rattle.hv_task.specs.declared.action.Action.{Action}
use Rattle.hv_task.specs.State.{has_all, has_atom, names_atom, put_all, state_of, successor}
use Rattle.hv_task.specs.Strips.{Strips, IsState, atoms, start_state}

-- putting atoms in or taking them out keeps the length
pub length-put_all : (value : Bool) (held : List ℕ) (state : List Bool)
    → length (put_all value held state) ≡ length state
length-put_all value [] state = refl
length-put_all value (p ∷ held) state = length-put_all value held (set state p value)
    ∙ length-set state p value

-- so a successor is a state of the same task, whatever the action
pub length-successor : (action : Action) (state : List Bool)
    → length (successor action state) ≡ length state
length-successor action state =
    length-put_all true action.add (put_all false action.del state)
    ∙ length-put_all false action.del state

pub length-state_of : (n : ℕ) (held : List ℕ) → length (state_of n held) ≡ n
length-state_of n held = length-put_all true held (replicate n false) ∙ length-replicate n false

pub IsState-start_state : (task : Strips) → IsState task (start_state task)
IsState-start_state task = length-state_of (atoms task) task.start

pub IsState-successor : (task : Strips) (action : Action) (state : List Bool) → IsState task state
    → IsState task (successor action state)
IsState-successor task action state h = length-successor action state ∙ h

-- one flag after one write
pub has_atom-set : (state : List Bool) (q p : ℕ) (value : Bool) → p < length state
    → has_atom (set state q value) p ≡ cond (eqb q p) value (has_atom state p)
has_atom-set state q p value h =
    elim (cases_eq q p) [
      | inl e ↦
          get_or-set_at state q p value false (sym e) (omega arith)
          ∙ sym (cond-true (eqb q p) value (has_atom state p) (eq-eqb q p e))
      | inr e ↦
          get_or-set_other state q p value false (λ f. e (sym f))
          ∙ sym (cond-false (eqb q p) value (has_atom state p) (ne_eqb q p e))
    ]

-- two writes of one value, one after the other
cond_twice : (a b value old : Bool) → cond b value (cond a value old) ≡ cond (a || b) value old
cond_twice true true value old = refl
cond_twice true false value old = refl
cond_twice false b value old = refl

-- each flag after atoms were put in or taken out
pub has_atom-put_all : (value : Bool) (held : List ℕ) (state : List Bool) (p : ℕ) → p < length state
    → has_atom (put_all value held state) p ≡ cond (names_atom held p) value (has_atom state p)
has_atom-put_all value [] state p h = refl
has_atom-put_all value (q ∷ held) state p h =
    let within : p < length (set state q value) = omega (arith, length-set state q value) in
    has_atom-put_all value held (set state q value) p within
    ∙ ap (λ x. cond (names_atom held p) value x) (has_atom-set state q p value h)
    ∙ cond_twice (eqb q p) (names_atom held p) value (has_atom state p)

put_after_take : (added deleted held : Bool)
    → cond added true (cond deleted false held) ≡ (added || (not deleted && held))
put_after_take true deleted held = refl
put_after_take false true held = refl
put_after_take false false held = refl

-- the pointwise law: an atom is in the successor where the action adds it, or where it was there
-- and isn't deleted
pub has_atom-successor : (action : Action) (state : List Bool) (p : ℕ) → p < length state
    → has_atom (successor action state) p ≡
    (names_atom action.add p || (not (names_atom action.del p) && has_atom state p))
has_atom-successor action state p h =
    let within : p < length (put_all false action.del state) = omega
    (arith, length-put_all false action.del state) in
    has_atom-put_all true action.add (put_all false action.del state) p within
    ∙ ap (λ x. cond (names_atom action.add p) true x) (has_atom-put_all false action.del state p h)
    ∙ put_after_take (names_atom action.add p) (names_atom action.del p) (has_atom state p)

one_of : (named : Bool) → cond named true false ≡ named
one_of true = refl
one_of false = refl

-- an atom is in the state of a list exactly where the list names it
pub has_atom-state_of : (n : ℕ) (held : List ℕ) (p : ℕ) → p < n
    → has_atom (state_of n held) p ≡ names_atom held p
has_atom-state_of n held p h =
    let within : p < length (replicate n false) = omega (arith, length-replicate n false) in
    has_atom-put_all true held (replicate n false) p within
    ∙ ap (λ x. cond (names_atom held p) true x) (get_or-replicate n p false false h)
    ∙ one_of (names_atom held p)

-- an atom past the end is in no state
pub has_atom_past : (state : List Bool) (p : ℕ) → length state ≤ p → has_atom state p ≡ false
has_atom_past state p h = get_or_past state p false h

-- two states of the same length with the same atoms are one
pub same_state : (s t : List Bool) → length s ≡ length t
    → ((p : ℕ) → p < length s → has_atom s p ≡ has_atom t p) → s ≡ t
same_state s t e h = ext_get_or false s t e h

-- whether a list names an atom
pub names_atom-Decides : (held : List ℕ) (p : ℕ) → Decides (names_atom held p) (Contains held p)
names_atom-Decides held p =
    Decides-contains held p (names_atom held p)
    (Decides-by_or (λ q. eqb q p) (λ q. q ≡ p) (λ qs. names_atom qs p) (λ q. Decides-eqb q p) refl
    (λ _ _. refl) held)

-- whether two states are one, flag by flag
pub beq-Decides : (s t : List Bool) → Decides (pointwise beq s t) (s ≡ t)
beq-Decides s t = slice_eq-Decides booleans_Decides s t (pointwise beq s t) refl

-- whether a state holds all of a list
pub has_all-Decides : (held : List ℕ) (state : List Bool)
    → Decides (has_all held state) (All (λ p. has_atom state p ≡ true) held)
has_all-Decides held state =
    Decides-by_and (λ p. has_atom state p) (λ p. has_atom state p ≡ true) (λ ps. has_all ps state)
    (λ p. (λ e. e, λ e. e)) refl (λ _ _. refl) held
