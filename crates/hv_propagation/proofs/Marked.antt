-- Laws of marks: marks put over a state, what agrees with them, and what is known through an
-- effect.
use Rattle.std.proofs.Common.{◌≡◌, ℕ, zero, suc, ◌<◌, ◌∙◌, ◌⊎◌, Bool, true, false, not, cond}
use Rattle.std.proofs.Common.{List, [], ◌∷◌, length, replicate, Option, None, Some, refl, sym, ap}
use Rattle.std.proofs.Common.{arith, inl, inr}
use Rattle.std.proofs.Math.Bool.{beq}
use Rattle.std.proofs.lemmas.Bool.{cases_eq, cases_lt}
use Rattle.std.proofs.lemmas.List.{get_or-replicate, length-replicate}
use Rattle.std.proofs.lemmas.List.Elements.{All-weaker}
use Rattle.std.specs.Option.{option_map}
use Rattle.hv_task.specs.State.{has_atom}
use Rattle.hv_task.proofs.Places.{has_atom_past, same_state}
use Rattle.hv_sets.specs.declared.literal.Literal.{Literal}
use Rattle.hv_sets.specs.Cubes.{opposite}
use Rattle.hv_sets.specs.Truth.{in_literal}
use Rattle.hv_propagation.proofs.Holding.{not_turned}
use Rattle.hv_propagation.specs.Marks.{filled, known, or_else, over, Agrees, KeepsKnown}
use Rattle.hv_propagation.specs.Marks.{low}
use Rattle.hv_propagation.specs.Units.{first_of, known_through, value_of, AreFalse}
use Rattle.hv_propagation.specs.Working.Laws.{known_past}

-- so something is known of atoms within the marks alone
pub known_within : (m : List ℕ) (p : ℕ) (b : Bool) → known m p ≡ Some b → p < length m
known_within m p b e =
    elim (cases_lt p (length m)) [
      | inl less ↦ less
      | inr past ↦ let none = known_past m p past in absurd (cc)
    ]

-- marks put over a state keep its length
pub length-over : (m : List ℕ) (s : List Bool) → length (over m s) ≡ length s
length-over m [] = refl
length-over [] (f ∷ fs) = refl
length-over (x ∷ m) (f ∷ fs) = ap suc (length-over m fs)

pub length-filled : (value : Bool) (m : List ℕ) → length (filled value m) ≡ length m
length-filled value m = length-over m (replicate (length m) value)
    ∙ length-replicate (length m) value

pub length-low : (m : List ℕ) → length (low m) ≡ length m
length-low m = length-filled false m

-- each flag of a state with marks over it
pub has_atom-over : (m : List ℕ) (s : List Bool) (p : ℕ) → p < length s
    → has_atom (over m s) p ≡ or_else (known m p) (has_atom s p)
has_atom-over m [] p h = absurd (omega arith)
has_atom-over [] (f ∷ fs) p h = refl
has_atom-over (x ∷ m) (f ∷ fs) zero h = refl
has_atom-over (x ∷ m) (f ∷ fs) (suc p) h = has_atom-over m fs p (omega arith)

-- where something is known of the atom
pub has_atom-over_some : (m : List ℕ) (s : List Bool) (p : ℕ) (b : Bool) → p < length s
    → known m p ≡ Some b
    → has_atom (over m s) p ≡ b
has_atom-over_some m s p b h e = has_atom-over m s p h ∙ ap (λ o. or_else o (has_atom s p)) e

-- where nothing is, past the end too
pub has_atom-over_none : (m : List ℕ) (s : List Bool) (p : ℕ) → known m p ≡ None
    → has_atom (over m s) p ≡ has_atom s p
has_atom-over_none m s p e =
    elim (cases_lt p (length s)) [
      | inl less ↦ has_atom-over m s p less ∙ ap (λ o. or_else o (has_atom s p)) e
      | inr past ↦
          let size = length-over m s in
          has_atom_past (over m s) p (omega arith) ∙ sym (has_atom_past s p past)
    ]

pub has_atom-filled : (value : Bool) (m : List ℕ) (p : ℕ) → p < length m
    → has_atom (filled value m) p ≡ or_else (known m p) value
has_atom-filled value m p h =
    let within : p < length (replicate (length m) value) = omega
    (arith, length-replicate (length m) value) in
    has_atom-over m (replicate (length m) value) p within
    ∙ ap (or_else (known m p)) (get_or-replicate (length m) p value false h)

-- marks that say nothing change nothing
pub over-nil : (s : List Bool) → over [] s ≡ s
over-nil [] = refl
over-nil (f ∷ fs) = refl

pub over-none : (m : List ℕ) (s : List Bool) → ((p : ℕ) → known m p ≡ None) → over m s ≡ s
over-none m s none =
    same_state (over m s) s (length-over m s) (λ p h. has_atom-over_none m s p (none p))

-- a state with marks over it agrees with them
pub agrees_over : (m : List ℕ) (s : List Bool) → length m ≡ length s → Agrees m (over m s)
agrees_over m s e = λ p b h. let within = known_within m p b h in
    has_atom-over_some m s p b (omega arith) h

pub agrees_filled : (value : Bool) (m : List ℕ) → Agrees m (filled value m)
agrees_filled value m = agrees_over m (replicate (length m) value)
    (sym (length-replicate (length m) value))

pub agrees_low : (m : List ℕ) → Agrees m (low m)
agrees_low m = agrees_filled false m

pub extends_same : (m : List ℕ) → KeepsKnown m m
extends_same m = λ p b h. h

pub extends_then : (m k n : List ℕ) → KeepsKnown m k → KeepsKnown k n → KeepsKnown m n
extends_then m k n first second = λ p b h. second p b (first p b h)

pub agrees_extends : (m k : List ℕ) (s : List Bool) → KeepsKnown m k → Agrees k s → Agrees m s
agrees_extends m k s grows agrees = λ p b h. agrees p b (grows p b h)

-- one mark more
pub extends_write : (m k : List ℕ) (atom : ℕ) → known m atom ≡ None
    → ((p : ℕ) → (p ≡ atom → ⊥) → known k p ≡ known m p) → KeepsKnown m k
extends_write m k atom none others = λ p b h.
    elim (cases_eq p atom) [
      | inl same ↦ let at : known m p ≡ None = ap (known m) same ∙ none in absurd (cc)
      | inr other ↦ others p other ∙ h
    ]

pub agrees_write : (m k : List ℕ) (atom : ℕ) (value : Bool) (s : List Bool)
    → known k atom ≡ Some value
    → ((p : ℕ) → (p ≡ atom → ⊥) → known k p ≡ known m p) → has_atom s atom ≡ value → Agrees m s
    → Agrees k s
agrees_write m k atom value s here others is agrees = λ p b h.
    elim (cases_eq p atom) [
      | inl same ↦
          let at : known k p ≡ Some value = ap (known k) same ∙ here in
          let flag : has_atom s p ≡ value = ap (has_atom s) same ∙ is in
          let equal : Some value ≡ Some b = sym at ∙ h in cc
      | inr other ↦ agrees p b (sym (others p other) ∙ h)
    ]

-- what is known through an effect comes from it or from the marks
first_cases : (e m : Option Bool) (b : Bool) → first_of e m ≡ Some b
    → (e ≡ Some b) ⊎ ((e ≡ None) × (m ≡ Some b))
first_cases None m b h = inr (refl, h)
first_cases (Some v) m b h = inl h

first_none : (e m : Option Bool) → first_of e m ≡ None → (e ≡ None) × (m ≡ None)
first_none None m h = (refl, h)
first_none (Some v) m h = absurd (cc)

pub through_some : (e m : List ℕ) (p : ℕ) (b : Bool) → known_through e m p ≡ Some b
    → (known e p ≡ Some b) ⊎ ((known e p ≡ None) × (known m p ≡ Some b))
through_some e m p b h = first_cases (known e p) (known m p) b h

pub through_none : (e m : List ℕ) (p : ℕ) → known_through e m p ≡ None
    → (known e p ≡ None) × (known m p ≡ None)
through_none e m p h = first_none (known e p) (known m p) h

pub has_atom-through : (e m : List ℕ) (s : List Bool) (p : ℕ) (b : Bool)
    → known_through e m p ≡ Some b → Agrees m s
    → p < length s → has_atom (over e s) p ≡ b
has_atom-through e m s p b h agrees within =
    elim (through_some e m p b h) [
      | inl at ↦ has_atom-over_some e s p b within at
      | inr both ↦ has_atom-over_none e s p both.0 ∙ agrees p b both.1
    ]

pub through_extends : (e m k : List ℕ) (p : ℕ) (b : Bool) → KeepsKnown m k
    → known_through e m p ≡ Some b
    → known_through e k p ≡ Some b
through_extends e m k p b grows h =
    elim (through_some e m p b h) [
      | inl at ↦ ap (λ o. first_of o (known k p)) at
      | inr both ↦ ap (λ o. first_of o (known k p)) both.0 ∙ grows p b both.1
    ]

-- a literal has a value where its atom has one
turned : (o : Option Bool) (sign b : Bool)
    → option_map (λ value. cond sign value (not value)) o ≡ Some b
    → (v : Bool) × (o ≡ Some v) × (cond sign v (not v) ≡ b)
turned None sign b h = absurd (cc)
turned (Some v) sign b h = (v, refl, cc)

turned_none : (o : Option Bool) (sign : Bool)
    → option_map (λ value. cond sign value (not value)) o ≡ None → o ≡ None
turned_none None sign h = refl
turned_none (Some v) sign h = absurd (cc)

pub value_some : (e m : List ℕ) (l : Literal) (b : Bool) → value_of e m l ≡ Some b
    → (v : Bool) × (known_through e m l.atom ≡ Some v) × (cond l.positive v (not v) ≡ b)
value_some e m l b h = turned (known_through e m l.atom) l.positive b h

pub value_none : (e m : List ℕ) (l : Literal) → value_of e m l ≡ None
    → (known e l.atom ≡ None) × (known m l.atom ≡ None)
value_none e m l h = through_none e m l.atom (turned_none (known_through e m l.atom) l.positive h)

-- a literal of which a value is known has it in each state that agrees with the marks, seen through
-- the effect
pub value_is : (e m : List ℕ) (l : Literal) (s : List Bool) (b : Bool) → value_of e m l ≡ Some b
    → Agrees m s
    → l.atom < length s → in_literal l (over e s) ≡ b
value_is e m l s b h agrees within =
    let parts = value_some e m l b h in
    ap (λ f. cond l.positive f (not f)) (has_atom-through e m s l.atom parts.0 parts.1 agrees
    within) ∙ parts.2

pub value_true : (e m : List ℕ) (l : Literal) (s : List Bool) → value_of e m l ≡ Some true
    → Agrees m s
    → l.atom < length s → in_literal l (over e s) ≡ true
value_true e m l s h agrees within = value_is e m l s true h agrees within

pub value_false : (e m : List ℕ) (l : Literal) (s : List Bool) → value_of e m l ≡ Some false
    → Agrees m s
    → l.atom < length s → in_literal l (over e s) ≡ false
value_false e m l s h agrees within = value_is e m l s false h agrees within

-- one of which nothing is known is as in the state itself
pub value_open : (e m : List ℕ) (l : Literal) (s : List Bool) → value_of e m l ≡ None
    → l.atom < length s
    → in_literal l (over e s) ≡ in_literal l s
value_open e m l s h within =
    ap (λ f. cond l.positive f (not f)) (has_atom-over_none e s l.atom (value_none e m l h).0)

-- what was known of a literal stays known
pub value_extends : (e m k : List ℕ) (l : Literal) (b : Bool) → KeepsKnown m k
    → value_of e m l ≡ Some b → value_of e k l ≡ Some b
value_extends e m k l b grows h =
    let parts = value_some e m l b h in
    ap (option_map (λ value. cond l.positive value (not value)))
    (through_extends e m k l.atom parts.0 grows parts.1)
    ∙ ap Some parts.2

pub AreFalse_extends : (e : List ℕ) (literals : List Literal) (m k : List ℕ) → KeepsKnown m k
    → AreFalse e literals m
    → AreFalse e literals k
AreFalse_extends e literals m k grows all =
    All-weaker (λ l. value_of e m l ≡ Some false) (λ l. value_of e k l ≡ Some false)
    (λ l h. value_extends e m k l false grows h) literals all

turned_opposite : (o : Option Bool) (sign b : Bool)
    → option_map (λ value. cond sign value (not value)) o ≡ Some b
    → option_map (λ value. cond (not sign) value (not value)) o ≡ Some (not b)
turned_opposite None sign b h = absurd (cc)
turned_opposite (Some v) sign b h = let same : cond sign v (not v) ≡ b = cc in
    ap Some (not_turned sign v ∙ ap not same)

turned_back : (o : Option Bool) (sign b : Bool)
    → option_map (λ value. cond (not sign) value (not value)) o ≡ Some b
    → option_map (λ value. cond sign value (not value)) o ≡ Some (not b)
turned_back o true b h = turned_opposite o false b h
turned_back o false b h = turned_opposite o true b h

pub value_from_opposite : (e m : List ℕ) (l : Literal) (b : Bool)
    → value_of e m (opposite l) ≡ Some b
    → value_of e m l ≡ Some (not b)
value_from_opposite e m l b h = turned_back (known_through e m l.atom) l.positive b h

-- the atom of a literal that is true is as its sign says
pub has_atom-literal : (l : Literal) (s : List Bool) → in_literal l s ≡ true
    → has_atom s l.atom ≡ l.positive
has_atom-literal l s h = by l.positive (has_atom s l.atom) h
  where
    by : (sign flag : Bool) → cond sign flag (not flag) ≡ true → flag ≡ sign
    by true flag e = e
    by false true e = absurd (cc)
    by false false e = refl

-- the opposite of a literal that is known to be true is as the effect makes it, or else false
pub behind_none : (e m : List ℕ) (l : Literal) → known e l.atom ≡ None
    → known m l.atom ≡ Some l.positive → value_of e m (opposite l) ≡ Some false
behind_none e m l none some =
    let turn = option_map (λ value. cond (not l.positive) value (not value)) in
    ap (λ o. turn (first_of o (known m l.atom))) none ∙ (ap turn some ∙ ap Some (out l.positive))
  where
    out : (sign : Bool) → cond (not sign) sign (not sign) ≡ false
    out true = refl
    out false = refl

pub behind_some : (e m : List ℕ) (l : Literal) (value : Bool) → known e l.atom ≡ Some value
    → value_of e m (opposite l) ≡ Some (not (beq value l.positive))
behind_some e m l value some =
    ap (λ o. option_map (λ v. cond (not l.positive) v (not v)) (first_of o (known m l.atom))) some
    ∙ ap Some (by l.positive value)
  where
    by : (sign v : Bool) → cond (not sign) v (not v) ≡ not (beq v sign)
    by true true = refl
    by true false = refl
    by false true = refl
    by false false = refl
