-- Clauses whose literals of one sign are of one atom at most, by a look for one of these literals,
-- and then at each other one.
use Rattle.std.proofs.Common.{◌≡◌, ◌∙◌, Bool, true, false, not, ◌||◌, List, get_or, refl}
use Rattle.std.proofs.Common.{sym, subst, eqb, IsTrue, ◌↔◌}
use Rattle.std.proofs.lemmas.List.Elements.{Contains-get_or}
use Rattle.std.proofs.lemmas.Bool.{eqb-true, eq-eqb}
use Rattle.std.specs.List.{Contains, list_all}
use Rattle.std.proofs.lemmas.List.Sums.{AllPass-from_list_all}
use Rattle.hv_sets.specs.declared.literal.Literal.{Literal}
use Rattle.hv_sets.specs.Kinds.{IsHeaded}
use Rattle.hv_propagation.proofs.Effects.{list_all_from}

-- whether the two signs differ
abbrev pub differs : Bool → Bool → Bool
differs true value = not value
differs false value = value

-- the literal is of the other sign, or of the atom of the head
abbrev pub fits : Bool → Literal → Literal → Bool
fits sign head l = differs sign l.positive || eqb l.atom head.atom

same_atom : (sign value same : Bool) → (differs sign value || same) ≡ true → value ≡ sign
    → same ≡ true
same_atom true true same e f = e
same_atom false false same e f = e
same_atom true false same e f = absurd cc
same_atom false true same e f = absurd cc

fits_from : (sign value same : Bool) → (value ≡ sign → same ≡ true)
    → (differs sign value || same) ≡ true
fits_from true true same given = given refl
fits_from false false same given = given refl
fits_from true false same given = refl
fits_from false true same given = refl

module _ (sign : Bool) (clause : List Literal) where
  all_at : (p : Literal → Bool) (l : Literal) → list_all p clause ≡ true → Contains clause l
      → p l ≡ true
  all_at p l e has =
      subst (λ (m : Literal). p m ≡ true) has.2 (AllPass-from_list_all p clause e has.0 l has.1)

  module _ (head : Literal) (has : Contains clause head) (of_sign : head.positive ≡ sign) where
    one_atom : list_all (fits sign head) clause ≡ true → (l : Literal) → Contains clause l
        → l.positive ≡ sign → l.atom ≡ head.atom
    one_atom e l has_l f =
        eqb-true l.atom head.atom (same_atom sign l.positive (eqb l.atom head.atom)
        (all_at (fits sign head) l e has_l) f)

    forward : list_all (fits sign head) clause ≡ true → IsHeaded sign clause
    forward e l k has_l has_k f g = one_atom e l has_l f ∙ sym (one_atom e k has_k g)

    back : IsHeaded sign clause → list_all (fits sign head) clause ≡ true
    back headed =
        list_all_from (fits sign head) clause
        (λ k d within.
        let l = get_or clause k d in
        fits_from sign l.positive (eqb l.atom head.atom)
        (λ f. eq-eqb l.atom head.atom (headed l head (Contains-get_or clause k d within) has f
        of_sign)))

    pub headed_with : (answer : Bool) → answer ≡ list_all (fits sign head) clause
        → IsTrue answer ↔ IsHeaded sign clause
    headed_with answer is = (λ e. forward (sym is ∙ e), λ headed. is ∙ back headed)
