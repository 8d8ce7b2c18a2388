-- What is true of literals, and of cubes with one literal more.
use Rattle.std.proofs.Common.{◌≡◌, ◌∙◌, ◌&&◌, ◌++◌, ◌∷◌, [], Bool, true, false, List, ap, cond}
use Rattle.std.proofs.Common.{not, refl, sym}
use Rattle.hv_sets.specs.declared.literal.Literal.{Literal}
use Rattle.hv_sets.specs.Truth.{in_cube, in_literal}

-- whether a literal of an atom is true tells the flag of the atom
pub same_from_literal : (named flag : Bool) → cond named flag (not flag) ≡ true → named ≡ flag
same_from_literal true flag e = sym e
same_from_literal false true e = let f : false ≡ true = e in absurd cc
same_from_literal false false e = refl

pub literal_from_same : (named flag : Bool) → named ≡ flag → cond named flag (not flag) ≡ true
literal_from_same true flag e = sym e
literal_from_same false true e = let f : false ≡ true = e in absurd cc
literal_from_same false false e = refl

-- a state is in a cube with one literal more where it is in the cube and the literal is true
pub in_push : (ls : List Literal) (l : Literal) (s : List Bool)
    → in_cube (ls ++ l ∷ []) s ≡ (in_cube ls s && in_literal l s)
in_push [] l s = by (in_literal l s)
  where
    by : (b : Bool) → (b && true) ≡ b
    by true = refl
    by false = refl
in_push (x ∷ xs) l s = ap (λ b. in_literal x s && b) (in_push xs l s)
    ∙ assoc (in_literal x s) (in_cube xs s) (in_literal l s)
  where
    assoc : (a b c : Bool) → (a && (b && c)) ≡ ((a && b) && c)
    assoc true b c = refl
    assoc false b c = refl
