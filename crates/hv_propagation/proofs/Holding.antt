-- Which literals a clause has, and when literals, clauses and cubes are true.
use Rattle.std.proofs.Common.{◌≡◌, ℕ, ◌∙◌, Bool, true, false, not, ◌&&◌, cond, ◌==◌, List, refl, ap}
use Rattle.std.proofs.Math.Bool.{beq}
use Rattle.std.proofs.lemmas.Bool.{and_from, and_parts}
use Rattle.std.proofs.lemmas.Bool.Decides.{Decides-by_and, Decides-by_or, Decides-eqb}
use Rattle.std.proofs.lemmas.List.Elements.{Decides-contains}
use Rattle.std.proofs.lemmas.List.Folds.{Any-from_list_any, list_any_at}
use Rattle.std.specs.Bool.{Decides}
use Rattle.std.specs.Cmp.{booleans_Decides}
use Rattle.std.specs.List.{All, Contains, list_any}
use Rattle.hv_task.specs.State.{has_atom}
use Rattle.hv_sets.specs.declared.literal.Literal.{Literal}
use Rattle.hv_sets.specs.Cubes.{opposite}
use Rattle.hv_sets.specs.Truth.{in_clause, in_cube, in_literal}

is_literal : (l : Literal) (atom : ℕ) (positive : Bool)
    → Decides ((l.atom == atom) && beq l.positive positive)
    (l ≡ record { atom = atom; positive = positive })
is_literal l atom positive = (
  λ e.
      let parts = and_parts (l.atom == atom) (beq l.positive positive) e in
      let same_atom = (Decides-eqb l.atom atom).0 parts.0 in
      let same_sign = (booleans_Decides l.positive positive).0 parts.1 in
      λ i. record { atom = same_atom i; positive = same_sign i },
  λ e. and_from (l.atom == atom) (beq l.positive positive)
      ((Decides-eqb l.atom atom).1 (ap (λ m. m.atom) e))
      ((booleans_Decides l.positive positive).1 (ap (λ m. m.positive) e)),
)

-- whether a clause has a literal
pub has_literal-Decides : (clause : List Literal) (atom : ℕ) (positive : Bool)
    → Decides (list_any (λ (l : Literal). (l.atom == atom) && beq l.positive positive) clause)
    (Contains {X = Literal} clause (record { atom = atom; positive = positive }))
has_literal-Decides clause atom positive =
    Decides-contains clause (record { atom = atom; positive = positive })
    (list_any (λ (l : Literal). (l.atom == atom) && beq l.positive positive) clause)
    (Decides-by_or (λ (l : Literal). (l.atom == atom) && beq l.positive positive)
    (λ (l : Literal). l ≡ record { atom = atom; positive = positive })
    (λ ls. list_any (λ (l : Literal). (l.atom == atom) && beq l.positive positive) ls)
    (λ l. is_literal l atom positive) refl
    (λ _ _. refl) clause)

-- the opposite literal is true where the literal is false
pub not_turned : (sign flag : Bool) → cond (not sign) flag (not flag)
    ≡ not (cond sign flag (not flag))
not_turned true true = refl
not_turned true false = refl
not_turned false true = refl
not_turned false false = refl

pub opposite_is : (l : Literal) (state : List Bool)
    → in_literal (opposite l) state ≡ not (in_literal l state)
opposite_is l state = not_turned l.positive (has_atom state l.atom)

-- a clause is true where one of its literals is
pub clause_true : (clause : List Literal) (state : List Bool) (l : Literal) → Contains clause l
    → in_literal l state ≡ true
    → in_clause clause state ≡ true
clause_true clause state l c e =
    list_any_at (λ (l : Literal). in_literal l state) clause c.0 l c.1
    (ap (λ (k : Literal). in_literal k state) c.2 ∙ e)

pub clause_found : (clause : List Literal) (state : List Bool) → in_clause clause state ≡ true
    → (l : Literal) × Contains clause l × (in_literal l state ≡ true)
clause_found clause state e =
    let found = Any-from_list_any (λ (l : Literal). in_literal l state) clause e in
    (found.1, (found.0, found.2, found.3), found.4)

pub in_cube-Decides : (cube : List Literal) (state : List Bool)
    → Decides (in_cube cube state) (All (λ (l : Literal). in_literal l state ≡ true) cube)
in_cube-Decides cube state =
    Decides-by_and (λ (l : Literal). in_literal l state)
    (λ (l : Literal). in_literal l state ≡ true) (λ ls. in_cube ls state)
    (λ l. (λ e. e, λ e. e)) refl (λ _ _. refl) cube
