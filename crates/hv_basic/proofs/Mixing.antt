-- Inclusions between formulas of two families: what is found by the walks is what is claimed of the
-- lines.
use Rattle.std.proofs.Common.{◌≡◌, ℕ, ◌<◌, ◌∙◌, Bool, List, [], ◌∷◌, Some, length, map, refl, sym}
use Rattle.std.proofs.Common.{ap, subst}
use Rattle.std.proofs.lemmas.Option.{same_Some, slice_get-get_or, slice_get-map, slice_get_within}
use Rattle.std.specs.List.{slice_get}
use Rattle.std.specs.Option.{option_map}
use Rattle.hv_task.specs.Strips.{Strips, atoms}
use Rattle.hv_sets.specs.declared.literal.Literal.{Literal}
use Rattle.hv_sets.specs.declared.operand.Which.{Which}
use Rattle.hv_sets.specs.declared.operand.Which.TheVariants as S
use Rattle.hv_lines.specs.Numbering.{IsTable, expr_at}
use Rattle.hv_lines.specs.Queries.{collected, dual_in, horn_in, two_in, listed_in, which_at}
use Rattle.hv_lines.specs.Shapes.{AreOfTwoFamilies, AreTwo, HasShape, IsLiteralOf, OfSets, OfTwo}
use Rattle.hv_lines.specs.Shapes.{OfActs}
use Rattle.hv_lines.specs.declared.line.Line.{Line}
use Rattle.hv_lines.specs.declared.line.Expr.{Expr}
use Rattle.hv_lines.specs.declared.line.Expr.TheVariants as E
use Rattle.hv_lines.specs.declared.line.Statement.{Statement}
use Rattle.hv_lines.specs.declared.line.Statement.TheVariants as T
use Rattle.hv_lines.specs.declared.line.Word.{Word}
use Rattle.hv_lines.specs.declared.line.Word.TheVariants as W
use Rattle.hv_lines.proofs.Laws.{expr_below}
use Rattle.hv_lines.proofs.Named.{count_before, found_number, which_is}
use Rattle.hv_lines.proofs.Questions.{two_no_question}
use Rattle.hv_lines.proofs.Shaped.{literal_once}
use Rattle.hv_basic.specs.Stores.{IsStoreOf, StoreState, formula, listing}

-- sides that are literals, but not of two families, have no shape
pub two_fails : (lines : List Line) (left right : ℕ) (a b : ℕ × Bool)
    → IsLiteralOf lines left a.0 a.1 → IsLiteralOf lines right b.0 b.1
    → (AreOfTwoFamilies lines a.0 b.0 → ⊥) → (x y : ℕ × Bool) → AreTwo lines left right x y → ⊥
two_fails lines left right a b one other out x y is =
    out (subst (λ s. AreOfTwoFamilies lines s b.0)
    (literal_once lines left x.0 a.0 x.1 a.1 is.left_is one).0
    (subst (λ s. AreOfTwoFamilies lines x.0 s)
    (literal_once lines right y.0 b.0 y.1 b.1 is.right_is other).0 is.families))

-- without sides of two families there is no shape
no_shape : (lines : List Line) (left right : ℕ)
    → ((x y : ℕ × Bool) → AreTwo lines left right x y → ⊥) → HasShape lines (T.Sub left right) W.B4
    → ⊥
no_shape lines left right none (OfSets word q, is) = two_no_question lines W.B4 left right q refl
    is.1
no_shape lines left right none (OfTwo x y, is) = none x y is.1
no_shape lines left right none (OfActs a b, is) = is

pub two_unshaped : (lines : List Line) (statement : Statement) (word : Word) (left right : ℕ)
    → statement ≡ T.Sub left right → word ≡ W.B4
    → ((x y : ℕ × Bool) → AreTwo lines left right x y → ⊥) → HasShape lines statement word → ⊥
two_unshaped lines statement word left right sub b4 none has =
    no_shape lines left right none (subst (λ st. HasShape lines st W.B4) sub
    (subst (λ w. HasShape lines statement w) b4 has))

-- by its name the formula of a line is found in the store of its family
pub record IsFound {Y : Type 0} (names : List Which) (store : List Y) (id : ℕ) (formula : Y)
    : Type 0 where
  pub number : ℕ
  pub named : slice_get names id ≡ Some (S.Set number)
  pub there : slice_get store number ≡ Some formula

module _ {Y : Type 0} (names : List Which) (store : List Y) (id : ℕ) (formula : Y)
    (found : IsFound names store id formula) (sets : List Y) (same : sets ≡ store)
    (number : ℕ) (named : slice_get names id ≡ Some (S.Set number)) where
  at_number : slice_get sets number ≡ Some formula
  at_number =
      let one : found.number ≡ number = cc (found.named, named) in
      ap (λ xs. slice_get xs number) same
      ∙ (ap (slice_get store) (sym one) ∙ found.there)

  pub found_within : number < length sets
  found_within = slice_get_within sets number formula at_number

  pub found_is : (got : Y) → slice_get sets number ≡ Some got → got ≡ formula
  found_is got at = same_Some got formula (sym at ∙ at_number)

module _ {X Y : Type 0} (formula_in : Expr → List X) (made : X → Y) (lines : List Line)
    (names : List Which) (store : List Y) (is : store ≡ map made (collected formula_in lines))
    (id : ℕ) (named : slice_get names id ≡ Some (which_at lines id)) where
  found_by : (expr : Expr) (formula : X) → expr_at lines id ≡ Some expr
      → formula_in expr ≡ formula ∷ []
      → which_at lines id ≡ S.Set (count_before formula_in lines id)
      → IsFound names store id (made formula)
  found_by expr formula at has number =
      let found = found_number formula_in lines id expr formula formula at has in
      let n = count_before formula_in lines id in record {
        number = n;
        named = named ∙ ap Some number;
        there =
            ap (λ xs. slice_get xs n) is
            ∙ (slice_get-map made (collected formula_in lines) n
            ∙ ap (λ o. option_map made o)
            (slice_get-get_or (collected formula_in lines) n formula found.0 ∙ ap Some found.1));
      }

module _ (task : Strips) (lines : List Line) (store : StoreState) (is : IsStoreOf task lines store)
    (table : IsTable lines) (id : ℕ) where
  name_of : (expr : Expr) → expr_at lines id ≡ Some expr
      → slice_get store.names id ≡ Some (which_at lines id)
  name_of expr at = is.names id (expr_below lines id expr table at)

  -- the families
  pub horn_found : (clauses : List (List Literal)) → expr_at lines id ≡ Some (E.Horn clauses)
      → IsFound store.names store.horns id (formula (atoms task) clauses)
  horn_found clauses at = found_by horn_in (formula (atoms task)) lines store.names store.horns
      is.horns id (name_of _ at) _ clauses at refl (which_is lines id (E.Horn clauses) at)

  pub dual_found : (clauses : List (List Literal)) → expr_at lines id ≡ Some (E.Dual clauses)
      → IsFound store.names store.duals id (formula (atoms task) clauses)
  dual_found clauses at = found_by dual_in (formula (atoms task)) lines store.names store.duals
      is.duals id (name_of _ at) _ clauses at refl (which_is lines id (E.Dual clauses) at)

  pub two_found : (clauses : List (List Literal)) → expr_at lines id ≡ Some (E.Two clauses)
      → IsFound store.names store.twos id (formula (atoms task) clauses)
  two_found clauses at = found_by two_in (formula (atoms task)) lines store.names store.twos
      is.twos id (name_of _ at) _ clauses at refl (which_is lines id (E.Two clauses) at)

  pub listed_found : (states : List (List ℕ)) → expr_at lines id ≡ Some (E.States states)
      → IsFound store.names store.listed id (listing (atoms task) states)
  listed_found states at = found_by listed_in (listing (atoms task)) lines store.names store.listed
      is.listed id (name_of _ at) _ states at refl (which_is lines id (E.States states) at)
