-- The clauses of a joint formula, put together set by set.
use Rattle.std.proofs.Common.{◌≡◌, ℕ, suc, ◌≤◌, ◌+◌, ◌++◌, ◌∙◌, Bool, List, [], ◌∷◌, Some}
use Rattle.std.proofs.Common.{length, take, slice_get, refl, sym, ap, subst, inl, inr, arith}
use Rattle.std.proofs.lemmas.List.{append_assoc, take_all}
use Rattle.std.proofs.lemmas.List.Elements.{All-append, Contains-append_cases}
use Rattle.std.proofs.lemmas.List.Elements.{Contains-append_left}
use Rattle.std.proofs.lemmas.List.Elements.{Contains-append_right, Contains-push}
use Rattle.std.proofs.lemmas.List.Elements.{Contains-push_cases}
use Rattle.std.proofs.lemmas.Option.{get_or_from_slice_get, same_Some, slice_get_within}
use Rattle.std.specs.List.{All, Contains}
use Rattle.hv_task.specs.Strips.{Strips, atoms}
use Rattle.hv_sets.specs.declared.literal.Literal.{Literal}
use Rattle.hv_sets.specs.declared.operand.Which.{Which}
use Rattle.hv_lines.specs.Numbering.{IsTable, expr_at}
use Rattle.hv_lines.specs.Shapes.{Askings, IsOfFamily, family_of}
use Rattle.hv_lines.specs.declared.formula_family.FormulaFamily.TheVariants as F
use Rattle.hv_lines.specs.declared.line.Expr.{Expr}
use Rattle.hv_lines.specs.declared.line.Expr.TheVariants as E
use Rattle.hv_lines.specs.declared.line.Line.{Line}
use Rattle.hv_formula.specs.Clausal.{FormulaState}
use Rattle.hv_lines.proofs.Elements.{nothing_in}
use Rattle.hv_basic.specs.Sharing.{AreJointClauses, HasClause, own_clauses}
use Rattle.hv_basic.specs.Stores.{IsStoreOf, StoreState, formula}
use Rattle.hv_basic.specs.Working.Joints.{IsStoredIn}
use Rattle.hv_basic.proofs.Gathering.{take_more}
use Rattle.hv_basic.proofs.Mixing.{IsFound, dual_found, horn_found, two_found}

-- one element more
pub taken : {X : Type 0} (xs : List X) (i : ℕ) (x : X) → slice_get xs i ≡ Some x
    → take (i + 1) xs ≡ take i xs ++ x ∷ []
taken xs i x at =
    let up : i + 1 ≡ suc i = omega arith in
    ap (λ n. take n xs) up ∙ (take_more xs i x (slice_get_within xs i x at)
    ∙ ap (λ y. take i xs ++ y ∷ []) (get_or_from_slice_get xs i x x at))

pub clauses_put : {X : Type 0} (before into next xs : List X) (i : ℕ) (x : X)
    → slice_get xs i ≡ Some x → into ≡ before ++ take i xs → next ≡ into ++ x ∷ []
    → next ≡ before ++ take (i + 1) xs
clauses_put before into next xs i x at was put =
    put ∙ (ap (λ ys. ys ++ x ∷ []) was ∙ (append_assoc before (take i xs) (x ∷ [])
    ∙ ap (λ ys. before ++ ys) (sym (taken xs i x at))))

-- the clauses of one set more
pub joint_put : (lines : List Line) (asked : Askings) (i : ℕ) (a : ℕ × Bool)
    (all own next : List (List Literal)) (expr : Expr) → slice_get asked i ≡ Some a
    → expr_at lines a.0 ≡ Some expr → own_clauses expr ≡ Some own → next ≡ all ++ own
    → AreJointClauses lines (take i asked) all → AreJointClauses lines (take (i + 1) asked) next
joint_put lines asked i a all own next expr at at_set of put are clause = (out, back)
  where
    grown : take (i + 1) asked ≡ take i asked ++ a ∷ []
    grown = taken asked i a at

    in_asked : (b : ℕ × Bool) → Contains (take i asked ++ a ∷ []) b
        → Contains (take (i + 1) asked) b
    in_asked b c = subst (λ (xs : Askings). Contains xs b) (sym grown) c

    out : Contains next clause
        → (b : ℕ × Bool) × Contains (take (i + 1) asked) b × HasClause lines b.0 clause
    out c = elim (Contains-append_cases all own clause (subst (λ xs. Contains xs clause) put c)) [
      | inl early ↦
          let was = (are clause).0 early in (
            was.0,
            in_asked was.0 (Contains-append_left (take i asked) (a ∷ []) was.0 was.1),
            was.2,
          )
      | inr here ↦ (
        a,
        in_asked a (Contains-push (take i asked) a),
        (expr, at_set, (own, of, here)),
      )
    ]

    own_of : (b : ℕ × Bool) → a ≡ b → HasClause lines b.0 clause → Contains own clause
    own_of b same (other, other_at, (xs, xs_of, has)) =
        let one : expr ≡ other =
        same_Some expr other
        (sym at_set ∙ (ap (λ (x : ℕ × Bool). expr_at lines x.0) same ∙ other_at)) in
        subst (λ ys. Contains ys clause)
        (same_Some xs own (sym xs_of ∙ (ap own_clauses (sym one) ∙ of))) has

    back : ((b : ℕ × Bool) × Contains (take (i + 1) asked) b × HasClause lines b.0 clause)
        → Contains next clause
    back (b, c, has) =
        subst (λ xs. Contains xs clause) (sym put)
        (elim (Contains-push_cases (take i asked) a b
        (subst (λ (xs : Askings). Contains xs b) grown c)) [
          | inl early ↦ Contains-append_left all own clause ((are clause).1 (b, early, has))
          | inr same ↦ Contains-append_right all own clause (own_of b same has)
        ])

-- the formula that is stored is found by its name
pub found_of : (lines : List Line) (names : List Which) (store : List FormulaState) (count set : ℕ)
    (is : IsStoredIn lines names store count set) → IsFound names store set is.formula
found_of lines names store count set is = record {
  number = is.number;
  named = is.named;
  there = is.there;
}

-- what holds of each clause, holds of one set's clauses beside the others
pub all_put : (P : List Literal → Type 0) (all own next : List (List Literal)) → next ≡ all ++ own
    → All P all → All P own → All P next
all_put P all own next put each more =
    subst (All P) (sym put) (All-append P all own each more)

-- nothing is asked about, and there is no clause
pub joint_none : (lines : List Line) (all : List (List Literal)) → all ≡ []
    → AreJointClauses lines [] all
joint_none lines all none clause = (
  λ c. absurd (nothing_in clause (subst (λ xs. Contains xs clause) none c)),
  λ (a, c, has). absurd (nothing_in a c),
)

pub joint_whole : (lines : List Line) (asked : Askings) (i : ℕ) (all : List (List Literal))
    → length asked ≤ i → AreJointClauses lines (take i asked) all → AreJointClauses lines asked all
joint_whole lines asked i all whole are =
    subst (λ (xs : Askings). AreJointClauses lines xs all) (take_all i asked whole) are

pub all_none : (P : List Literal → Type 0) (all : List (List Literal)) → all ≡ [] → All P all
all_none P all none = subst (All P) (sym none) (λ i d within. absurd (omega (arith, within)))

horn_expr : (expr : Expr) → family_of expr ≡ Some F.Horn
    → (clauses : List (List Literal)) × (expr ≡ E.Horn clauses)
horn_expr (E.Constant x) of = absurd (cc (of))
horn_expr (E.Horn x) of = (x, refl)
horn_expr (E.Dual x) of = absurd (cc (of))
horn_expr (E.Two x) of = absurd (cc (of))
horn_expr (E.States x) of = absurd (cc (of))
horn_expr (E.Node x) of = absurd (cc (of))
horn_expr (E.Not x) of = absurd (cc (of))
horn_expr (E.And x y) of = absurd (cc (of))
horn_expr (E.Or x y) of = absurd (cc (of))
horn_expr (E.After x y) of = absurd (cc (of))
horn_expr (E.Before x y) of = absurd (cc (of))

dual_expr : (expr : Expr) → family_of expr ≡ Some F.Dual
    → (clauses : List (List Literal)) × (expr ≡ E.Dual clauses)
dual_expr (E.Constant x) of = absurd (cc (of))
dual_expr (E.Horn x) of = absurd (cc (of))
dual_expr (E.Dual x) of = (x, refl)
dual_expr (E.Two x) of = absurd (cc (of))
dual_expr (E.States x) of = absurd (cc (of))
dual_expr (E.Node x) of = absurd (cc (of))
dual_expr (E.Not x) of = absurd (cc (of))
dual_expr (E.And x y) of = absurd (cc (of))
dual_expr (E.Or x y) of = absurd (cc (of))
dual_expr (E.After x y) of = absurd (cc (of))
dual_expr (E.Before x y) of = absurd (cc (of))

two_expr : (expr : Expr) → family_of expr ≡ Some F.Two
    → (clauses : List (List Literal)) × (expr ≡ E.Two clauses)
two_expr (E.Constant x) of = absurd (cc (of))
two_expr (E.Horn x) of = absurd (cc (of))
two_expr (E.Dual x) of = absurd (cc (of))
two_expr (E.Two x) of = (x, refl)
two_expr (E.States x) of = absurd (cc (of))
two_expr (E.Node x) of = absurd (cc (of))
two_expr (E.Not x) of = absurd (cc (of))
two_expr (E.And x y) of = absurd (cc (of))
two_expr (E.Or x y) of = absurd (cc (of))
two_expr (E.After x y) of = absurd (cc (of))
two_expr (E.Before x y) of = absurd (cc (of))

-- a formula of each family is in its store
module _ (task : Strips) (lines : List Line) (store : StoreState) (is : IsStoreOf task lines store)
    (table : IsTable lines) (set : ℕ) (sets : List FormulaState) where
  stored_by : (expr : Expr) (clauses : List (List Literal)) → expr_at lines set ≡ Some expr
      → own_clauses expr ≡ Some clauses → (own : List FormulaState)
      → IsFound store.names own set (formula (atoms task) clauses) → sets ≡ own
      → IsStoredIn lines store.names sets (atoms task) set
  stored_by expr clauses at of own found same = record {
    number = found.number;
    formula = formula (atoms task) clauses;
    named = found.named;
    there = ap (λ xs. slice_get xs found.number) same ∙ found.there;
    wide = refl;
    expr = expr;
    at = at;
    of = of;
  }

  pub horn_stored : sets ≡ store.horns → IsOfFamily lines F.Horn set
      → IsStoredIn lines store.names sets (atoms task) set
  horn_stored same (expr, at, of) =
      let w = horn_expr expr of in
      let says : expr_at lines set ≡ Some (E.Horn w.0) = at ∙ ap Some w.1 in
      stored_by (E.Horn w.0) w.0 says refl store.horns
      (horn_found task lines store is table set w.0 says) same

  pub dual_stored : sets ≡ store.duals → IsOfFamily lines F.Dual set
      → IsStoredIn lines store.names sets (atoms task) set
  dual_stored same (expr, at, of) =
      let w = dual_expr expr of in
      let says : expr_at lines set ≡ Some (E.Dual w.0) = at ∙ ap Some w.1 in
      stored_by (E.Dual w.0) w.0 says refl store.duals
      (dual_found task lines store is table set w.0 says) same

  pub two_stored : sets ≡ store.twos → IsOfFamily lines F.Two set
      → IsStoredIn lines store.names sets (atoms task) set
  two_stored same (expr, at, of) =
      let w = two_expr expr of in
      let says : expr_at lines set ≡ Some (E.Two w.0) = at ∙ ap Some w.1 in
      stored_by (E.Two w.0) w.0 says refl store.twos
      (two_found task lines store is table set w.0 says) same
