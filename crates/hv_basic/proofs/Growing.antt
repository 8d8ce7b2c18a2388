-- A line more, and the stores denote the lines again.
use Rattle.std.proofs.Common.{◌≡◌, ℕ, ◌<◌, ◌∙◌, ◌++◌, List, [], ◌∷◌, Option, None, Some, eqb}
use Rattle.std.proofs.Common.{length, map, refl, sym, ap, subst, inl, inr, arith}
use Rattle.std.proofs.lemmas.Bool.{cases_lt, cond-true, cond-false, eq-eqb, ne_eqb}
use Rattle.std.proofs.lemmas.List.{get_or_append_left, get_or_push, length-append, length-map}
use Rattle.std.proofs.lemmas.List.{map-append}
use Rattle.std.proofs.lemmas.Option.{slice_get-get_or}
use Rattle.std.specs.Global.{Vec}
use Rattle.std.specs.List.{slice_get}
use Rattle.hv_task.specs.Strips.{Strips, atoms}
use Rattle.hv_lines.specs.Numbering.{IsNumbered, expr_count}
use Rattle.hv_lines.specs.Queries.{dual_in, horn_in, two_in, listed_in, duals_of, horns_of}
use Rattle.hv_lines.specs.Queries.{twos_of, listed_of}
use Rattle.hv_lines.specs.Queries.{count_of, named_by, which_at}
use Rattle.hv_lines.specs.declared.formula_family.FormulaFamily.{FormulaFamily}
use Rattle.hv_lines.specs.declared.formula_family.FormulaFamily.TheVariants as F
use Rattle.hv_lines.specs.declared.line.Expr.{Expr}
use Rattle.hv_lines.specs.declared.line.Line.{Line}
use Rattle.hv_lines.specs.declared.line.Line.TheVariants as L
use Rattle.hv_basic.specs.Stores.{AreChangesFor, AreRowsFor, IsStoreOf, StoreState, formula}
use Rattle.hv_basic.specs.Stores.{listing}
use Rattle.hv_basic.specs.Stores.{stored_counts, with_expr, with_line, with_rows}
use Rattle.hv_basic.specs.declared.change_rows.ChangeRows.{ChangeRows}

-- of a list with one more item, the items before it and that item
pub got_before : {X : Type 0} (xs : List X) (x : X) (i : ℕ) → i < length xs
    → slice_get (xs ++ x ∷ []) i ≡ slice_get xs i
got_before xs x i within =
    let longer = length-append xs (x ∷ []) in
    let less : i < length (xs ++ x ∷ []) = omega (arith, within, longer) in
    slice_get-get_or (xs ++ x ∷ []) i x less
    ∙ (ap Some (get_or_append_left xs (x ∷ []) x i within) ∙ sym (slice_get-get_or xs i x within))

pub got_last : {X : Type 0} (xs : List X) (x : X) (i : ℕ) → i ≡ length xs
    → slice_get (xs ++ x ∷ []) i ≡ Some x
got_last xs x i size =
    let longer = length-append xs (x ∷ []) in
    let less : i < length (xs ++ x ∷ []) = omega (arith, size, longer) in
    slice_get-get_or (xs ++ x ∷ []) i x less ∙ ap Some (get_or_push xs x x i (sym size))

-- formulas with those of one more line
more_of : {X Y : Type 0} (f : X → Y) (store : List Y) (old new : List X) → store ≡ map f old
    → store ++ map f new ≡ map f (old ++ new)
more_of f store old new is = ap (λ ys. ys ++ map f new) is ∙ sym (map-append f old new)

how_many : {X Y : Type 0} (f : X → Y) (store : List Y) (old : List X) → store ≡ map f old
    → length store ≡ length old
how_many f store old is = ap length is ∙ length-map old f

module _ (task : Strips) (older : List Line) (store : StoreState) (is : IsStoreOf task older store)
  where
    counts_alike : (family : FormulaFamily)
        → stored_counts store family ≡ count_of older family 0
    counts_alike F.Horn = how_many (formula (atoms task)) store.horns (horns_of older) is.horns
    counts_alike F.Dual = how_many (formula (atoms task)) store.duals (duals_of older) is.duals
    counts_alike F.Two = how_many (formula (atoms task)) store.twos (twos_of older) is.twos
    counts_alike F.States = how_many (listing (atoms task)) store.listed (listed_of older) is.listed
    counts_alike F.Node = refl

    named_alike : (expr : Expr) → named_by (stored_counts store) expr
        ≡ named_by (λ family. count_of older family 0) expr
    named_alike expr = ap (λ counts. named_by counts expr) (λ i family. counts_alike family i)

    name_at : (own : ℕ) (expr : Expr) → own ≡ expr_count older → (id : ℕ)
        → id < expr_count (L.Expr own expr ∷ older)
        → slice_get (with_expr (atoms task) store expr).names id
        ≡ Some (which_at (L.Expr own expr ∷ older) id)
    name_at own expr numbered id below =
        elim (cases_lt id (expr_count older)) [
          | inl less ↦
              let within : id < length store.names = omega (arith, less, is.each) in
              got_before store.names (named_by (stored_counts store) expr) id within
              ∙ (is.names id less
              ∙ ap Some (sym (cond-false (eqb id own)
              (named_by (λ family. count_of older family 0) expr) (which_at older id)
              (ne_eqb id own (λ same. let both : id ≡ expr_count older = same ∙ numbered in
              omega (arith, less, both))))))
          | inr upto ↦
              let here : id ≡ expr_count older = omega (arith, upto, below) in
              let last : id ≡ length store.names = here ∙ sym is.each in
              got_last store.names (named_by (stored_counts store) expr) id last
              ∙ ap Some (named_alike expr
              ∙ sym (cond-true (eqb id own) (named_by (λ family. count_of older family 0) expr)
              (which_at older id)
              (eq-eqb id own (here ∙ sym numbered))))
        ]

    expr_more : (own : ℕ) (expr : Expr) → own ≡ expr_count older
        → IsStoreOf task (L.Expr own expr ∷ older) (with_expr (atoms task) store expr)
    expr_more own expr numbered = record {
      horns = more_of (formula (atoms task)) store.horns (horns_of older) (horn_in expr) is.horns;
      duals = more_of (formula (atoms task)) store.duals (duals_of older) (dual_in expr) is.duals;
      twos = more_of (formula (atoms task)) store.twos (twos_of older) (two_in expr) is.twos;
      listed = more_of (listing (atoms task)) store.listed (listed_of older) (listed_in expr)
          is.listed;
      each =
          let longer = length-append store.names
          (named_by (stored_counts store) expr ∷ []) in
          omega (arith, longer, is.each);
      names = name_at own expr numbered;
      rows = is.rows;
      changes = is.changes;
    }

    -- with what the next line says the stores denote all lines
    pub line_more : (line : Line) → IsNumbered older line
        → IsStoreOf task (line ∷ older) (with_line (atoms task) store line)
    line_more (L.Acts id acts) numbered =
        record {
          horns = is.horns;
          duals = is.duals;
          twos = is.twos;
          listed = is.listed;
          each = is.each;
          names = is.names;
          rows = is.rows;
          changes = is.changes;
        }
    line_more (L.Expr id expr) numbered = expr_more id expr numbered
    line_more (L.Known id statement word premises) numbered =
        record {
          horns = is.horns;
          duals = is.duals;
          twos = is.twos;
          listed = is.listed;
          each = is.each;
          names = is.names;
          rows = is.rows;
          changes = is.changes;
        }

-- stores without formulas denote no lines
pub none_yet : (task : Strips) (store : StoreState) → store.horns ≡ [] → store.duals ≡ []
    → store.twos ≡ [] → store.listed ≡ [] → store.names ≡ [] → store.rows ≡ None
    → store.changes ≡ None → IsStoreOf task [] store
none_yet task store horns duals twos listed names rows changes = record {
  horns = horns;
  duals = duals;
  twos = twos;
  listed = listed;
  each = ap length names;
  names = λ id below. absurd (omega (arith, below));
  rows = λ made is. let f : None ≡ Some made = sym rows ∙ is in absurd cc;
  changes = λ made is. let f : None ≡ Some made = sym changes ∙ is in absurd cc;
}

-- the stores after a line, by what they are then
pub stands_with : (task : Strips) (older : List Line) (old new : StoreState) (line : Line)
    → IsStoreOf task older old
    → IsNumbered older line → new ≡ with_line (atoms task) old line
    → IsStoreOf task (line ∷ older) new
stands_with task older old new line is numbered same =
    subst (λ s. IsStoreOf task (line ∷ older) s) (sym same)
    (line_more task older old is line numbered)

-- stores with other rows
pub stands_beside : (task : Strips) (lines : List Line) (old new : StoreState)
    (rows : Option (Vec (Vec ℕ))) (changes : Option ChangeRows)
    → IsStoreOf task lines old → new ≡ with_rows old rows changes → AreRowsFor task rows
    → AreChangesFor task changes → IsStoreOf task lines new
stands_beside task lines old new rows changes is same made changed =
    subst (IsStoreOf task lines) (sym same)
    record {
      horns = is.horns;
      duals = is.duals;
      twos = is.twos;
      listed = is.listed;
      each = is.each;
      names = is.names;
      rows = made;
      changes = changed;
    }
