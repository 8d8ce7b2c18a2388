-- What is kept of the notes: it tells which states a note's formula holds.
use Rattle.std.proofs.Common.{◌≡◌, ◌++◌, ℕ, zero, suc, ◌+◌, ◌<◌, ◌≤◌, ◌∙◌, Bool, true, List, []}
use Rattle.std.proofs.Common.{◌∷◌, Some, None, length, get_or, slice_get, refl, sym, ap, inl, inr}
use Rattle.std.proofs.Common.{subst, arith, length-append}
use Rattle.std.proofs.lemmas.List.{get_or_append_left, get_or_default}
use Rattle.std.proofs.lemmas.List.Elements.{All-contains}
use Rattle.std.proofs.lemmas.Bool.{cases_eq, cases_lt}
use Rattle.std.proofs.lemmas.Option.{same_Some, slice_get_cases, slice_get-get_or, slice_get_within}
use Rattle.std.proofs.Math.Seq.{get_or-append_seam}
use Rattle.std.specs.Option.{IfSome}
use Rattle.std.specs.List.{All}
use Rattle.hv_task.specs.AtomList.{IsListOf}
use Rattle.hv_task.specs.State.{AreBelow, has_atom}
use Rattle.hv_task.specs.Strips.{Strips, IsState, atoms}
use Rattle.hv_lines.specs.Pruning.{IsFirstNoted, NoneNoted, states_in}
use Rattle.hv_lines.specs.declared.line.Line.{Line}
use Rattle.hv_lines.specs.declared.note.Note.{Note}
use Rattle.hv_task.proofs.Listing.{within_state}
use Rattle.hv_reach.specs.Working.NoteRows.{IsDiagonal, IsFirstPlace, RowHas}
use Rattle.hv_reach.specs.Pruners.{AreDescribed, Describes, HoldsAtomsOf, HoldsPairsOf}
use Rattle.hv_reach.specs.Working.Pruners.{AreDiagonals}
use Rattle.hv_reach.specs.Reached.{HasPairsOf, has_pair}

-- what is at a place
pub described_at : {X : Type 0} (Holds : List X → List Bool → Type 0) (task : Strips)
    (lines : List Line) (notes : List Note)
    (reached : List (List X)) → AreDescribed Holds task lines notes reached
    → (k : ℕ) (note : Note) (item : List X)
    → slice_get notes k ≡ Some note → slice_get reached k ≡ Some item
    → Describes Holds task lines note.set item
described_at Holds task lines notes reached fact k note item at also =
    subst (λ found. IfSome found (Describes Holds task lines note.set)) also (fact.1 k note at)

-- two lists, each with one more
both_pushed : {X Y : Type 0} (P : X → Y → Type 0) (xs : List X) (x : X) (ys : List Y) (y : Y)
    → length ys ≡ length xs
    → ((k : ℕ) (z : X) → slice_get xs k ≡ Some z → IfSome (slice_get ys k) (P z)) → P x y
    → (k : ℕ) (z : X) → slice_get (xs ++ x ∷ []) k ≡ Some z
    → IfSome (slice_get (ys ++ y ∷ []) k) (P z)
both_pushed P [] x [] y size each last zero z at = subst (λ w. P w y) (same_Some x z at) last
both_pushed P [] x [] y size each last (suc k) z at = absurd (cc (at))
both_pushed P [] x (b ∷ ys) y size each last k z at = absurd (omega (arith, size))
both_pushed P (a ∷ xs) x [] y size each last k z at = absurd (omega (arith, size))
both_pushed P (a ∷ xs) x (b ∷ ys) y size each last zero z at = each 0 z at
both_pushed P (a ∷ xs) x (b ∷ ys) y size each last (suc k) z at =
    both_pushed P xs x ys y (omega (arith, size)) (λ j w got. each (suc j) w got) last k z at

pub described_pushed : {X : Type 0} (Holds : List X → List Bool → Type 0) (task : Strips)
    (lines : List Line) (notes : List Note)
    (reached : List (List X)) (note : Note) (item : List X)
    → AreDescribed Holds task lines notes reached
    → Describes Holds task lines note.set item
    → AreDescribed Holds task lines (notes ++ note ∷ []) (reached ++ item ∷ [])
described_pushed Holds task lines notes reached note item fact last = (
  omega (arith, fact.0, length-append notes (note ∷ []), length-append reached (item ∷ [])),
  both_pushed (λ n. Describes Holds task lines n.set) notes note reached item fact.0 fact.1 last,
)

-- what the search for a pair that isn't in a table tells

module _ (state : List Bool) (held : List ℕ) (listed : IsListOf state held)
    (table : List (List Bool)) where
  in_state : (i d : ℕ) → i < length held → has_atom state (get_or held i d) ≡ true
  in_state i d less =
      ((listed.has (get_or held i d)).0 (i, less, get_or_default held i (get_or held i d) d less)).1

  pub listed_below : AreBelow (length state) held
  listed_below i d less = ((listed.has (get_or held i d)).0
      (i, less, get_or_default held i (get_or held i d) d less)).0

  pub table_holds : HasPairsOf (has_pair table) held → HoldsPairsOf table state
  table_holds all p q has also =
      All-contains (λ y. has_pair table p y ≡ true) held q
      (All-contains (λ x. All (λ y. has_pair table x y ≡ true) held) held p all
      ((listed.has p).1 (within_state state p has, has)))
      ((listed.has q).1 (within_state state q also, also))

  pub table_listed : HoldsPairsOf table state → HasPairsOf (has_pair table) held
  table_listed holds i d less j e below = holds (get_or held i d) (get_or held j e)
      (in_state i d less) (in_state j e below)

-- the same of a row that is kept by atom too
module _ (state : List Bool) (held : List ℕ) (listed : IsListOf state held)
    (rows : List (List Bool)) (k : ℕ) where
  pub row_told : RowHas rows held k → HoldsAtomsOf (get_or rows k []) state
  row_told all p has = All-contains (λ y. has_pair rows k y ≡ true) held p all
      ((listed.has p).1 (within_state state p has, has))

  pub row_listed : HoldsAtomsOf (get_or rows k []) state → RowHas rows held k
  row_listed holds i d less = holds (get_or held i d) (in_state state held listed rows i d less)

-- what is kept for a note is over the task's atoms
pub described_size : {X : Type 0} (Holds : List X → List Bool → Type 0) (task : Strips)
    (lines : List Line) (notes : List Note)
    (reached : List (List X)) → AreDescribed Holds task lines notes reached
    → (k : ℕ) (item : List X) → slice_get reached k ≡ Some item
    → length item ≡ atoms task
described_size Holds task lines notes reached fact k item also =
    elim (slice_get_cases notes k).1 [
      | inl (note, below, at, got) ↦ (described_at Holds task lines notes reached fact k note item
          at also).0
      | inr (past, none) ↦ absurd (omega (
        arith,
        past,
        fact.0,
        slice_get_within reached k item
            also,
      ))
    ]

-- a state that no note before a place holds, and the one there doesn't either
pub none_next : (task : Strips) (lines : List Line) (notes : List Note) (state : List Bool)
    (place : ℕ)
    → ((k : ℕ) (note : Note) → k < place → slice_get notes k ≡ Some note
    → states_in task lines note.set state → ⊥)
    → ((note : Note) → slice_get notes place ≡ Some note → states_in task lines note.set state → ⊥)
    → (k : ℕ) (note : Note) → k < place + 1 → slice_get notes k ≡ Some note
    → states_in task lines note.set state → ⊥
none_next task lines notes state place before here k note less at =
    elim (cases_eq k place) [
      | inl same ↦ here note (subst (λ j. slice_get notes j ≡ Some note) same at)
      | inr other ↦ before k note (omega (arith, less, other)) at
    ]

module _ {X : Type 0} (Holds : List X → List Bool → Type 0) (task : Strips) (lines : List Line)
    (notes : List Note)
    (reached : List (List X)) (fact : AreDescribed Holds task lines notes reached)
    (state : List Bool) (is_state : IsState task state)
    (place : ℕ) (item : List X) (also : slice_get reached place ≡ Some item) where
  -- the note at a place where what is kept allows less than the state
  pub lacks_here : (Holds item state → ⊥) → (note : Note) → slice_get notes place ≡ Some note
      → states_in task lines note.set state → ⊥
  lacks_here lacks note at inside =
      lacks (((described_at Holds task lines notes reached fact place note item at also).1 state
      is_state).0 inside)

  -- the first at which it allows the state
  pub first_here : Holds item state → (note : Note) → slice_get notes place ≡ Some note
      → ((k : ℕ) (other : Note) → k < place → slice_get notes k ≡ Some other
      → states_in task lines other.set state → ⊥)
      → IsFirstNoted task lines notes state note.line
  first_here holds note at before = record {
    place = place;
    note = note;
    at = at;
    by = refl;
    holds = ((described_at Holds task lines notes reached fact place note item at also).1 state
        is_state).1 holds;
    first = before;
  }

-- the rows are over the task's atoms
pub described_over : {X : Type 0} (Holds : List X → List Bool → Type 0) (task : Strips)
    (lines : List Line) (notes : List Note)
    (reached : List (List X)) → AreDescribed Holds task lines notes reached → (k : ℕ)
    → k < length reached → length (get_or reached k []) ≡ atoms task
described_over Holds task lines notes reached fact k less =
    described_size Holds task lines notes reached fact k (get_or reached k [])
    (slice_get-get_or reached k [] less)

-- the first note whose row has each atom of the state
module _ (task : Strips) (lines : List Line) (notes : List Note) (reached : List (List Bool))
    (fact : AreDescribed HoldsAtomsOf task lines notes reached)
    (state : List Bool) (is_state : IsState task state) (held : List ℕ)
    (listed : IsListOf state held) where
  pub atoms_below : (k : ℕ) → k < length reached → AreBelow (length (get_or reached k [])) held
  atoms_below k less =
      subst (λ n. AreBelow n held) (is_state
      ∙ sym (described_over HoldsAtomsOf task lines notes reached fact k less))
      (listed_below state held listed reached)

  lacks_row : (k : ℕ) (note : Note) → slice_get notes k ≡ Some note
      → (k < length reached → RowHas reached held k → ⊥)
      → states_in task lines note.set state → ⊥
  lacks_row k note at lacks inside =
      let less : k < length reached = let same = fact.0 in
      omega (arith, same, slice_get_within notes k note at) in
      lacks_here HoldsAtomsOf task lines notes reached fact state is_state k (get_or reached k [])
      (slice_get-get_or reached k [] less)
      (λ holds. lacks less (row_listed state held listed reached k holds)) note at inside

  pub none_of_rows : IsFirstPlace (RowHas reached held) (length reached) 0 None
      → NoneNoted task lines notes state
  none_of_rows none k note at = lacks_row k note at (λ less has. none k (omega arith) less has)

  pub first_of_rows : (place : ℕ) (note : Note) → slice_get notes place ≡ Some note
      → IsFirstPlace (RowHas reached held) (length reached) 0 (Some place)
      → IsFirstNoted task lines notes state note.line
  first_of_rows place note at told =
      first_here HoldsAtomsOf task lines notes reached fact state is_state place
      (get_or reached place []) (slice_get-get_or reached place [] told.1)
      (row_told state held listed reached place told.2) note at
      (λ k other less got. lacks_row k other got (λ below has. told.3 k (omega arith) less has))

-- notes whose row of atoms lacks one of the state
module _ (task : Strips) (lines : List Line) (notes : List Note) (reached : List (List (List Bool)))
    (fact : AreDescribed HoldsPairsOf task lines notes reached)
    (rows : List (List Bool)) (diagonals : AreDiagonals rows reached) where
  pub diagonals_over : (k : ℕ) → k < length rows → length (get_or rows k []) ≡ atoms task
  diagonals_over k less =
      let below : k < length reached = let same = diagonals.size in omega (arith, same, less) in
      (diagonals.each k below).0 ∙ described_over HoldsPairsOf task lines notes reached fact k below

module _ (task : Strips) (lines : List Line) (notes : List Note) (reached : List (List (List Bool)))
    (fact : AreDescribed HoldsPairsOf task lines notes reached)
    (rows : List (List Bool)) (diagonals : AreDiagonals rows reached)
    (state : List Bool) (is_state : IsState task state) (held : List ℕ)
    (listed : IsListOf state held) where
  pub pair_atoms_below : (k : ℕ) → k < length rows → AreBelow (length (get_or rows k [])) held
  pair_atoms_below k less = subst (λ n. AreBelow n held)
      (is_state ∙ sym (diagonals_over task lines notes reached fact rows diagonals k less))
      (listed_below state held listed rows)

  pub lacks_diagonal : (k : ℕ) (note : Note) → slice_get notes k ≡ Some note
      → (RowHas rows held k → ⊥) → states_in task lines note.set state → ⊥
  lacks_diagonal k note at lacks inside =
      let less : k < length reached = let same = fact.0 in
      omega (arith, same, slice_get_within notes k note at) in
      lacks_here HoldsPairsOf task lines notes reached fact state is_state k (get_or reached k [])
      (slice_get-get_or reached k [] less)
      (λ holds. lacks (λ i d below. ((diagonals.each k less).1 (get_or held i d)).1
      (holds (get_or held i d) (get_or held i d) (in_state state held listed rows i d below)
      (in_state state held listed rows i d below)))) note at inside

  -- all before a place, by those before an earlier one
  pub none_between : (from place : ℕ) → ((k : ℕ) (note : Note) → k < from
      → slice_get notes k ≡ Some note → states_in task lines note.set state → ⊥)
      → ((k : ℕ) → from ≤ k → k < place → RowHas rows held k → ⊥)
      → (k : ℕ) (note : Note) → k < place → slice_get notes k ≡ Some note
      → states_in task lines note.set state → ⊥
  none_between from place before between k note less at =
      elim (cases_lt k from) [
        | inl lt ↦ before k note lt at
        | inr ge ↦ lacks_diagonal k note at (between k ge less)
      ]

  pub none_after : (from : ℕ) → ((k : ℕ) (note : Note) → k < from → slice_get notes k ≡ Some note
      → states_in task lines note.set state → ⊥)
      → IsFirstPlace (RowHas rows held) (length rows) from None → NoneNoted task lines notes state
  none_after from before none k note at =
      none_between from (length rows) before (λ j ge less. none j ge less) k note
      (let same = fact.0 in let also = diagonals.size in
      omega (arith, same, also, slice_get_within notes k note at)) at

-- a note more
pub diagonals_pushed : (rows : List (List Bool)) (tables : List (List (List Bool)))
    (row : List Bool) (table : List (List Bool))
    → AreDiagonals rows tables → IsDiagonal row table
    → AreDiagonals (rows ++ row ∷ []) (tables ++ table ∷ [])
diagonals_pushed rows tables row table diagonals last = record {
  size = let same = diagonals.size in omega
      (arith, same, length-append rows (row ∷ []), length-append tables (table ∷ []));
  each = λ k less.
      elim (cases_eq k (length tables)) [
        | inl e ↦
            let seam : get_or (rows ++ row ∷ []) k [] ≡ row =
            ap (λ n. get_or (rows ++ row ∷ []) n []) (e ∙ sym diagonals.size)
            ∙ get_or-append_seam rows row [] [] in
            let also : get_or (tables ++ table ∷ []) k [] ≡ table =
            ap (λ n. get_or (tables ++ table ∷ []) n []) e
            ∙ get_or-append_seam tables table [] [] in
            subst (λ r. IsDiagonal r (get_or (tables ++ table ∷ []) k [])) (sym seam)
            (subst (IsDiagonal row) (sym also) last)
        | inr e ↦
            let below : k < length tables = omega
            (arith, e, less, length-append tables (table ∷ [])) in
            subst (λ r. IsDiagonal r (get_or (tables ++ table ∷ []) k []))
            (sym (get_or_append_left rows (row ∷ []) [] k
            (let same = diagonals.size in omega (arith, same, below))))
            (subst (IsDiagonal (get_or rows k []))
            (sym (get_or_append_left tables (table ∷ []) [] k below)) (diagonals.each k below))
      ];
}
