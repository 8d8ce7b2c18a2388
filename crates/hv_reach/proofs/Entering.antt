-- Rows and their columns.
use Rattle.std.proofs.Common.{◌≡◌, ◌≢◌, ℕ, suc, ◌+◌, ◌*◌, ◌-◌, ◌<◌, ◌≤◌, ◌∙◌, ◌⊎◌, Bool, true}
use Rattle.std.proofs.Common.{false, Option, Some, None, List, [], ◌∷◌, ◌++◌, length, set, get_or}
use Rattle.std.proofs.Common.{slice_get, refl, sym, ap, arith, inl, inr, subst, length-append}
use Rattle.std.proofs.lemmas.Bool.{cases_eq, cases_lt}
use Rattle.std.proofs.lemmas.List.{length-set, get_or_past, get_or_append_left}
use Rattle.std.proofs.lemmas.Option.{slice_get_within}
use Rattle.std.proofs.Math.Seq.{get_or-append_seam}
use Rattle.std.specs.Global.{Vec}
use Rattle.hv_task.specs.Atoms.{IsNext}
use Rattle.hv_task.specs.State.{AreBelow, has_atom}
use Rattle.hv_task.proofs.Listing.{within_state}
use Rattle.hv_reach.specs.Working.NoteRows.{AreColumns, AreColumnsOf, AreRowsIn, AreRowsOver}
use Rattle.hv_reach.specs.Working.NoteRows.{ColumnsHave, IsFirstPlace, RowHas}
use Rattle.hv_reach.specs.Reached.{has_pair}

-- the first place that a mask has
pub first_of_mask : (columns : List (List Bool)) (list : List ℕ) (mask : List Bool) (from : ℕ)
    (found : Option ℕ) → length mask ≡ 512
    → ((j : ℕ) → has_atom mask j ≡ true → ColumnsHave columns list j)
    → ((j : ℕ) → ColumnsHave columns list j → has_atom mask j ≡ true)
    → IsNext (has_atom mask) from found → IsFirstPlace (ColumnsHave columns list) 512 from found
first_of_mask columns list mask from None size sound complete next = λ k le below has.
    let a : false ≡ true = sym (next k le) ∙ complete k has in cc a
first_of_mask columns list mask from (Some j) size sound complete next = (
  next.0,
  let w = within_state mask j next.1 in omega (arith, w, size),
  sound j next.1,
  λ k le before has. let a : false ≡ true = sym (next.2 k le before) ∙ complete k has in cc a,
)

-- rows and columns

pub row_within : (rows : List (List Bool)) (list : List ℕ) (k : ℕ) → 0 < length list
    → RowHas rows list k → k < length rows
row_within rows list k some has =
    elim (cases_lt k (length rows)) [
      | inl lt ↦ lt
      | inr ge ↦
          let e : has_atom [] (get_or list 0 0) ≡ true = subst
          (λ (r : List Bool). has_atom r (get_or list 0 0) ≡ true) (get_or_past rows k [] ge)
          (has 0 0 some) in absurd cc
    ]

module _ (atoms start : ℕ) (rows columns : List (List Bool))
    (kept : AreColumnsOf atoms start rows columns) (list : List ℕ)
    (below : AreBelow (length columns) list) where
  pub row_of_columns : (j : ℕ) → j < 512 → ColumnsHave columns list j → RowHas rows list (start + j)
  row_of_columns j less all i d within = sym
      (kept.flags (get_or list i d) j (below i d within) less) ∙ all i d within

  pub columns_of_row : (j : ℕ) → j < 512 → RowHas rows list (start + j) → ColumnsHave columns list j
  columns_of_row j less all i d within = kept.flags (get_or list i d) j (below i d within) less
      ∙ all i d within

  module _ (from low : ℕ) (is : low ≡ from - start)
      (before : (k : ℕ) → from ≤ k → k < start → RowHas rows list k → ⊥) where
    earlier : (bound : ℕ) → ((j : ℕ) → low ≤ j → j < bound → ColumnsHave columns list j → ⊥)
        → bound ≤ 512
        → (k : ℕ) → from ≤ k → k < start + bound → RowHas rows list k → ⊥
    earlier bound none small k le less has =
        elim (cases_lt k start) [
          | inl lt ↦ before k le lt has
          | inr ge ↦
              let same : k ≡ start + (k - start) = omega arith in
              none (k - start) (omega (arith, is, le, ge)) (omega (arith, ge, less))
              (columns_of_row (k - start) (omega (arith, ge, less, small))
              (subst (RowHas rows list) same has))
        ]

    -- no row of the block has them
    pub none_in_block : (found : Option ℕ) → found ≡ None
        → IsFirstPlace (ColumnsHave columns list) 512 low found
        → (k : ℕ) → from ≤ k → k < start + 512 → RowHas rows list k → ⊥
    none_in_block found none told k le less has =
        earlier 512 (subst (IsFirstPlace (ColumnsHave columns list) 512 low) none told)
        (omega arith) k le less has

    -- one has
    pub some_in_block : (found : Option ℕ) (j : ℕ) → found ≡ Some j
        → IsFirstPlace (ColumnsHave columns list) 512 low found → 0 < length list
        → IsFirstPlace (RowHas rows list) (length rows) from (Some (start + j))
    some_in_block found j some told any =
        let it = subst (IsFirstPlace (ColumnsHave columns list) 512 low) some told in
        let has = row_of_columns j it.1 it.2 in (
          let le = it.0 in omega (arith, is, le),
          row_within rows list (start + j) any has,
          has,
          earlier j it.3 (let w = it.1 in omega (arith, w)),
        )

-- a row more

pub row_pushed : (rows : List (List Bool)) (row : List Bool) (k : ℕ) → k ≢ length rows
    → get_or (rows ++ row ∷ []) k [] ≡ get_or rows k []
row_pushed rows row k other =
    elim (cases_lt k (length rows)) [
      | inl lt ↦ get_or_append_left rows (row ∷ []) [] k lt
      | inr ge ↦
          get_or_past (rows ++ row ∷ []) k [] (omega
          (arith, ge, other, length-append rows (row ∷ [])))
          ∙ sym (get_or_past rows k [] ge)
    ]

pub over_pushed : (atoms : ℕ) (rows : List (List Bool)) (row : List Bool) → AreRowsOver atoms rows
    → length row ≡ atoms → AreRowsOver atoms (rows ++ row ∷ [])
over_pushed atoms rows row over size k less =
    elim (cases_eq k (length rows)) [
      | inl e ↦ ap (λ (r : List Bool). length r)
          (ap (λ n. get_or (rows ++ row ∷ []) n []) e ∙ get_or-append_seam rows row [] []) ∙ size
      | inr e ↦ ap (λ (r : List Bool). length r) (row_pushed rows row k e)
          ∙ over k (omega (arith, e, less, length-append rows (row ∷ [])))
    ]

-- the columns of a block that was full
pub full_pushed : (atoms start : ℕ) (rows columns : List (List Bool)) (row : List Bool)
    → AreColumnsOf atoms start rows columns
    → start + 512 ≤ length rows → AreColumnsOf atoms start (rows ++ row ∷ []) columns
full_pushed atoms start rows columns row kept full = record {
  wide = kept.wide;
  size = kept.size;
  flags = λ p j less within.
      kept.flags p j less within
      ∙ sym (ap (λ (r : List Bool). has_atom r p)
      (row_pushed rows row (start + j) (λ e. let f = e in omega (arith, f, within, full))));
}

-- and of the one into which it is written
pub last_pushed : (atoms start place : ℕ) (rows columns new : List (List Bool)) (row : List Bool)
    → AreColumnsOf atoms start rows columns
    → start + place ≡ length rows → length new ≡ length columns → AreColumns 512 new
    → ((p : ℕ) → p < length columns → has_pair new p place ≡ has_atom row p)
    → ((p j : ℕ) → (j ≡ place → ⊥) → has_pair new p j ≡ has_pair columns p j)
    → AreColumnsOf atoms start (rows ++ row ∷ []) new
last_pushed atoms start place rows columns new row kept at same sized here others = record {
  wide = same ∙ kept.wide;
  size = sized;
  flags = λ p j less within.
      let in_old : p < length columns = omega (arith, same, less) in
      elim (cases_eq j place) [
        | inl e ↦
            ap (λ i. has_pair new p i) e
            ∙ (here p in_old
            ∙ sym (ap (λ (r : List Bool). has_atom r p)
            (ap (λ n. get_or (rows ++ row ∷ []) (start + n) []) e
            ∙ (ap (λ n. get_or (rows ++ row ∷ []) n []) at
            ∙ get_or-append_seam rows row [] []))))
        | inr e ↦
            others p j e
            ∙ (kept.flags p j in_old within
            ∙ sym (ap (λ (r : List Bool). has_atom r p)
            (row_pushed rows row (start + j) (λ f. e (let g = f in omega (arith, g, at))))))
      ];
}

-- the columns of a block without rows
pub none_columns : (atoms start : ℕ) (rows columns : List (List Bool)) → length columns ≡ atoms
    → AreColumns 512 columns
    → ((p j : ℕ) → has_pair columns p j ≡ false) → length rows ≤ start
    → AreColumnsOf atoms start rows columns
none_columns atoms start rows columns size sized none past = record {
  wide = size;
  size = sized;
  flags = λ p j less within. none p j ∙ sym
      (ap (λ (r : List Bool). has_atom r p)
      (get_or_past rows (start + j) [] (omega (arith, past))));
}

-- what is at a place of a list with one item written, and with one more

pub written_at : {X : Type 0} (xs : List X) (i : ℕ) (y : X) (j : ℕ) (z : X)
    → slice_get (set xs i y) j ≡ Some z
    → ((i ≡ j) × (y ≡ z)) ⊎ ((i ≢ j) × (slice_get xs j ≡ Some z))
written_at [] i y j z at = absurd (cc at)
written_at (x ∷ xs) Prim.Native.Nat.zero y Prim.Native.Nat.zero z at = inl (refl, cc at)
written_at (x ∷ xs) Prim.Native.Nat.zero y (suc j) z at = inr (λ e. omega (arith, e), at)
written_at (x ∷ xs) (suc i) y Prim.Native.Nat.zero z at = inr (λ e. omega (arith, e), at)
written_at (x ∷ xs) (suc i) y (suc j) z at =
    elim (written_at xs i y j z at) [
      | inl w ↦ inl (ap suc w.0, w.1)
      | inr w ↦ inr (λ e. w.0 (omega (arith, e)), w.1)
    ]

pub pushed_at : {X : Type 0} (xs : List X) (y : X) (j : ℕ) (z : X)
    → slice_get (xs ++ y ∷ []) j ≡ Some z
    → ((j ≡ length xs) × (y ≡ z)) ⊎ (slice_get xs j ≡ Some z)
pushed_at [] y Prim.Native.Nat.zero z at = inl (refl, cc at)
pushed_at [] y (suc j) z at = absurd (cc at)
pushed_at (x ∷ xs) y Prim.Native.Nat.zero z at = inr at
pushed_at (x ∷ xs) y (suc j) z at =
    elim (pushed_at xs y j z at) [
      | inl w ↦ inl (ap suc w.0, w.1)
      | inr w ↦ inr w
    ]

-- a block more
pub blocks_more : (atoms : ℕ) (rows : List (List Bool)) (blocks : List (Vec (List Bool)))
    (new : Vec (List Bool)) → AreRowsIn atoms blocks rows
    → AreColumnsOf atoms (512 * length blocks) rows new.items → 512 * length blocks ≤ length rows
    → AreRowsIn atoms (blocks ++ new ∷ []) rows
blocks_more atoms rows blocks new kept last full = record {
  over = kept.over;
  each = λ b block at. elim (pushed_at blocks new b block at) [
    | inl w ↦
        subst (λ (v : Vec (List Bool)). AreColumnsOf atoms (512 * b) rows v.items) w.1
        (subst (λ n. AreColumnsOf atoms (512 * n) rows new.items) (sym w.0) last)
    | inr w ↦ kept.each b block w
  ];
  upto = let upto = kept.upto in omega (arith, upto, length-append blocks (new ∷ []));
  tight = omega (arith, full, length-append blocks (new ∷ []));
}

-- a row written into the last block
pub kept_pushed : (rows : List (List Bool)) (row : List Bool) (blocks : List (Vec (List Bool)))
    (last place : ℕ) (old new : Vec (List Bool))
    → AreRowsIn (length row) blocks rows
    → slice_get blocks last ≡ Some old → length blocks ≡ last + 1 → 512 * last + place ≡ length rows
    → place < 512
    → length new.items ≡ length old.items → AreColumns 512 new.items
    → ((p : ℕ) → p < length old.items → has_pair new.items p place ≡ has_atom row p)
    → ((p j : ℕ) → (j ≡ place → ⊥) → has_pair new.items p j ≡ has_pair old.items p j)
    → AreRowsIn (length row) (set blocks last new) (rows ++ row ∷ [])
kept_pushed rows row blocks last place old new kept at count where_is less same sized here others =
    record {
      over = over_pushed (length row) rows row kept.over refl;
      each = λ b block got.
          elim (written_at blocks last new b block got) [
            | inl w ↦
                subst (λ (v : Vec (List Bool)). AreColumnsOf (length row) (512 * b)
                (rows ++ row ∷ [])
                v.items) w.1
                (subst (λ n. AreColumnsOf (length row) (512 * n) (rows ++ row ∷ []) new.items) w.0
                (last_pushed (length row) (512 * last) place rows old.items new.items row
                (kept.each last old at) where_is same sized here others))
            | inr w ↦
                let other = w.0 in
                let within = slice_get_within blocks b block w.1 in
                full_pushed (length row) (512 * b) rows block.items row (kept.each b block w.1)
                (omega (arith, other, within, count, where_is))
          ];
      upto = omega (
        arith,
        length-set blocks last new,
        length-append rows (row ∷ []),
        count,
        where_is,
        less,
      );
      tight = omega (
        arith,
        length-set blocks last new,
        length-append rows (row ∷ []),
        count,
        where_is,
        less,
      );
    }

-- atoms of the rows are atoms of each block
pub block_below : (rows : List (List Bool)) (blocks : List (Vec (List Bool))) (list : List ℕ)
    (kept : (atoms : ℕ) × AreRowsIn atoms blocks rows)
    → ((k : ℕ) → k < length rows → AreBelow (length (get_or rows k [])) list) → 0 < length rows
    → (b : ℕ) (block : Vec (List Bool)) → slice_get blocks b ≡ Some block
    → AreBelow (length block.items) list
block_below rows blocks list kept below some b block at =
    subst (λ n. AreBelow n list) (kept.1.over 0 some ∙ sym (kept.1.each b block at).wide)
    (below 0 some)
