-- Formulas of exclusions: what it does to rows to take an atom out, which atoms can have the value,
-- and why an action after which no clause has all of them keeps the formula.
use Rattle.std.proofs.Common.{◌≡◌, ℕ, ◌-◌, ◌≤◌, ◌<◌, ◌∙◌, ◌⊎◌, ◌&&◌, Bool, true, false, not, List, []}
use Rattle.std.proofs.Common.{◌∷◌, Some, arith, get_or, inl, inr, length, refl, set}
use Rattle.std.proofs.Common.{◌||◌, ◌==◌, cond, sym, ap, subst}
use Rattle.std.proofs.lemmas.Bool.{cases_eq, eqb-true}
use Rattle.std.proofs.lemmas.Grind.{get_or-set_at}
use Rattle.std.proofs.lemmas.List.{get_or_default, get_or-set_other, length-set}
use Rattle.std.proofs.lemmas.List.Elements.{All-contains, Contains-get_or}
use Rattle.std.proofs.lemmas.List.Folds.{Any-from_list_any, list_any_at}
use Rattle.std.specs.List.{All, Contains}
use Rattle.hv_task.specs.declared.action.Action.{Action}
use Rattle.hv_task.specs.State.{AreBelow, applicable, has_atom, names_atom, put_all, successor}
use Rattle.hv_task.specs.Strips.{IsOver, Strips}
use Rattle.hv_task.proofs.Places.{has_all-Decides, has_atom-put_all, has_atom-successor}
use Rattle.hv_task.proofs.Places.{length-put_all, names_atom-Decides}
use Rattle.hv_sets.specs.Query.{asked}
use Rattle.hv_sets.specs.Truth.{in_clause, in_clauses, in_literal}
use Rattle.hv_sets.specs.declared.literal.Literal.{Literal}
use Rattle.hv_propagation.proofs.Effects.{list_all_from}
use Rattle.hv_explicit.proofs.Anchored.{passes_at}
use Rattle.hv_lines.proofs.Elements.{cons_cases, nothing_in}
use Rattle.hv_basic.specs.ChangeRows.{changed_to}
use Rattle.hv_basic.specs.Working.Excluded.{AreAbleAt, AreCompanions, AreLeading, AreSquare}
use Rattle.hv_basic.specs.Working.Excluded.{IsAgainst, IsFixed, IsOfTwo, KeepsFormula, fixed_first}
use Rattle.hv_basic.specs.Working.Excluded.{fixed_later, goes_with, has_value, parted, turned_atoms}
use Rattle.hv_basic.specs.Working.Framed.{AreCrossing, sign_to}
use Rattle.hv_basic.specs.declared.companions.Companions.{Companions}
use Rattle.hv_basic.proofs.Crossing.{changed_below, flag_kept}

no_both : (b : Bool) → b ≡ true → b ≡ false → ⊥
no_both b on off = let no : true ≡ false = sym on ∙ off in absurd (cc (no))

module _ (rows : List (List Bool)) (p q : ℕ) (p_in : p < length rows)
    (q_in : q < length (get_or rows p []))
  where
    abbrev row : List Bool
    row = set (get_or rows p []) q false

    row_of_same : get_or (parted rows p q) p [] ≡ row
    row_of_same = get_or-set_at rows p p row [] refl p_in

    row_of_other : (a : ℕ) → (p ≡ a → ⊥) → get_or (parted rows p q) a [] ≡ get_or rows a []
    row_of_other a differs = get_or-set_other rows p a row [] (λ f. differs (sym f))

    flag_of_other : (b : ℕ) → (q ≡ b → ⊥) → has_atom row b ≡ goes_with rows p b
    flag_of_other b differs =
        get_or-set_other (get_or rows p []) q b false false (λ f. differs (sym f))

    pub parted_only : (a b : ℕ) → goes_with (parted rows p q) a b ≡ false
        → (goes_with rows a b ≡ false) ⊎ ((p ≡ a) × (q ≡ b))
    parted_only a b off =
        elim (cases_eq p a) [
          | inl e ↦
              elim (cases_eq q b) [
                | inl f ↦ inr (e, f)
                | inr differs ↦
                    inl (subst (λ n. goes_with rows n b ≡ false) e
                    (sym (flag_of_other b differs)
                    ∙ (sym (ap (λ r. has_atom r b) row_of_same)
                    ∙ subst (λ n. goes_with (parted rows p q) n b ≡ false) (sym e) off)))
              ]
          | inr differs ↦ inl (sym (ap (λ r. has_atom r b) (row_of_other a differs)) ∙ off)
        ]

    pub parted_size : length (parted rows p q) ≡ length rows
    parted_size = length-set rows p row

    pub parted_square : AreSquare rows → AreSquare (parted rows p q)
    parted_square square a a_in =
        elim (cases_eq p a) [
          | inl e ↦
              subst (λ n. length (get_or (parted rows p q) n []) ≡ length (parted rows p q)) e
              (ap length row_of_same
              ∙ (length-set (get_or rows p []) q false ∙ (square p p_in ∙ sym parted_size)))
          | inr differs ↦
              ap length (row_of_other a differs)
              ∙ (square a (subst (λ n. a < n) parted_size a_in) ∙ sym parted_size)
        ]

pub some_literal : (clause : List Literal) (b : Bool) → b ≡ (length clause == 0) → b ≡ false
    → 0 < length clause
some_literal [] b e f = absurd (no_both b e f)
some_literal (l ∷ clause) b e f = omega arith

pub no_atoms : (xs : List ℕ) (b : Bool) → b ≡ (length xs == 0) → b ≡ true → xs ≡ []
no_atoms [] b e f = refl
no_atoms (x ∷ xs) b e f =
    let none : length (x ∷ xs) ≡ 0 = eqb-true (length (x ∷ xs)) 0 (sym e ∙ f) in
    absurd (omega (arith, none))

-- each literal of a clause of at most two is the first or the last
ends : (clause : List Literal) (d e : Literal) → length clause ≤ 2 → (l : Literal)
    → Contains clause l → (get_or clause 0 d ≡ l) ⊎ (get_or clause (length clause - 1) e ≡ l)
ends [] d e few l c = absurd (nothing_in l c)
ends (x ∷ []) d e few l c = elim (cons_cases x [] l c)
    [ inl same ↦ inl same | inr none ↦ absurd (nothing_in l none) ]
ends (x ∷ y ∷ []) d e few l c = elim (cons_cases x (y ∷ []) l c) [
  | inl same ↦ inl same
  | inr there ↦ elim (cons_cases y [] l there)
      [ inl same ↦ inr same | inr none ↦ absurd (nothing_in l none) ]
]
ends (x ∷ y ∷ z ∷ xs) d e few l c = absurd (omega (arith, few))

module _ (rows : List (List Bool)) (clause : List Literal) (d e : Literal) (square : AreSquare rows)
    (few : length clause ≤ 2) (some : 0 < length clause)
    (below : All (λ (l : Literal). l.atom < length rows) clause)
  where
    abbrev first : Literal
    first = get_or clause 0 d

    abbrev last : Literal
    last = get_or clause (length clause - 1) e

    first_in_rows : first.atom < length rows
    first_in_rows = below 0 d some

    last_in_rows : last.atom < length rows
    last_in_rows = below (length clause - 1) e (omega (arith, some))

    abbrev once : List (List Bool)
    once = parted rows first.atom last.atom

    abbrev twice : List (List Bool)
    twice = parted once last.atom first.atom

    in_first : last.atom < length (get_or rows first.atom [])
    in_first = subst (λ n. last.atom < n) (sym (square first.atom first_in_rows)) last_in_rows

    once_size : length once ≡ length rows
    once_size = parted_size rows first.atom last.atom first_in_rows in_first

    once_square : AreSquare once
    once_square = parted_square rows first.atom last.atom first_in_rows in_first square

    once_last : last.atom < length once
    once_last = subst (λ n. last.atom < n) (sym once_size) last_in_rows

    in_last : first.atom < length (get_or once last.atom [])
    in_last = subst (λ n. first.atom < n) (sym (once_square last.atom once_last ∙ once_size))
        first_in_rows

    of_ends : (a b : ℕ) → first.atom ≡ a → last.atom ≡ b → IsOfTwo clause a b
    of_ends a b f g l among =
        elim (ends clause d e few l among) [
          | inl same ↦ inl (sym (ap (λ (x : Literal). x.atom) same) ∙ f)
          | inr same ↦ inr (sym (ap (λ (x : Literal). x.atom) same) ∙ g)
        ]

    turned_ends : (a b : ℕ) → last.atom ≡ a → first.atom ≡ b → IsOfTwo clause a b
    turned_ends a b f g l among =
        elim (ends clause d e few l among) [
          | inl same ↦ inr (sym (ap (λ (x : Literal). x.atom) same) ∙ g)
          | inr same ↦ inl (sym (ap (λ (x : Literal). x.atom) same) ∙ f)
        ]

    pub twice_only : (a b : ℕ) → goes_with twice a b ≡ false
        → (goes_with rows a b ≡ false) ⊎ IsOfTwo clause a b
    twice_only a b off =
        elim (parted_only once last.atom first.atom once_last in_last a b off) [
          | inl before ↦ elim (parted_only rows first.atom last.atom first_in_rows in_first a b before) [
            | inl old ↦ inl old
            | inr own ↦ inr (of_ends a b own.0 own.1)
          ]
          | inr own ↦ inr (turned_ends a b own.0 own.1)
        ]

-- a literal against the value is false exactly where its atom has it
not_false : (b : Bool) → not b ≡ false → b ≡ true
not_false true e = refl
not_false false e = absurd (cc (e))

value_from : (value positive : Bool) (state : List Bool) (p : ℕ) → positive ≡ not value
    → has_value positive state p ≡ false → has_value value state p ≡ true
value_from true positive state p e off =
    not_false (has_atom state p) (subst (λ b. has_value b state p ≡ false) e off)
value_from false positive state p e off =
    ap not (subst (λ b. has_value b state p ≡ false) e off)

value_not : (value positive : Bool) (state : List Bool) (p : ℕ) → positive ≡ not value
    → has_value positive state p ≡ true → has_value value state p ≡ true → ⊥
value_not true positive state p e on has =
    let off : not (has_atom state p) ≡ true = subst (λ b. has_value b state p ≡ true) e on in
    no_both (not (has_atom state p)) off (ap not has)
value_not false positive state p e on has =
    let yes : has_atom state p ≡ true = subst (λ b. has_value b state p ≡ true) e on in
    no_both (not (has_atom state p)) has (ap not yes)

or_true : (a b : Bool) → a ≡ true → (a || b) ≡ true
or_true a b e = ap (λ x. x || b) e

names_true : (xs : List ℕ) (p : ℕ) → Contains xs p → names_atom xs p ≡ true
names_true xs p c = (names_atom-Decides xs p).1 c

names_false : (xs : List ℕ) (p : ℕ) → (Contains xs p → ⊥) → names_atom xs p ≡ false
names_false xs p out = by (names_atom xs p) refl
  where
    by : (b : Bool) → names_atom xs p ≡ b → names_atom xs p ≡ false
    by true e = absurd (out ((names_atom-Decides xs p).0 e))
    by false e = e

module _ (action : Action) (state : List Bool) (p : ℕ) (within : p < length state) where
  added_in : Contains action.add p → has_atom (successor action state) p ≡ true
  added_in c =
      has_atom-successor action state p within
      ∙ or_true (names_atom action.add p) (not (names_atom action.del p) && has_atom state p)
      (names_true action.add p c)

  deleted_out : Contains action.del p → (Contains action.add p → ⊥)
      → has_atom (successor action state) p ≡ false
  deleted_out c out =
      has_atom-successor action state p within
      ∙ (ap (λ a. a || (not (names_atom action.del p) && has_atom state p))
      (names_false action.add p out)
      ∙ ap (λ d. not d && has_atom state p) (names_true action.del p c))

  needed_in : applicable action state ≡ true → Contains action.pre p → has_atom state p ≡ true
  needed_in applies c =
      All-contains (λ n. has_atom state n ≡ true) action.pre p
      ((has_all-Decides action.pre state).0 applies) c

  -- an atom that is fixed has the value at first
  pub first_value : (value into : Bool) → applicable action state ≡ true
      → Contains (fixed_first value into action) p → IsFixed value into action p
      → has_value value (asked (Some action) into state) p ≡ true
  first_value true true applies c is = added_in c
  first_value false true applies c is = ap not (deleted_out c (is refl refl))
  first_value true false applies c is = needed_in applies c
  first_value false false applies c is = absurd (nothing_in p c)

  -- and later doesn't have it, where it can't be turned
  pub later_value : (value into : Bool) → applicable action state ≡ true
      → Contains (fixed_later value into action) p
      → (Contains (turned_atoms value into action) p → ⊥)
      → has_value value (asked (Some action) (not into) state) p ≡ false
  later_value true true applies c out = absurd (nothing_in p c)
  later_value false true applies c out = ap not (needed_in applies c)
  later_value true false applies c out = deleted_out c out
  later_value false false applies c out = ap not (added_in c)

-- an atom that can't be turned has the value at first, if it has it later
pub value_before : (value into : Bool) (action : Action) (state : List Bool) (p : ℕ)
    → (Contains (turned_atoms value into action) p → ⊥)
    → has_value value (asked (Some action) (not into) state) p ≡ true
    → has_value value (asked (Some action) into state) p ≡ true
value_before value into action state p out has =
    by (has_value value (asked (Some action) into state) p) refl
  where
    turn : (v : Bool) → has_value v (asked (Some action) into state) p ≡ false
        → has_value (not v) (asked (Some action) into state) p ≡ true
    turn true off = ap not off
    turn false off = not_false (has_atom (asked (Some action) into state) p) off

    by : (b : Bool) → has_value value (asked (Some action) into state) p ≡ b
        → has_value value (asked (Some action) into state) p ≡ true
    by true e = e
    by false e =
        absurd (value_not value (not value) (asked (Some action) (not into) state) p refl
        (flag_kept into (not value) action state p out (turn value e)) has)

module _ (n : ℕ) (clauses : List (List Literal)) (companions : Companions)
    (are : AreCompanions n clauses companions) (into : Bool) (action : Action) (state : List Bool)
    (held : in_clauses clauses (asked (Some action) into state) ≡ true)
  where
    abbrev from : List Bool
    from = asked (Some action) into state

    abbrev to : List Bool
    to = asked (Some action) (not into) state

    abbrev value : Bool
    value = companions.value

    -- what has the value beside an atom that has it is one of its companions
    pub are_together : (p q : ℕ) → p < n → q < n → has_value value from p ≡ true
        → has_value value from q ≡ true → goes_with companions.rows.items p q ≡ true
    are_together p q p_in q_in p_has q_has = by (goes_with companions.rows.items p q) refl
      where
        by : (b : Bool) → goes_with companions.rows.items p q ≡ b
            → goes_with companions.rows.items p q ≡ true
        by true e = e
        by false e =
            let w = are.only p q p_in q_in e in
            let holds = passes_at (λ c. in_clause c from) clauses w.0 held w.1 in
            let found = Any-from_list_any (λ (l : Literal). in_literal l from) w.0 holds in
            let l = found.1 in
            let among : Contains w.0 l = (found.0, found.2, found.3) in
            let against = All-contains (IsAgainst n value) w.0 l (are.against w.0 w.1) among in
            elim (w.2 l among) [
              | inl same ↦
                  absurd (value_not value l.positive from l.atom against.1 found.4
                  (subst (λ a. has_value value from a ≡ true) (sym same) p_has))
              | inr same ↦
                  absurd (value_not value l.positive from l.atom against.1 found.4
                  (subst (λ a. has_value value from a ≡ true) (sym same) q_has))
            ]

    module _ (together : (p q : ℕ) → Contains (turned_atoms value into action) p → q < n
        → has_value value to q ≡ true → goes_with companions.rows.items p q ≡ true)
      where
        turned_not : (c : List Literal) → Contains clauses c → (l : Literal) → Contains c l
            → in_clause c to ≡ false → Contains (turned_atoms value into action) l.atom → ⊥
        turned_not c among l inside off turned =
            let w = are.apart c among l inside in
            let m = w.0 in
            let against = All-contains (IsAgainst n value) c m (are.against c among) w.1 in
            by c m w.1 off (in_literal m to) refl against.1
            (λ has. no_both (goes_with companions.rows.items l.atom m.atom)
            (together l.atom m.atom turned against.0 has) w.2)
          where
            by : (c : List Literal) (m : Literal) → Contains c m → in_clause c to ≡ false
                → (b : Bool) → in_literal m to ≡ b → m.positive ≡ not value
                → (has_value value to m.atom ≡ true → ⊥) → ⊥
            by c m inside off true e is none =
                no_both (in_clause c to)
                (list_any_at (λ (x : Literal). in_literal x to) c inside.0 m inside.1
                (ap (λ (x : Literal). in_literal x to) inside.2 ∙ e)) off
            by c m inside off false e is none =
                none (value_from value m.positive to m.atom is e)

        clause_stays : (c : List Literal) → Contains clauses c → (b : Bool) → in_clause c to ≡ b
            → in_clause c to ≡ true
        clause_stays c among true e = e
        clause_stays c among false e =
            let holds = passes_at (λ x. in_clause x from) clauses c held among in
            let found = Any-from_list_any (λ (l : Literal). in_literal l from) c holds in
            let l = found.1 in
            let inside : Contains c l = (found.0, found.2, found.3) in
            let against = All-contains (IsAgainst n value) c l (are.against c among) inside in
            let stays = flag_kept into l.positive action state l.atom
            (λ turned. turned_not c among l inside e
            (subst (λ s. Contains (changed_to (sign_to into s) action) l.atom) against.1 turned))
            found.4 in
            list_any_at (λ (x : Literal). in_literal x to) c found.0 l found.2
            (ap (λ (x : Literal). in_literal x to) found.3 ∙ stays)

        -- where what has the value later is a companion of each atom that is turned, each clause
        -- stays true
        pub formula_stays : in_clauses clauses to ≡ true
        formula_stays =
            list_all_from (λ c. in_clause c to) clauses (λ k d less.
            let c = get_or clauses k d in
            clause_stays c (Contains-get_or clauses k d less) (in_clause c to) refl)

and_true : (a b c : Bool) → c ≡ (a && b) → a ≡ true → b ≡ true → c ≡ true
and_true a b c e f g = e ∙ (ap (λ x. x && b) f ∙ g)

-- the companions of an atom that has the value at first are kept
pub able_beside : (n : ℕ) (clauses : List (List Literal)) (companions : Companions) (into : Bool)
    (action : Action) (old new : List Bool) (atom : ℕ) → AreCompanions n clauses companions
    → atom < n → Contains (fixed_first companions.value into action) atom
    → IsFixed companions.value into action atom
    → ((p : ℕ) → has_atom new p ≡ (has_atom old p && goes_with companions.rows.items atom p))
    → AreAbleAt n clauses companions.value into into action old
    → AreAbleAt n clauses companions.value into into action new
able_beside n clauses companions into action old new atom are atom_in fixed known met able =
    λ state size applies held p p_in has.
    and_true (has_atom old p) (goes_with companions.rows.items atom p) (has_atom new p) (met p)
    (able state size applies held p p_in has)
    (are_together n clauses companions are into action state held atom p atom_in p_in
    (first_value action state atom (subst (λ m. atom < m) (sym size) atom_in) companions.value into
    applies fixed known) has)

-- an atom that has the value at first is able to have it
pub lacks_none : (n : ℕ) (clauses : List (List Literal)) (value into : Bool) (action : Action)
    (able : List Bool) (atom : ℕ) → atom < n → Contains (fixed_first value into action) atom
    → IsFixed value into action atom → has_atom able atom ≡ false
    → AreAbleAt n clauses value into into action able → KeepsFormula n clauses into action
lacks_none n clauses value into action able atom atom_in fixed known off all =
    λ state size applies held.
    absurd (no_both (has_atom able atom)
    (all state size applies held atom atom_in
    (first_value action state atom (subst (λ m. atom < m) (sym size) atom_in) value into applies
    fixed known)) off)

kept_flag : (named old : Bool) → old ≡ true → (named ≡ true → ⊥) → cond named false old ≡ true
kept_flag true old e none = absurd (none refl)
kept_flag false old e none = e

-- the atoms that are able later
pub able_after : (n : ℕ) (clauses : List (List Literal)) (value into : Bool) (action : Action)
    (old : List Bool) → length old ≡ n
    → AreAbleAt n clauses value into into action old
    → AreAbleAt n clauses value into (not into) action
    (put_all true (turned_atoms value into action)
    (put_all false (fixed_later value into action) old))
able_after n clauses value into action old old_size able =
    λ state size applies held p p_in has.
    has_atom-put_all true (turned_atoms value into action)
    (put_all false (fixed_later value into action) old) p
    (subst (λ m. p < m)
    (sym (length-put_all false (fixed_later value into action) old ∙ old_size)) p_in)
    ∙ by state size applies held p p_in has (names_atom (turned_atoms value into action) p) refl
  where
    by : (state : List Bool) → length state ≡ n → applicable action state ≡ true
        → in_clauses clauses (asked (Some action) into state) ≡ true → (p : ℕ) → p < n
        → has_value value (asked (Some action) (not into) state) p ≡ true
        → (t : Bool) → names_atom (turned_atoms value into action) p ≡ t
        → cond (names_atom (turned_atoms value into action) p) true
        (has_atom (put_all false (fixed_later value into action) old) p) ≡ true
    by state size applies held p p_in has true t =
        ap (λ b. cond b true (has_atom (put_all false (fixed_later value into action) old) p)) t
    by state size applies held p p_in has false t =
        let out : Contains (turned_atoms value into action) p → ⊥ = λ c. no_both
        (names_atom (turned_atoms value into action) p)
        (names_true (turned_atoms value into action) p c) t in
        let before = able state size applies held p p_in
        (value_before value into action state p out has) in
        ap (λ b. cond b true (has_atom (put_all false (fixed_later value into action) old) p)) t
        ∙ (has_atom-put_all false (fixed_later value into action) old p
        (subst (λ m. p < m) (sym old_size) p_in)
        ∙ kept_flag (names_atom (fixed_later value into action) p) (has_atom old p) before
        (λ yes. no_both (has_value value (asked (Some action) (not into) state) p) has
        (later_value action state p (subst (λ m. p < m) (sym size) p_in) value into applies
        ((names_atom-Decides (fixed_later value into action) p).0 yes) out)))

-- where each able atom is a companion of each one that is turned, the formula is kept
pub keeps_by : (n : ℕ) (clauses : List (List Literal)) (companions : Companions) (into : Bool)
    (action : Action) (able : List Bool) → AreCompanions n clauses companions
    → AreAbleAt n clauses companions.value into (not into) action able
    → ((p q : ℕ) → Contains (turned_atoms companions.value into action) p
    → has_atom able q ≡ true → goes_with companions.rows.items p q ≡ true)
    → KeepsFormula n clauses into action
keeps_by n clauses companions into action able are later together = λ state size applies held.
    formula_stays n clauses companions are into action state held (λ p q turned q_in has.
    together p q turned (later state size applies held q q_in has))

-- and so where none is turned
pub keeps_unturned : (n : ℕ) (clauses : List (List Literal)) (companions : Companions)
    (into : Bool) (action : Action) → AreCompanions n clauses companions
    → turned_atoms companions.value into action ≡ [] → KeepsFormula n clauses into action
keeps_unturned n clauses companions into action are none = λ state size applies held.
    formula_stays n clauses companions are into action state held (λ p q turned q_in has.
    absurd (nothing_in p (subst (λ xs. Contains xs p) none turned)))

-- each row is as long as a state
pub rows_long : (rows : List (List Bool)) (n m : ℕ) → AreSquare rows → length rows ≡ n → m ≡ n
    → All (λ row. m ≡ length row) rows
rows_long rows n m square size same = λ k d less.
    same ∙ (sym size ∙ (sym (square k less) ∙ ap length (get_or_default rows k [] d less)))

-- the lists of an action are of atoms of the task
pub first_below : (n : ℕ) (value into : Bool) (action : Action) → IsOver n action
    → AreBelow n (fixed_first value into action)
first_below n value true action over = changed_below n value action over
first_below n true false action over = over.pre
first_below n false false action over = λ k d less. absurd (omega (arith, less))

-- the actions that don't keep the formula are all that lead into it, or out of it
pub crossing_leading : (task : Strips) (clauses : List (List Literal)) (into : Bool)
    (listed : List ℕ) → AreLeading task clauses into listed
    → AreCrossing task (in_clauses clauses) into listed
crossing_leading task clauses into listed are = record {
  below = are.below;
  first = are.first;
  each = λ number action state at size applies held out.
      elim (are.each number action at) [
        | inl keeps ↦
            absurd (no_both (in_clauses clauses (asked (Some action) (not into) state))
            (keeps state size applies held) out)
        | inr among ↦ among
      ];
}
