-- The formulas of unreached atoms and pairs: their clauses, the states that they hold, and that no
-- action leads out of these.
use Rattle.std.proofs.Common.{◌≡◌, ℕ, zero, suc, ◌+◌, ◌-◌, ◌<◌, ◌≤◌, ◌∙◌, ◌⊎◌, ◌↔◌, ◌&&◌}
use Rattle.std.proofs.Common.{◌||◌, Bool, true, false, not, eqb, List, [], ◌∷◌, if◌then◌else◌, Some}
use Rattle.std.proofs.Common.{length, get_or, slice_get, refl, sym, ap, subst, inl, inr, arith}
use Rattle.std.proofs.Common.{length-append}
use Rattle.std.proofs.lemmas.Bool.{both_ways, cases_eq, cases_lt, ne_eqb}
use Rattle.std.proofs.lemmas.List.Elements.{All-cons, All-contains, All-nil}
use Rattle.std.proofs.lemmas.List.FromFn.{length-range_with_len}
use Rattle.std.specs.List.{All, Contains, flat_map, list_all, range_with_len}
use Rattle.hv_task.specs.declared.action.Action.{Action}
use Rattle.hv_task.specs.State.{applicable, has_atom, names_atom, successor}
use Rattle.hv_task.specs.Strips.{Strips, IsState, atoms, is_goal, start_state}
use Rattle.hv_task.proofs.Places.{IsState-start_state, has_all-Decides, has_atom-successor}
use Rattle.hv_task.proofs.Places.{length-successor, names_atom-Decides}
use Rattle.hv_sets.specs.Truth.{in_clause, in_clauses}
use Rattle.hv_sets.specs.declared.literal.Literal.{Literal}
use Rattle.hv_reach.specs.Reached.{ClosedAtoms, ClosedPairs, HasPairsOf, LeavesAlone, ReachedAtom}
use Rattle.hv_reach.specs.Reached.{ReachedPair}
use Rattle.hv_lines.specs.Meaning.{SetOfStates}
use Rattle.hv_reach.specs.Pruners.{PairsCover}
use Rattle.hv_reach.specs.Working.Pruners.{ShowsWhyDead}
use Rattle.hv_reach.specs.Written.{IsDenial, PairsExclude, PairsExcludeFrom, RelaxedExcludes}
use Rattle.hv_reach.specs.Written.{RelaxedExcludesFrom, atom_clauses, denied, pair_clauses}
use Rattle.hv_reach.specs.Written.{pairs_formula, relaxed_formula, row_clauses}
use Rattle.hv_reach.specs.Working.Written.{IsDeadEnd, Separates}
use Rattle.hv_lines.proofs.Lists.{All-below, All-flat_map, All-range, all_pass, in_range}
use Rattle.hv_lines.proofs.Lists.{length-pieces, pieces_pass}
use Rattle.hv_task.proofs.Listing.{within_state}

-- the clauses

one_denial : (n p : ℕ) → p < n → IsDenial n (denied p ∷ [])
one_denial n p below = record {
  few = omega arith;
  denies = All-cons (λ (l : Literal). l.positive ≡ false) (denied p) [] refl
      (All-nil (λ (l : Literal). l.positive ≡ false));
  below = All-cons (λ (l : Literal). l.atom < n) (denied p) [] below
      (All-nil (λ (l : Literal). l.atom < n));
}

two_denials : (n p q : ℕ) → p < n → q < n → IsDenial n (denied p ∷ denied q ∷ [])
two_denials n p q below also = record {
  few = omega arith;
  denies = All-cons (λ (l : Literal). l.positive ≡ false) (denied p) (denied q ∷ []) refl
      (one_denial n q also).denies;
  below = All-cons (λ (l : Literal). l.atom < n) (denied p) (denied q ∷ []) below
      (one_denial n q also).below;
}

atom_denials : (n p : ℕ) (b : Bool) → p < n
    → All (IsDenial n) (if b then [] else (denied p ∷ []) ∷ [])
atom_denials n p true below = All-nil (IsDenial n)
atom_denials n p false below = All-cons (IsDenial n) (denied p ∷ []) [] (one_denial n p below)
    (All-nil (IsDenial n))

pair_denials : (n p q : ℕ) (b e : Bool) → p < n → q < n
    → All (IsDenial n) (if b then [] else (if e then denied p ∷ [] else denied p ∷ denied q ∷ [])
    ∷ [])
pair_denials n p q true e below also = All-nil (IsDenial n)
pair_denials n p q false true below also = All-cons (IsDenial n) (denied p ∷ []) []
    (one_denial n p below) (All-nil (IsDenial n))
pair_denials n p q false false below also =
    All-cons (IsDenial n) (denied p ∷ denied q ∷ []) [] (two_denials n p q below also)
    (All-nil (IsDenial n))

pub relaxed_denials : (n : ℕ) (r : ℕ → Bool) → All (IsDenial n) (relaxed_formula n r)
relaxed_denials n r =
    All-flat_map (atom_clauses r) (IsDenial n) (range_with_len 0 n)
    (All-below (λ p. All (IsDenial n) (atom_clauses r p)) n
    (λ p below. atom_denials n p (r p) below))

pub pairs_denials : (n : ℕ) (r : ℕ → ℕ → Bool) → All (IsDenial n) (pairs_formula n r)
pairs_denials n r =
    All-flat_map (row_clauses n r) (IsDenial n) (range_with_len 0 n)
    (All-below (λ p. All (IsDenial n) (row_clauses n r p)) n (λ p below.
    All-flat_map (pair_clauses r p) (IsDenial n) (range_with_len p (n - p))
    (All-range (λ q. All (IsDenial n) (pair_clauses r p q)) p (n - p) (λ q lo hi.
    pair_denials n p q (r p q) (eqb p q) below (omega (arith, below, lo, hi))))))

-- how many they are

atom_few : (p : ℕ) (b : Bool) → length (if b then [] else (denied p ∷ []) ∷ []) ≤ 1
atom_few p true = omega arith
atom_few p false = omega arith

pair_few : (p q : ℕ) (b e : Bool) → length
    (if b then [] else (if e then denied p ∷ [] else denied p ∷ denied q ∷ []) ∷ []) ≤ 1
pair_few p q true e = omega arith
pair_few p q false e = omega arith

pub relaxed_few : (n : ℕ) (r : ℕ → Bool) → length (relaxed_formula n r) ≤ n
relaxed_few n r =
    omega (
      arith,
      length-pieces (atom_clauses r) (range_with_len 0 n)
          (λ p. atom_few p (r p)),
      length-range_with_len 0 n,
    )

-- the sum of the numbers up to this one
triangle : ℕ → ℕ
triangle zero = 0
triangle (suc n) = suc n + triangle n

triangle_more : (m n : ℕ) → triangle m ≤ triangle (m + n)
unfolding triangle
triangle_more m zero =
    let same : m ≡ m + 0 = omega arith in
    subst (λ k. triangle m ≤ triangle k) same (omega arith)
triangle_more m (suc n) =
    let same : suc (m + n) ≡ m + suc n = omega arith in
    subst (λ k. triangle m ≤ triangle k) same (omega (arith, triangle_more m n))

rows_few : (n : ℕ) (r : ℕ → ℕ → Bool) (a m : ℕ) → a + m ≡ n
    → length (flat_map (row_clauses n r) (range_with_len a m)) ≤ triangle m
unfolding triangle
rows_few n r a zero upto = omega arith
rows_few n r a (suc m) upto =
    omega (
      arith,
      length-append (row_clauses n r a) (flat_map (row_clauses n r) (range_with_len (a + 1) m)),
      rows_few n r (a + 1) m (omega (arith, upto)),
      length-pieces (pair_clauses r a) (range_with_len a (n - a))
          (λ q. pair_few a q (r a q) (eqb a q)),
      length-range_with_len a (n - a),
      upto,
    )

most_pairs : triangle 1024 ≡ 524800
unfolding triangle
most_pairs = refl

pub pairs_few : (n : ℕ) (r : ℕ → ℕ → Bool) → n ≤ 1024 → length (pairs_formula n r) ≤ 524800
pairs_few n r few =
    let more = triangle_more n (1024 - n) in
    let upto : triangle (n + (1024 - n)) ≡ 524800 = ap triangle (omega (arith, few)) ∙ most_pairs in
    omega (arith, rows_few n r 0 n (omega arith), more, upto)

-- the states that they hold

alone_to : (b h : Bool) → (h ≡ true → (((not h || false) && true) ≡ true) → b ≡ true)
alone_to b true is all = let e : false ≡ true = all in absurd (cc (e))
alone_to b false is all = absurd (cc (is))

alone_from : (h : Bool) → (h ≡ true → ⊥) → ((not h || false) && true) ≡ true
alone_from true out = absurd (out refl)
alone_from false out = refl

together_to : (b h g : Bool) → h ≡ true → g ≡ true → ((not h || (not g || false)) && true) ≡ true
    → b ≡ true
together_to b true true is also all = let e : false ≡ true = all in absurd (cc (e))
together_to b false g is also all = absurd (cc (is))
together_to b true false is also all = absurd (cc (also))

together_from : (h g : Bool) → (h ≡ true → g ≡ true → ⊥)
    → ((not h || (not g || false)) && true) ≡ true
together_from true true out = absurd (out refl refl)
together_from true false out = refl
together_from false g out = refl

atom_to : (s : List Bool) (p : ℕ) (b : Bool)
    → list_all (λ c. in_clause c s) (if b then [] else (denied p ∷ []) ∷ []) ≡ true
    → has_atom s p ≡ true → b ≡ true
atom_to s p true all held = refl
atom_to s p false all held = alone_to false (has_atom s p) held all

atom_from : (s : List Bool) (p : ℕ) (b : Bool) → (has_atom s p ≡ true → b ≡ true)
    → list_all (λ c. in_clause c s) (if b then [] else (denied p ∷ []) ∷ []) ≡ true
atom_from s p true keeps = refl
atom_from s p false keeps = alone_from (has_atom s p) (λ held. both_ways false refl (keeps held))

pair_to : (s : List Bool) (p q : ℕ) (b e : Bool) → (e ≡ true → p ≡ q)
    → list_all (λ c. in_clause c s) (if b then [] else
    (if e then denied p ∷ [] else denied p ∷ denied q ∷ []) ∷ []) ≡ true
    → has_atom s p ≡ true → has_atom s q ≡ true → b ≡ true
pair_to s p q true e same all held also = refl
pair_to s p q false true same all held also = alone_to false (has_atom s p) held all
pair_to s p q false false same all held also = together_to false (has_atom s p) (has_atom s q) held
    also all

pair_from : (s : List Bool) (p q : ℕ) (b e : Bool) → (e ≡ true → p ≡ q)
    → (has_atom s p ≡ true → has_atom s q ≡ true → b ≡ true)
    → list_all (λ c. in_clause c s) (if b then [] else
    (if e then denied p ∷ [] else denied p ∷ denied q ∷ []) ∷ []) ≡ true
pair_from s p q true e same keeps = refl
pair_from s p q false true same keeps =
    alone_from (has_atom s p) (λ held.
    both_ways false refl (keeps held (subst (λ x. has_atom s x ≡ true) (same refl) held)))
pair_from s p q false false same keeps =
    together_from (has_atom s p) (has_atom s q)
    (λ held also. both_ways false refl (keeps held also))

eqb_same : (p q : ℕ) → eqb p q ≡ true → p ≡ q
eqb_same p q is =
    elim (cases_eq p q) [
      | inl same ↦ same
      | inr other ↦ absurd (both_ways (eqb p q) (ne_eqb p q other) is)
    ]

-- the state holds reached atoms alone
abbrev pub HoldsReached : (ℕ → Bool) → List Bool → Type 0
HoldsReached r s = (p : ℕ) → has_atom s p ≡ true → r p ≡ true

-- the state holds reached pairs alone
abbrev pub HoldsPairs : (ℕ → ℕ → Bool) → List Bool → Type 0
HoldsPairs r s = (p q : ℕ) → has_atom s p ≡ true → has_atom s q ≡ true → r p q ≡ true

module _ (n : ℕ) (s : List Bool) (size : length s ≡ n) where
  pub relaxed_to : (r : ℕ → Bool) → in_clauses (relaxed_formula n r) s ≡ true → HoldsReached r s
  relaxed_to r all p held =
      atom_to s p (r p)
      (in_range (λ x. list_all (λ c. in_clause c s) (atom_clauses r x) ≡ true) 0 n
      (pieces_pass (atom_clauses r) (λ c. in_clause c s) (range_with_len 0 n) all) p (omega arith)
      (omega (arith, within_state s p held, size)))
      held

  pub relaxed_from : (r : ℕ → Bool) → HoldsReached r s → in_clauses (relaxed_formula n r) s ≡ true
  relaxed_from r holds =
      all_pass (atom_clauses r) (λ c. in_clause c s) (range_with_len 0 n)
      (All-below (λ x. list_all (λ c. in_clause c s) (atom_clauses r x) ≡ true) n
      (λ p below. atom_from s p (r p) (holds p)))

  pairs_at : (r : ℕ → ℕ → Bool) → in_clauses (pairs_formula n r) s ≡ true → (p q : ℕ) → p ≤ q
      → has_atom s p ≡ true → has_atom s q ≡ true
      → r p q ≡ true
  pairs_at r all p q upto held also =
      let row = in_range (λ x. list_all (λ c. in_clause c s) (row_clauses n r x) ≡ true) 0 n
      (pieces_pass (row_clauses n r) (λ c. in_clause c s) (range_with_len 0 n) all) p (omega arith)
      (omega (arith, within_state s p held, size)) in
      pair_to s p q (r p q) (eqb p q) (eqb_same p q)
      (in_range (λ x. list_all (λ c. in_clause c s) (pair_clauses r p x) ≡ true) p (n - p)
      (pieces_pass (pair_clauses r p) (λ c. in_clause c s) (range_with_len p (n - p)) row) q upto
      (omega (arith, within_state s q also, size, upto)))
      held also

  pub pairs_to : (r : ℕ → ℕ → Bool) → ((p q : ℕ) → r p q ≡ true → r q p ≡ true)
      → in_clauses (pairs_formula n r) s ≡ true
      → HoldsPairs r s
  pairs_to r even all p q held also =
      elim (cases_lt q p) [
        | inl less ↦ even q p (pairs_at r all q p (omega (arith, less)) also held)
        | inr upto ↦ pairs_at r all p q upto held also
      ]

  pub pairs_from : (r : ℕ → ℕ → Bool) → HoldsPairs r s → in_clauses (pairs_formula n r) s ≡ true
  pairs_from r holds =
      all_pass (row_clauses n r) (λ c. in_clause c s) (range_with_len 0 n)
      (All-below (λ x. list_all (λ c. in_clause c s) (row_clauses n r x) ≡ true) n (λ p below.
      all_pass (pair_clauses r p) (λ c. in_clause c s) (range_with_len p (n - p))
      (All-range (λ x. list_all (λ c. in_clause c s) (pair_clauses r p x) ≡ true) p (n - p)
      (λ q lo hi.
      pair_from s p q (r p q) (eqb p q) (eqb_same p q) (holds p q)))))

-- a least set is closed

module _ (task : Strips) (start : List Bool) (r : ℕ → Bool)
    (is : (p : ℕ) → (r p ≡ true) ↔ ReachedAtom task start p) where
  pub atoms_closed : ClosedAtoms task start r
  atoms_closed = record {
    begins = λ p held. (is p).1 (λ set closed. closed.begins p held);
    keeps = λ k a at pre i d within.
        (is (get_or a.add i d)).1 (λ set closed.
        closed.keeps k a at (λ j e below. (is (get_or a.pre j e)).0 (pre j e below) set closed) i d
        within);
  }

module _ (task : Strips) (start : List Bool) (r : ℕ → ℕ → Bool)
    (is : (p q : ℕ) → (r p q ≡ true) ↔ ReachedPair task start p q) where
  pub pairs_closed : ClosedPairs task start r
  pairs_closed = record {
    even = λ p q held. (is q p).1 (λ set closed. closed.even p q ((is p q).0 held set closed));
    begins = λ p q held also. (is p q).1 (λ set closed. closed.begins p q held also);
    both = λ k a at pre i d within j e below.
        (is (get_or a.add i d) (get_or a.add j e)).1 (λ set closed.
        closed.both k a at (within_set a.pre pre set closed) i d within j e below);
    other = λ k a q at alone pre i d within.
        (is (get_or a.add i d) q).1 (λ set closed.
        closed.other k a q at alone (within_set (q ∷ a.pre) pre set closed) i d within);
  }
    where
      within_set : (ps : List ℕ) → HasPairsOf r ps → (set : ℕ → ℕ → Bool)
          → ClosedPairs task start set → HasPairsOf set ps
      within_set ps pairs set closed = λ i d less j e below. (is (get_or ps i d) (get_or ps j e)).0
          (pairs i d less j e below) set closed

-- where an atom of a successor comes from: the action adds it, or it was there and is left alone
came_by : (added deleted held : Bool) → (added || (not deleted && held)) ≡ true
    → (added ≡ true) ⊎ ((added ≡ false) × (deleted ≡ false) × (held ≡ true))
came_by true deleted held is = inl refl
came_by false false held is = inr (refl, refl, is)
came_by false true held is = absurd (cc (is))

came : (a : Action) (s : List Bool) (p : ℕ) → has_atom (successor a s) p ≡ true
    → Contains a.add p ⊎ (LeavesAlone a p × (has_atom s p ≡ true))
came a s p held =
    let below : p < length s = omega (
      arith,
      within_state (successor a s) p held,
      length-successor a
          s,
    ) in
    elim (came_by (names_atom a.add p) (names_atom a.del p) (has_atom s p)
    (sym (has_atom-successor a s p below) ∙ held)) [
      | inl added ↦ inl ((names_atom-Decides a.add p).0 added)
      | inr kept ↦ inr ((kept.0, kept.1), kept.2)
    ]

held_before : (a : Action) (s : List Bool) → applicable a s ≡ true
    → All (λ p. has_atom s p ≡ true) a.pre
held_before a s applies = (has_all-Decides a.pre s).0 applies

module _ (task : Strips) (start : List Bool) (r : ℕ → Bool) (closed : ClosedAtoms task start r)
  where
    pub reached_stay : (k : ℕ) (a : Action) → slice_get task.actions k ≡ Some a → (s : List Bool)
        → applicable a s ≡ true → HoldsReached r s
        → HoldsReached r (successor a s)
    reached_stay k a at s applies holds p held =
        let pre = held_before a s applies in
        let add = closed.keeps k a at (λ i d below. holds (get_or a.pre i d) (pre i d below)) in
        elim (came a s p held) [
          | inl added ↦ All-contains (λ x. r x ≡ true) a.add p add added
          | inr kept ↦ holds p kept.1
        ]

module _ (task : Strips) (start : List Bool) (r : ℕ → ℕ → Bool) (closed : ClosedPairs task start r)
  where
    module _ (k : ℕ) (a : Action) (at : slice_get task.actions k ≡ Some a) (s : List Bool)
        (applies : applicable a s ≡ true) (holds : HoldsPairs r s) where
      pairs_of : (ps : List ℕ) → All (λ p. has_atom s p ≡ true) ps → HasPairsOf r ps
      pairs_of ps held = λ i d less j e below. holds (get_or ps i d) (get_or ps j e) (held i d less)
          (held j e below)

      both_added : (p q : ℕ) → Contains a.add p → Contains a.add q → r p q ≡ true
      both_added p q here there =
          All-contains (λ y. r p y ≡ true) a.add q
          (All-contains (λ x. All (λ y. r x y ≡ true) a.add) a.add p
          (closed.both k a at (pairs_of a.pre (held_before a s applies))) here)
          there

      one_added : (p q : ℕ) → Contains a.add p → LeavesAlone a q → has_atom s q ≡ true
          → r p q ≡ true
      one_added p q here alone held =
          All-contains (λ x. r x q ≡ true) a.add p
          (closed.other k a q at alone
          (pairs_of (q ∷ a.pre) (All-cons (λ x. has_atom s x ≡ true) q a.pre held
          (held_before a s applies))))
          here

      pub pairs_stay : HoldsPairs r (successor a s)
      pairs_stay p q held also =
          elim (came a s p held) [
            | inl here ↦ elim (came a s q also) [
              | inl there ↦ both_added p q here there
              | inr kept ↦ one_added p q here kept.0 kept.1
            ]
            | inr kept ↦ elim (came a s q also) [
              | inl there ↦ closed.even q p (one_added q p there kept.0 kept.1)
              | inr still ↦ holds p q kept.1 still.1
            ]
          ]

-- an atom of the goal is held in a goal state
pub goal_held : (task : Strips) (s : List Bool) (p : ℕ) → is_goal task s ≡ true
    → Contains task.goal p → has_atom s p ≡ true
goal_held task s p is there = All-contains
    (λ x. has_atom s x ≡ true) task.goal p ((has_all-Decides task.goal s).0 is) there

module _ (task : Strips) (start : List Bool) (r : ℕ → Bool)
    (is : (p : ℕ) → (r p ≡ true) ↔ ReachedAtom task start p)
    (few : atoms task ≤ 65535) (is_start : IsState task start)
    (out : RelaxedExcludesFrom task start) where
  atom_closed : ClosedAtoms task start r
  atom_closed = atoms_closed task start r is

  -- no action leads out of the formula of the unreached atoms, and it holds no goal state
  relaxed_dead : IsDeadEnd task (relaxed_formula (atoms task) r)
  relaxed_dead = record {
    denials = relaxed_denials (atoms task) r;
    few = omega (arith, relaxed_few (atoms task) r, few);
    ends = record {
      stays = λ k a at s is_state applies holds.
          relaxed_from (atoms task) (successor a s) (length-successor a s ∙ is_state) r
          (reached_stay task start r atom_closed k a at s applies
          (relaxed_to (atoms task) s is_state r holds));
      goalless = λ s is_state holds goal.
          out.2 ((is out.0).0 (relaxed_to (atoms task) s is_state r holds out.0
          (goal_held task s out.0 goal out.1)));
    };
  }

  -- it holds the state from which the atoms are reached, and only states from which the same goal
  -- atom isn't reached
  pub relaxed_reason : ShowsWhyDead task (RelaxedExcludesFrom task) start
      (relaxed_formula (atoms task) r)
  relaxed_reason = record {
    dead = relaxed_dead;
    holds = relaxed_from (atoms task) start is_start r atom_closed.begins;
    within = λ s is_state holds. (
      out.0,
      out.1,
      λ reached. out.2 ((is out.0).0 (reached r record {
        begins = relaxed_to (atoms task) s is_state r holds;
        keeps = atom_closed.keeps;
      })),
    );
  }

module _ (task : Strips) (start : List Bool) (r : ℕ → ℕ → Bool)
    (is : (p q : ℕ) → (r p q ≡ true) ↔ ReachedPair task start p q)
    (few : atoms task ≤ 1024) (is_start : IsState task start) (out : PairsExcludeFrom task start)
  where
    pair_closed : ClosedPairs task start r
    pair_closed = pairs_closed task start r is

    -- no action leads out of the formula of the unreached pairs, and it holds no goal state
    pairs_dead : IsDeadEnd task (pairs_formula (atoms task) r)
    pairs_dead = record {
      denials = pairs_denials (atoms task) r;
      few = omega (arith, pairs_few (atoms task) r few);
      ends = record {
        stays = λ k a at s is_state applies holds.
            pairs_from (atoms task) (successor a s) (length-successor a s ∙ is_state) r
            (pairs_stay task start r pair_closed k a at s applies
            (pairs_to (atoms task) s is_state r pair_closed.even holds));
        goalless = λ s is_state holds goal.
            out.4 ((is out.0 out.1).0 (pairs_to (atoms task) s is_state r pair_closed.even holds
            out.0 out.1
            (goal_held task s out.0 goal out.2) (goal_held task s out.1 goal out.3)));
      };
    }

    -- it holds the state from which the pairs are reached, and only states from which the same goal
    -- pair isn't reached
    pub pairs_reason : ShowsWhyDead task (PairsCover task) start (pairs_formula (atoms task) r)
    pairs_reason = record {
      dead = pairs_dead;
      holds = pairs_from (atoms task) start is_start r pair_closed.begins;
      within = λ s is_state holds. (
        few,
        (
          out.0,
          out.1,
          out.2,
          out.3,
          λ reached. out.4 ((is out.0 out.1).0 (reached r record {
            even = pair_closed.even;
            begins = pairs_to (atoms task) s is_state r pair_closed.even holds;
            both = pair_closed.both;
            other = pair_closed.other;
          })),
        ),
      );
    }

-- a formula that shows why the initial state is dead separates it from the goal
pub reason_separates : (task : Strips) (covered : SetOfStates) (clauses : List (List Literal))
    → ShowsWhyDead task covered (start_state task) clauses
    → Separates task clauses
reason_separates task covered clauses reason = record { dead = reason.dead; starts = reason.holds }

-- where the goal is excluded by the reached atoms, the formula of the unreached ones separates it
pub relaxed_separates : (task : Strips) (r : ℕ → Bool)
    → ((p : ℕ) → (r p ≡ true) ↔ ReachedAtom task (start_state task) p)
    → atoms task ≤ 65535 → RelaxedExcludes task → Separates task (relaxed_formula (atoms task) r)
relaxed_separates task r is few out =
    reason_separates task (RelaxedExcludesFrom task) (relaxed_formula (atoms task) r)
    (relaxed_reason task (start_state task) r is few (IsState-start_state task) out)

-- where the goal is excluded by the reached pairs, the formula of the unreached ones separates it
pub pairs_separates : (task : Strips) (r : ℕ → ℕ → Bool)
    → ((p q : ℕ) → (r p q ≡ true) ↔ ReachedPair task (start_state task) p q)
    → atoms task ≤ 1024 → PairsExclude task → Separates task (pairs_formula (atoms task) r)
pairs_separates task r is few out =
    reason_separates task (PairsCover task) (pairs_formula (atoms task) r)
    (pairs_reason task (start_state task) r is few (IsState-start_state task) out)
