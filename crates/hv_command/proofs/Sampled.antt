-- What is reached in the task of a sample, and the two proofs for it.
use Rattle.std.proofs.Common.{◌≡◌, ◌↔◌, ℕ, zero, suc, ◌+◌, ◌-◌, ◌*◌, ◌%◌, ◌<◌, ◌≤◌, ◌∙◌, ◌&&◌, ◌||◌}
use Rattle.std.proofs.Common.{◌⊎◌, Bool, true, false, eqb, ltb, List, [], ◌∷◌, ◌++◌, Option, Some}
use Rattle.std.proofs.Common.{None, IfSome, IsTrue, codes, decimal, length, map, slice_get, refl}
use Rattle.std.proofs.Common.{sym, ap, ap₂, subst, inl, inr, append_assoc, arith, length-append}
use Rattle.std.proofs.lemmas.Bool.{and_from, and_parts, cases_eq, eq-eqb, eqb-true}
use Rattle.std.proofs.lemmas.Bool.{false_from_ne_true, false≢true, lt-ltb, ltb-true, ne_eqb}
use Rattle.std.proofs.lemmas.List.Concat.{flat_map-append}
use Rattle.std.proofs.lemmas.List.Elements.{All-cons, All-head, All-nil}
use Rattle.std.proofs.lemmas.List.FromFn.{get_or-map-range_with_len, length-map-range_with_len}
use Rattle.std.proofs.lemmas.List.FromFn.{map-range_with_len_more}
use Rattle.std.proofs.lemmas.Nat.{mod_below, mod-mul-add}
use Rattle.std.proofs.lemmas.Option.{get_or_from_slice_get, same_Some, slice_get-get_or}
use Rattle.std.proofs.lemmas.Option.{slice_get_within}
use Rattle.std.specs.List.{All, Contains, flat_map, range_with_len}
use Rattle.std.specs.Option.{is_some}
use Rattle.std.specs.Cmp.Derive.{one_truth}
use Rattle.hv_task.specs.declared.action.Action.{Action}
use Rattle.hv_task.specs.AtomList.{Inserts}
use Rattle.hv_task.specs.State.{AreBelow, has_atom, names_atom}
use Rattle.hv_task.specs.Strips.{Strips, atoms, start_state}
use Rattle.hv_task.proofs.Places.{has_atom-state_of, length-state_of, names_atom-Decides}
use Rattle.hv_sets.specs.declared.literal.Literal.{Literal}
use Rattle.hv_lines.specs.Drafts.{DraftState}
use Rattle.hv_lines.specs.Numbering.{expr_at, expr_count}
use Rattle.hv_lines.specs.declared.line.Expr.{Expr}
use Rattle.hv_lines.specs.declared.line.Expr.TheVariants as E
use Rattle.hv_lines.specs.declared.line.Line.{Line}
use Rattle.hv_reach.specs.Reached.{AreIn, ClosedAtoms, ClosedPairs, HasPairsOf, LeavesAlone}
use Rattle.hv_reach.specs.Reached.{ReachedAtom, ReachedPair}
use Rattle.hv_reach.specs.Written.{IsPairsProof, IsRelaxedProof, PairsExclude, RelaxedExcludes}
use Rattle.hv_reach.specs.Written.{atom_clauses, horn_proof, pair_clauses, pairs_formula}
use Rattle.hv_reach.specs.Written.{relaxed_formula, row_clauses}
use Rattle.hv_lines.proofs.Lists.{range_push}
use Rattle.hv_task.proofs.Listing.{within_state}
use Rattle.hv_command.specs.Sample.{count_line, move_from, proof_line, room_name, sample_task}
use Rattle.hv_command.specs.Sample.{unreached_pairs}
use Rattle.hv_command.specs.Working.Sample.{IsHornProof}
use Rattle.hv_command.specs.Replies.{unsolvable_text}
use Rattle.hv_command.specs.Words.{IsRooms}

-- a list that rises and has one atom alone
pub one_listed : (list : List ℕ) (atom : ℕ) → Inserts [] atom list → list ≡ atom ∷ []
one_listed [] atom inserts =
    let there = (inserts.has atom).1 (inr refl) in
    absurd (omega (arith, there.1))
one_listed (p ∷ []) atom inserts = ap (λ x. x ∷ [])
    (is_it ((inserts.has p).0 (0, omega arith, refl)))
  where
    is_it : Contains [] p ⊎ (p ≡ atom) → p ≡ atom
    is_it (inl there) = absurd (omega (arith, there.1))
    is_it (inr e) = e
one_listed (p ∷ q ∷ list) atom inserts =
    let rises = inserts.rises 0 (omega arith) in
    let first = is_it p ((inserts.has p).0 (0, omega arith, refl)) in
    let second = is_it q ((inserts.has q).0 (1, omega arith, refl)) in
    absurd (omega (arith, rises, first, second))
  where
    is_it : (r : ℕ) → Contains [] r ⊎ (r ≡ atom) → r ≡ atom
    is_it r (inl there) = absurd (omega (arith, there.1))
    is_it r (inr e) = e

-- the rooms and the key
pub sample_atoms : (rooms : ℕ) → atoms (sample_task rooms) ≡ rooms + 1
sample_atoms rooms =
    let named = length-map-range_with_len room_name 0 rooms in
    let all = length-append (map room_name (range_with_len 0 rooms)) (codes "key" ∷ []) in
    omega (arith, named, all)

-- the making of the task, atom by atom and action by action

pub room_fits : (rooms room : ℕ) (start task : Strips) → IsRooms rooms → room < rooms
    → task ≡ record start { names = map room_name (range_with_len 0 room) } → atoms task < 65535
room_fits rooms room start task is below so_far =
    let size = length-map-range_with_len room_name 0 room in
    let same : atoms task ≡ length (map room_name (range_with_len 0 room)) = ap atoms so_far in
    omega (arith, size, same, below, is.1)

pub room_added : (room : ℕ) (start task new : Strips) (name : List ℕ)
    → task ≡ record start { names = map room_name (range_with_len 0 room) } → name ≡ room_name room
    → new ≡ record task { names = task.names ++ name ∷ [] }
    → new ≡ record start { names = map room_name (range_with_len 0 (room + 1)) }
room_added room start task new name so_far named added =
    added
    ∙ (ap₂ (λ (t : Strips) (n : List ℕ). record t { names = t.names ++ n ∷ [] }) so_far named
    ∙ ap (λ (ns : List (List ℕ)). record start { names = ns })
    (sym (map-range_with_len_more room_name 0 room room (omega arith))))

pub move_fits : (rooms room : ℕ) (start task : Strips) → IsRooms rooms → room < rooms
    → task ≡ record start { actions = map (move_from rooms) (range_with_len 0 room) }
    → length task.actions < 1000000
move_fits rooms room start task is below so_far =
    let size = length-map-range_with_len (move_from rooms) 0 room in
    let same : length task.actions ≡ length (map (move_from rooms) (range_with_len 0 room)) = ap
    (λ (t : Strips). length t.actions) so_far in
    omega (arith, size, same, below, is.1)

pub move_added : (rooms room : ℕ) (start task new : Strips) (action : Action)
    → task ≡ record start { actions = map (move_from rooms) (range_with_len 0 room) }
    → action ≡ move_from rooms room
    → new ≡ record task { actions = task.actions ++ action ∷ [] }
    → new ≡ record start { actions = map (move_from rooms) (range_with_len 0 (room + 1)) }
move_added rooms room start task new action so_far is added =
    added
    ∙ (ap₂ (λ (t : Strips) (a : Action). record t { actions = t.actions ++ a ∷ [] }) so_far is
    ∙ ap (λ (xs : List Action). record start { actions = xs })
    (sym (map-range_with_len_more (move_from rooms) 0 room room (omega arith))))

pub key_added : (rooms : ℕ) (before after : List (List ℕ)) (name : List ℕ)
    → before ≡ map room_name (range_with_len 0 rooms)
    → after ≡ before ++ name ∷ [] → length after ≡ rooms + 1
key_added rooms before after name are added =
    let size = length-map-range_with_len room_name 0 rooms in
    let some : length before ≡ length (map room_name (range_with_len 0 rooms)) = ap length are in
    let more : length after ≡ length (before ++ name ∷ []) = ap length added in
    omega (arith, size, some, more, length-append before (name ∷ []))

pub rooms_fit : (rooms : ℕ) (names : List (List ℕ)) → IsRooms rooms
    → names ≡ map room_name (range_with_len 0 rooms) → length names < 65535
rooms_fit rooms names is are =
    let size = length-map-range_with_len room_name 0 rooms in
    let some : length names ≡ length (map room_name (range_with_len 0 rooms)) = ap length are in
    omega (arith, size, some, is.1)

pub below_atoms : (rooms : ℕ) (list : List ℕ) (count : ℕ) → list ≡ rooms ∷ [] → count ≡ rooms + 1
    → AreBelow count list
below_atoms rooms list count is more =
    subst (AreBelow count) (sym is) (All-cons
    (λ n. n < count) rooms [] (omega (arith, more)) (All-nil (λ n. n < count)))

pub sample_actions : (rooms : ℕ) → length (sample_task rooms).actions ≡ rooms
sample_actions rooms = length-map-range_with_len (move_from rooms) 0 rooms

module _ (rooms : ℕ) (is : IsRooms rooms) where
  -- the action of each room
  action_at : (k : ℕ) → k < rooms → slice_get (sample_task rooms).actions k
      ≡ Some (move_from rooms k)
  action_at k below =
      let size = sample_actions rooms in
      slice_get-get_or (sample_task rooms).actions k (move_from rooms k)
      (omega (arith, below, size))
      ∙ ap Some (get_or-map-range_with_len (move_from rooms) 0 rooms k k (move_from rooms k) below
      (omega arith))

  is_action : (k : ℕ) (a : Action) → slice_get (sample_task rooms).actions k ≡ Some a
      → (k < rooms) × (move_from rooms k ≡ a)
  is_action k a is_at =
      let within = slice_get_within (sample_task rooms).actions k a is_at in
      let size = sample_actions rooms in
      let below : k < rooms = omega (arith, within, size) in (
        below,
        sym (get_or-map-range_with_len (move_from rooms) 0 rooms k k a below (omega arith))
            ∙ get_or_from_slice_get (sample_task rooms).actions k a a is_at,
      )

  -- the room after one
  next_below : (k : ℕ) → (k + 1) % rooms < rooms
  next_below k = mod_below (k + 1) rooms (omega (arith, is.0))

  next_is : (k : ℕ) → k + 1 < rooms → (k + 1) % rooms ≡ k + 1
  next_is k below =
      let same : 0 * rooms + (k + 1) ≡ k + 1 = omega arith in
      ap (λ n. n % rooms) (sym same) ∙ mod-mul-add 0 rooms (k + 1) below

  -- the state holds the first room alone
  starts_in : (p : ℕ) → has_atom (start_state (sample_task rooms)) p ≡ true → p ≡ 0
  starts_in p held =
      let within = within_state (start_state (sample_task rooms)) p held in
      let size = length-state_of (atoms (sample_task rooms)) (0 ∷ []) in
      let below : p < atoms (sample_task rooms) = omega (arith, within, size) in
      elim (cases_eq 0 p) [
        | inl e ↦ sym e
        | inr e ↦
            let none : names_atom (0 ∷ []) p ≡ false = ap (λ b. b || false) (ne_eqb 0 p e) in
            absurd (false≢true (sym none ∙ (sym
            (has_atom-state_of (atoms (sample_task rooms)) (0 ∷ []) p below) ∙ held)))
      ]

  starts : has_atom (start_state (sample_task rooms)) 0 ≡ true
  starts =
      let size = sample_atoms rooms in
      has_atom-state_of (atoms (sample_task rooms)) (0 ∷ []) 0 (omega (arith, size))

  -- reached atoms: the rooms

  abbrev is_room : ℕ → Bool
  is_room p = ltb p rooms

  closed_rooms : ClosedAtoms (sample_task rooms) (start_state (sample_task rooms)) is_room
  closed_rooms = record {
    begins = λ p held. lt-ltb p rooms (let e = starts_in p held in omega (arith, e, is.0));
    keeps = λ k a at inside.
        let e = (is_action k a at).1 in
        subst (λ (b : Action). AreIn is_room b.add) e
        (All-cons (λ p. is_room p ≡ true) ((k + 1) % rooms) []
        (lt-ltb ((k + 1) % rooms) rooms (next_below k)) (All-nil (λ p. is_room p ≡ true)));
  }

  room_reached : (set : ℕ → Bool) → ClosedAtoms (sample_task rooms)
      (start_state (sample_task rooms)) set
      → (p : ℕ) → p < rooms → set p ≡ true
  room_reached set closed zero below = closed.begins 0 starts
  room_reached set closed (suc p) below =
      let before = room_reached set closed p (omega (arith, below)) in
      let added = closed.keeps p (move_from rooms p) (action_at p (omega (arith, below)))
      (All-cons (λ q. set q ≡ true) p [] before (All-nil (λ q. set q ≡ true))) in
      let next = next_is p (omega (arith, below)) in
      let same : (p + 1) % rooms ≡ suc p = omega (arith, next) in
      subst (λ q. set q ≡ true) same (All-head (λ q. set q ≡ true) ((p + 1) % rooms) [] added)

  atoms_told : (p : ℕ) → (is_room p ≡ true)
      ↔ ReachedAtom (sample_task rooms) (start_state (sample_task rooms)) p
  atoms_told p = (
    λ e set closed. room_reached set closed p (ltb-true p rooms e),
    λ reached. reached is_room closed_rooms,
  )

  not_room : is_room rooms ≡ true → ⊥
  not_room e = let bad = ltb-true rooms rooms e in omega (arith, bad)

  pub relaxed_excludes : RelaxedExcludes (sample_task rooms)
  relaxed_excludes = (
    rooms,
    (0, omega arith, refl),
    λ reached. not_room
        (reached is_room closed_rooms),
  )

  -- reached pairs: each room with itself

  abbrev is_one : ℕ → ℕ → Bool
  is_one p q = eqb p q && ltb p rooms

  one_room : (p q : ℕ) → p ≡ q → p < rooms → is_one p q ≡ true
  one_room p q e below = and_from (eqb p q) (ltb p rooms) (eq-eqb p q e) (lt-ltb p rooms below)

  same_room : (p q : ℕ) → is_one p q ≡ true → (p ≡ q) × (p < rooms)
  same_room p q e = (
    eqb-true p q (and_parts (eqb p q) (ltb p rooms) e).0,
    ltb-true p rooms (and_parts (eqb p q) (ltb p rooms) e).1,
  )

  paired_one : (set : ℕ → ℕ → Bool) (p : ℕ) → set p p ≡ true → HasPairsOf set (p ∷ [])
  paired_one set p e =
      All-cons (λ x. All (λ y. set x y ≡ true) (p ∷ [])) p []
      (All-cons (λ y. set p y ≡ true) p [] e (All-nil (λ y. set p y ≡ true)))
      (All-nil (λ x. All (λ y. set x y ≡ true) (p ∷ [])))

  only_one : (set : ℕ → ℕ → Bool) (p : ℕ) → HasPairsOf set (p ∷ []) → set p p ≡ true
  only_one set p all =
      All-head (λ y. set p y ≡ true) p [] (All-head
      (λ x. All (λ y. set x y ≡ true) (p ∷ [])) p [] all)

  first_two : (set : ℕ → ℕ → Bool) (q p : ℕ) → HasPairsOf set (q ∷ p ∷ []) → set q p ≡ true
  first_two set q p all =
      let row = All-head (λ x. All (λ y. set x y ≡ true) (q ∷ p ∷ [])) q (p ∷ []) all in
      All-head (λ y. set q y ≡ true) p [] (λ k d below. row (suc k) d (omega (arith, below)))

  -- an action deletes the room that it leaves
  leaves_room : (k q : ℕ) → names_atom (k ∷ []) q ≡ false → q ≡ k → ⊥
  leaves_room k q fails e =
      let named = (names_atom-Decides (k ∷ []) q).1 (0, omega arith, sym e) in
      false≢true (sym fails ∙ named)

  closed_ones : ClosedPairs (sample_task rooms) (start_state (sample_task rooms)) is_one
  closed_ones = record {
    even = λ p q e. let s = same_room p q e in
        one_room q p (sym s.0) (let t = s.0 in let b = s.1 in omega (arith, t, b));
    begins = λ p q h g.
        let a = starts_in p h in
        let b = starts_in q g in
        one_room p q (a ∙ sym b) (omega (arith, a, is.0));
    both = λ k a at inside.
        subst (λ (b : Action). HasPairsOf is_one b.add) (is_action k a at).1
        (paired_one is_one ((k + 1) % rooms)
        (one_room ((k + 1) % rooms) ((k + 1) % rooms) refl (next_below k)));
    other = λ k a q at alone inside.
        let e = (is_action k a at).1 in
        let here = subst (λ (b : Action). HasPairsOf is_one (q ∷ b.pre)) (sym e) inside in
        let left = subst (λ (b : Action). LeavesAlone b q) (sym e) alone in
        absurd (leaves_room k q left.1 (same_room q k (first_two is_one q k here)).0);
  }

  pair_reached : (set : ℕ → ℕ → Bool) → ClosedPairs (sample_task rooms)
      (start_state (sample_task rooms)) set
      → (p : ℕ) → p < rooms → set p p ≡ true
  pair_reached set closed zero below = closed.begins 0 0 starts starts
  pair_reached set closed (suc p) below =
      let before = pair_reached set closed p (omega (arith, below)) in
      let added = closed.both p (move_from rooms p) (action_at p (omega (arith, below)))
      (paired_one set p before) in
      let next = next_is p (omega (arith, below)) in
      let same : (p + 1) % rooms ≡ suc p = omega (arith, next) in
      subst (λ q. set q q ≡ true) same (only_one set ((p + 1) % rooms) added)

  pairs_told : (p q : ℕ) → (is_one p q ≡ true)
      ↔ ReachedPair (sample_task rooms) (start_state (sample_task rooms)) p q
  pairs_told p q = (
    λ e set closed.
        let s = same_room p q e in
        subst (λ r. set p r ≡ true) s.0 (pair_reached set closed p s.1),
    λ reached. reached is_one closed_ones,
  )

  not_one : is_one rooms rooms ≡ true → ⊥
  not_one e = let bad = (same_room rooms rooms e).1 in omega (arith, bad)

  pub pairs_exclude : PairsExclude (sample_task rooms)
  pairs_exclude = (
    rooms,
    rooms,
    (0, omega arith, refl),
    (0, omega arith, refl),
    λ reached. not_one
        (reached is_one closed_ones),
  )

  -- the clauses of the formula of unreached atoms: one for the key

  none_of_rooms : (a n : ℕ) → a + n ≤ rooms
      → length (flat_map (atom_clauses is_room) (range_with_len a n)) ≡ 0
  none_of_rooms a zero upto = refl
  none_of_rooms a (suc n) upto =
      let here : is_room a ≡ true = lt-ltb a rooms (omega (arith, upto)) in
      let none : atom_clauses is_room a ≡ [] = rw here refl in
      let rest = none_of_rooms (a + 1) n (omega (arith, upto)) in
      ap (λ cs. length (cs ++ flat_map (atom_clauses is_room) (range_with_len (a + 1) n))) none
      ∙ rest

  one_more : {X : Type 0} (f : ℕ → List X) (n : ℕ)
      → length (flat_map f (range_with_len 0 (n + 1)))
      ≡ length (flat_map f (range_with_len 0 n)) + length (f n)
  one_more {X} f n =
      let none : List X = [] in
      let at : 0 + n ≡ n = omega arith in
      let range : range_with_len 0 (n + 1) ≡ range_with_len 0 n ++ n ∷ [] =
      range_push 0 n ∙ ap (λ x. range_with_len 0 n ++ x ∷ []) at in
      let split = ap (flat_map f) range ∙ flat_map-append f (range_with_len 0 n) (n ∷ []) in
      let size = length-append (flat_map f (range_with_len 0 n)) (f n ++ none) in
      let last = length-append (f n) none in
      ap length split ∙ omega (arith, size, last)

  relaxed_size : length (relaxed_formula (rooms + 1) is_room) ≡ 1
  relaxed_size =
      let key : is_room rooms ≡ false = false_from_ne_true (is_room rooms) not_room in
      let last : length (atom_clauses is_room rooms) ≡ 1 = rw key refl in
      let all = one_more (atom_clauses is_room) rooms in
      let none = none_of_rooms 0 rooms (omega arith) in
      omega (arith, all, none, last)

  -- the clauses of the formula of unreached pairs

  apart : (p q : ℕ) → p < q → length (pair_clauses is_one p q) ≡ 1
  apart p q less =
      let none : is_one p q ≡ false =
      false_from_ne_true (is_one p q) (λ e. let same = (same_room p q e).0 in
      omega (arith, same, less)) in
      rw none refl

  row_behind : (p a n : ℕ) → p < a → length (flat_map (pair_clauses is_one p) (range_with_len a n))
      ≡ n
  row_behind p a zero less = refl
  row_behind p a (suc n) less =
      let here = apart p a less in
      let rest = row_behind p (a + 1) n (omega (arith, less)) in
      let size = length-append (pair_clauses is_one p a)
      (flat_map (pair_clauses is_one p) (range_with_len (a + 1) n)) in
      omega (arith, here, rest, size)

  row_of_room : (p n : ℕ) → p + suc n ≡ rooms → length (row_clauses (rooms + 1) is_one p) ≡ suc n
  row_of_room p n e =
      let here : is_one p p ≡ true = one_room p p refl (omega (arith, e)) in
      let none : pair_clauses is_one p p ≡ [] = rw here refl in
      let count : (rooms + 1) - p ≡ suc (suc n) = omega (arith, e) in
      let rest = row_behind p (p + 1) (suc n) (omega arith) in
      ap (λ m. length (flat_map (pair_clauses is_one p) (range_with_len p m))) count
      ∙ (ap (λ cs. length (cs ++ flat_map (pair_clauses is_one p) (range_with_len (p + 1) (suc n))))
      none ∙ rest)

  row_of_key : length (row_clauses (rooms + 1) is_one rooms) ≡ 1
  row_of_key =
      let key : is_one rooms rooms ≡ false = false_from_ne_true (is_one rooms rooms) not_one in
      let count : (rooms + 1) - rooms ≡ 1 = omega arith in
      let one : length (pair_clauses is_one rooms rooms) ≡ 1 = rw key refl in
      let none : List (List Literal) = [] in
      let last = length-append (pair_clauses is_one rooms rooms) none in
      ap (λ m. length (flat_map (pair_clauses is_one rooms) (range_with_len rooms m))) count
      ∙ omega (arith, one, last)

  rows_of_rooms : (a n : ℕ) → a + n ≡ rooms
      → 2 * length (flat_map (row_clauses (rooms + 1) is_one) (range_with_len a n)) ≡ n * (n + 1)
  rows_of_rooms a zero e = refl
  rows_of_rooms a (suc n) e =
      let here = row_of_room a n e in
      let rest = rows_of_rooms (a + 1) n (omega (arith, e)) in
      let size = length-append (row_clauses (rooms + 1) is_one a)
      (flat_map (row_clauses (rooms + 1) is_one) (range_with_len (a + 1) n)) in
      omega (arith, here, rest, size)

  halves : (n s : ℕ) → 0 < n → 2 * s ≡ n * (n + 1) → s + 1 ≡ unreached_pairs n
  halves zero s some e = absurd (omega (arith, some))
  halves (suc n) s some e =
      let less : suc n * (suc n - 1) ≡ suc n * n = ap (λ m. suc n * m) (omega arith) in
      omega (arith, e, less)

  pairs_size : length (pairs_formula (rooms + 1) is_one) ≡ unreached_pairs rooms
  pairs_size =
      let all = one_more (row_clauses (rooms + 1) is_one) rooms in
      let some = is.0 in
      let key = row_of_key in
      let half = halves rooms (length (flat_map (row_clauses (rooms + 1) is_one)
      (range_with_len 0 rooms))) (omega (arith, some))
      (rows_of_rooms 0 rooms (omega arith)) in
      omega (arith, all, key, half)

  -- the two proofs

  pub relaxed_counted : (lines : List Line) → IsRelaxedProof (sample_task rooms) lines
      → (clauses : List (List Literal)) × (lines ≡ horn_proof clauses) × (length clauses ≡ 1)
  relaxed_counted lines (r, tells, is_proof) =
      let same : r ≡ is_room =
      λ i p. one_truth (r p) (is_room p) (λ h. (atoms_told p).1 ((tells p).0 h))
      (λ h. (tells p).1 ((atoms_told p).0 h)) i in (
        relaxed_formula (atoms (sample_task rooms)) r,
        is_proof,
        ap (λ n. length (relaxed_formula n r)) (sample_atoms rooms)
            ∙ (ap (λ s. length (relaxed_formula (rooms + 1) s)) same ∙ relaxed_size),
      )

  pub pairs_counted : (lines : List Line) → IsPairsProof (sample_task rooms) lines
      → (clauses : List (List Literal)) × (lines ≡ horn_proof clauses)
      × (length clauses ≡ unreached_pairs rooms)
  pairs_counted lines (r, tells, is_proof) =
      let same : r ≡ is_one =
      λ i p q. one_truth (r p q) (is_one p q) (λ h. (pairs_told p q).1 ((tells p q).0 h))
      (λ h. (tells p q).1 ((pairs_told p q).0 h)) i in (
        pairs_formula (atoms (sample_task rooms)) r,
        is_proof,
        ap (λ n. length (pairs_formula n r)) (sample_atoms rooms)
            ∙ (ap (λ s. length (pairs_formula (rooms + 1) s)) same ∙ pairs_size),
      )

module _ (rooms : ℕ) (is : IsRooms rooms) (task : Strips) (same : task ≡ sample_task rooms) where
  -- both proofs are found
  pub relaxed_found : (found : Option DraftState) → IsTrue (is_some found) ↔ RelaxedExcludes task
      → found ≡ None → ⊥
  relaxed_found found tells none =
      let yes = tells.1 (subst RelaxedExcludes (sym same) (relaxed_excludes rooms is)) in
      false≢true (sym (ap is_some none) ∙ yes)

  pub pairs_found : (found : Option DraftState) → IsTrue (is_some found) ↔ PairsExclude task
      → found ≡ None → ⊥
  pairs_found found tells none =
      let yes = tells.1 (subst PairsExclude (sym same) (pairs_exclude rooms is)) in
      false≢true (sym (ap is_some none) ∙ yes)

  pub few_atoms : 1024 < atoms task → ⊥
  few_atoms many =
      let size : atoms task ≡ rooms + 1 = ap atoms same ∙ sample_atoms rooms in
      omega (arith, many, size, is.1)

  -- and their clauses are counted
  pub relaxed_clauses : (lines : List Line) → IsRelaxedProof task lines
      → (clauses : List (List Literal)) × (lines ≡ horn_proof clauses) × (length clauses ≡ 1)
  relaxed_clauses lines proof = relaxed_counted rooms is lines
      (subst (λ t. IsRelaxedProof t lines) same proof)

  pub pairs_clauses : (lines : List Line) → IsPairsProof task lines
      → (clauses : List (List Literal)) × (lines ≡ horn_proof clauses)
      × (length clauses ≡ unreached_pairs rooms)
  pairs_clauses lines proof = pairs_counted rooms is lines
      (subst (λ t. IsPairsProof t lines) same proof)

-- the fourth set of a proof by a Horn formula is the formula
pub horn_at : (lines : List Line) (clauses : List (List Literal)) → lines ≡ horn_proof clauses
    → expr_at lines 3 ≡ Some (E.Horn clauses)
horn_at lines clauses e = ap (λ ls. expr_at ls 3) e

pub horn_exprs : (lines : List Line) → IsHornProof lines → 3 < expr_count lines
horn_exprs lines (clauses, e) =
    let count : expr_count lines ≡ 7 = ap expr_count e in
    omega (arith, count)

pub horn_size : (lines : List Line) → IsHornProof lines → length lines ≡ 16
horn_size lines (clauses, e) = ap length e

pub is_horn : (lines : List Line) (expr : Expr) → IsHornProof lines → expr_at lines 3 ≡ Some expr
    → (clauses : List (List Literal)) × (expr ≡ E.Horn clauses)
is_horn lines expr (clauses, e) at = (
  clauses,
  same_Some expr (E.Horn clauses)
      (sym at ∙ horn_at lines clauses e),
)

-- the counts of a sample are told
module _ (rooms : ℕ) (task : Strips) (same : task ≡ sample_task rooms) where
  pub counts_told : (old now new : List ℕ) (n m : ℕ) → n ≡ atoms task → m ≡ length task.actions
      → now ≡ old ++ count_line (codes "atoms ") n
      → new ≡ now ++ count_line (codes "actions ") m
      → new ≡ old ++ (count_line (codes "atoms ") (rooms + 1)
      ++ count_line (codes "actions ") rooms)
  counts_told old now new n m n_is m_is first second =
      let some : n ≡ rooms + 1 = n_is ∙ (ap atoms same ∙ sample_atoms rooms) in
      let moves : m ≡ rooms = m_is ∙ (ap (λ (t : Strips). length t.actions) same
      ∙ sample_actions rooms) in
      second
      ∙ (ap (λ t. t ++ count_line (codes "actions ") m) first
      ∙ (append_assoc old (count_line (codes "atoms ") n) (count_line (codes "actions ") m)
      ∙ ap₂ (λ a b. old ++ (count_line (codes "atoms ") a ++ count_line (codes "actions ") b)) some
      moves))

-- what is known of the draft that was found
pub of_draft : (P : DraftState → Type 0) (found : Option DraftState) (draft : DraftState)
    → found ≡ Some draft → IfSome found P → P draft
of_draft P found draft is has = subst (λ f. IfSome f P) is has

-- the formula's clauses are those of the proof
pub same_clauses : (lines : List Line) (expr : Expr) (x clauses : List (List Literal))
    → expr ≡ E.Horn x → expr_at lines 3 ≡ Some expr
    → lines ≡ horn_proof clauses → x ≡ clauses
same_clauses lines expr x clauses is at e =
    let there : Some expr ≡ Some (E.Horn clauses) = sym at ∙ horn_at lines clauses e in
    let one : E.Horn x ≡ E.Horn clauses = sym is ∙ same_Some expr (E.Horn clauses) there in
    cc

-- what is said of a proof is its line
pub told_line : (kind old new said : List ℕ) (lines : List Line) (count size : ℕ)
    → said ≡ unsolvable_text → size ≡ length lines
    → new ≡ old ++ (kind ++ codes " clauses " ++ decimal count ++ codes " lines " ++ decimal size
    ++ codes " " ++ said)
    → (clauses : List (List Literal)) → count ≡ length clauses → lines ≡ horn_proof clauses
    → new ≡ old ++ proof_line kind (length clauses) 16
told_line kind old new said lines count size said_is size_is new_is clauses count_is lines_are =
    let sixteen : size ≡ 16 = size_is ∙ ap length lines_are in
    new_is
    ∙ (ap (λ n. old ++ (kind ++ codes " clauses " ++ decimal n ++ codes " lines " ++ decimal size
    ++ codes " " ++ said)) count_is
    ∙ (ap (λ n. old ++ (kind ++ codes " clauses " ++ decimal (length clauses) ++ codes " lines "
    ++ decimal n ++ codes " " ++ said)) sixteen
    ∙ ap (λ t. old ++ (kind ++ codes " clauses " ++ decimal (length clauses) ++ codes " lines "
    ++ decimal 16 ++ codes " " ++ t)) said_is))
