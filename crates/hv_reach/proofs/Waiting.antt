-- The steps of the search for reached atoms.
use Rattle.std.proofs.Common.{◌≡◌, ℕ, ◌+◌, ◌<◌, ◌≤◌, ◌∙◌, Bool, true, false, List, [], ◌∷◌, ◌++◌}
use Rattle.std.proofs.Common.{length, set, get_or, length-append, sym, ap, arith, inl, inr, subst}
use Rattle.std.proofs.Common.{◌⊎◌, ◌↔◌, slice_get, Some}
use Rattle.std.proofs.lemmas.List.{length-set, get_or_default}
use Rattle.std.proofs.lemmas.Bool.{cases_eq, cases_lt}
use Rattle.std.proofs.lemmas.List.Elements.{All-push, Contains-push, Contains-push_cases}
use Rattle.std.proofs.lemmas.List.Elements.{All-contains_itself, Contains-append_left}
use Rattle.std.specs.List.{Contains}
use Rattle.std.specs.Global.{Vec}
use Rattle.hv_task.specs.declared.action.Action.{Action}
use Rattle.hv_task.specs.AtomList.{IsListOf}
use Rattle.hv_task.specs.State.{AreBelow, has_atom}
use Rattle.hv_task.proofs.Listing.{within_state}
use Rattle.hv_rows.specs.Rows.{IsInRow}
use Rattle.hv_reach.proofs.Sets.{All-from_zero, missing_set, rest_later, set_cases, set_grows}
use Rattle.hv_reach.specs.Index.{IsActionIndex}
use Rattle.hv_reach.specs.Reached.{AreIn, IsWithin, Keeps}
use Rattle.hv_reach.specs.Working.Waiting.{AreActionsSettled, AreActionsSettledBut, IsPassed}
use Rattle.hv_reach.specs.Working.Passed.{AreZeros}
use Rattle.hv_reach.specs.Working.Waiting.{IsActionSettled, IsKeptSearch, GrowsQueued}

pub step_both : (a b c : List Bool) (q u w : List ℕ) → GrowsQueued a q b u → GrowsQueued b u c w
    → GrowsQueued a q c w
step_both a b c q u w f g = record {
  size = g.size ∙ f.size;
  below = λ h. subst (λ n. AreBelow n w) f.size
      (g.below (subst (λ n. AreBelow n u) (sym f.size) (f.below h)));
  grows = λ p h. g.grows p (f.grows p h);
  queued = λ p h. g.queued p (f.queued p h);
  fresh = λ p h. elim (g.fresh p h) [
    | inl e ↦ elim (f.fresh p e)
        [ inl d ↦ inl d | inr d ↦ inr (g.queued p d) ]
    | inr e ↦ inr e
  ];
  work = g.work ∙ f.work;
}

pub below_push : (n : ℕ) (q : List ℕ) (p : ℕ) → AreBelow n q → p < n → AreBelow n (q ++ p ∷ [])
below_push n q p h less = All-push (λ k. k < n) q p h less

pub step_one : (s : List Bool) (q : List ℕ) (p : ℕ) → p < length s → has_atom s p ≡ false
    → GrowsQueued s q (set s p true) (q ++ p ∷ [])
step_one s q p less h = record {
  size = length-set s p true;
  below = λ b. below_push (length s) q p b less;
  grows = λ x e. set_grows s p x less e;
  queued = λ x e. Contains-append_left q (p ∷ []) x e;
  fresh = λ x e. elim (set_cases s p x less e)
      [ inl d ↦ inl d | inr d ↦ inr (subst (λ y. Contains (q ++ p ∷ []) y) d (Contains-push q p)) ];
  work = let e = missing_set s p less h in omega (arith, length-append q (p ∷ []));
}

-- one more atom of a list is held
pub held_more : (old new : List Bool) (xs : List ℕ) (i x : ℕ) → i < length xs → x ≡ get_or xs i 0
    → ((p : ℕ) → has_atom old p ≡ true → has_atom new p ≡ true) → has_atom new x ≡ true
    → ((k : ℕ) → k < i → has_atom old (get_or xs k 0) ≡ true) → (k : ℕ) → k < i + 1
    → has_atom new (get_or xs k 0) ≡ true
held_more old new xs i x less e grows here before k below =
    elim (cases_lt k i) [
      | inl lt ↦ grows (get_or xs k 0) (before k lt)
      | inr ge ↦ let same : i ≡ k = omega arith in
          subst (λ y. has_atom new (get_or xs y 0) ≡ true) same
          (subst (λ y. has_atom new y ≡ true) e here)
    ]

pub settled_step : (old new : List Bool) (q u : List ℕ) (a : Action) (c : ℕ)
    → GrowsQueued old q new u → IsActionSettled old q a c → IsActionSettled new u a c
settled_step old new q u a c step h =
    elim h [
      | inl w ↦
          inl (
            w.0,
            λ has. elim (step.fresh (get_or a.pre c 0) has)
                [ inl e ↦ step.queued (get_or a.pre c 0) (w.1 e) | inr e ↦ e ],
          )
      | inr done ↦ inr (λ k d less. step.grows (get_or a.add k d) (done k d less))
    ]

-- what is settled after one action more
pub settled_more : (actions : List Action) (numbers : List ℕ) (i x : ℕ) (old new : List Bool)
    (q u passed after : List ℕ)
    → x ≡ get_or numbers i 0 → GrowsQueued old q new u
    → AreActionsSettledBut numbers i actions old q passed
    → ((a : Action) → slice_get actions x ≡ Some a → IsActionSettled new u a (get_or after x 0))
    → ((k : ℕ) → (k ≡ x → ⊥) → get_or after k 0 ≡ get_or passed k 0)
    → AreActionsSettledBut numbers (i + 1) actions new u after
settled_more actions numbers i x old new q u passed after e step before here others k a is =
    elim (cases_eq k x) [
      | inl same ↦ inl (subst (λ n. IsActionSettled new u a (get_or after n 0)) (sym same)
          (here a (subst (λ n. slice_get actions n ≡ Some a) same is)))
      | inr other ↦
          elim (before k a is) [
            | inl s ↦ inl (subst (λ c. IsActionSettled new u a c) (sym (others k other))
                (settled_step old new q u a (get_or passed k 0) step s))
            | inr left ↦ inr (rest_later numbers i x k e other left)
          ]
    ]

-- an atom leaves the queue: each action is settled or one of those that ask for the atom
pub settled_pop : (n : ℕ) (actions : List Action) (rows : List (Vec ℕ)) (row : Vec ℕ)
    (held : List Bool) (p : ℕ) (rest passed : List ℕ)
    → IsActionIndex n actions rows → slice_get rows p ≡ Some row
    → AreActionsSettled actions held (rest ++ p ∷ []) passed
    → AreActionsSettledBut row.items 0 actions held rest passed
settled_pop n actions rows row held p rest passed index at h k a is =
    elim (h k a is) [
      | inr done ↦ inl (inr done)
      | inl w ↦
          elim (cases_eq (get_or a.pre (get_or passed k 0) 0) p) [
            | inl e ↦
                let c = subst (λ x. IsInRow rows x k) e (index.has k a is (get_or passed k 0) 0 w.0)
                row at in
                inr (c.0, omega arith, c.1, get_or_default row.items c.0 0 k c.1 ∙ c.2)
            | inr e ↦
                inl (inl (
                  w.0,
                  λ has. elim (Contains-push_cases rest p
                      (get_or a.pre (get_or passed k 0) 0) (w.1 has))
                      [ inl f ↦ f | inr f ↦ absurd (e (sym f)) ],
                ))
          ]
    ]

-- where the queue is empty, the settled state keeps all
pub keeps_empty : (actions : List Action) (held : List Bool) (passed : List ℕ)
    → AreActionsSettled actions held [] passed → Keeps actions (has_atom held)
keeps_empty actions held passed h k a is all =
    elim (h k a is) [
      | inl w ↦ let c = w.1 (all (get_or passed k 0) 0 w.0) in let less = c.1 in
          absurd (omega arith)
      | inr done ↦ done
    ]

-- a whole precondition that is held is in each set that has the state
pub whole_in : (held : List Bool) (r : ℕ → Bool) (a : Action) (pre : List ℕ) (from place : ℕ)
    → IsPassed held a from → pre ≡ a.pre → length a.pre ≤ place
    → ((i : ℕ) → from ≤ i → i < place → has_atom held (get_or pre i 0) ≡ true) → IsWithin held r
    → AreIn r a.pre
whole_in held r a pre from place passed same whole front within =
    All-from_zero (λ p. r p ≡ true) a.pre (λ k less. within (get_or a.pre k 0)
    (elim (cases_lt k from) [
      | inl lt ↦ passed.front k lt
      | inr ge ↦ subst (λ xs. has_atom held (get_or xs k 0) ≡ true) same (front k ge (omega arith))
    ]))

-- at the start each action is at its first place: it waits for an atom that isn't held or is in the
-- queue, or it has no precondition and is in the row past the atoms
pub settled_start : (n : ℕ) (actions : List Action) (rows : List (Vec ℕ)) (row : Vec ℕ)
    (held : List Bool) (queue passed : List ℕ)
    → IsActionIndex n actions rows → slice_get rows n ≡ Some row → AreZeros passed
    → ((p : ℕ) → has_atom held p ≡ true → Contains queue p)
    → AreActionsSettledBut row.items 0 actions held queue passed
settled_start n actions rows row held queue passed index at zeros queued k a is =
    elim (cases_eq (length a.pre) 0) [
      | inl none ↦
          let c = index.past k a is none row at in
          inr (c.0, omega arith, c.1, get_or_default row.items c.0 0 k c.1 ∙ c.2)
      | inr some ↦
          inl (inl (
            let e = zeros k in let f : length a.pre ≡ 0 → ⊥ = some in omega arith,
            queued (get_or a.pre (get_or passed k 0) 0),
          ))
    ]

-- the atoms that a state holds are all in its list
pub all_queued : (held start : List Bool) (queue : List ℕ) → held ≡ start → IsListOf start queue
    → (p : ℕ) → has_atom held p ≡ true → Contains queue p
all_queued held start queue same listed p h =
    let e = subst (λ s. has_atom s p ≡ true) same h in
    (listed.has p).1 (within_state start p e, e)

-- and below the number of its atoms
pub queue_below : (held start : List Bool) (queue : List ℕ) → held ≡ start → IsListOf start queue
    → AreBelow (length held) queue
queue_below held start queue same listed = λ k d less.
    let e = ap (λ (s : List Bool). length s) same in
    let w = ((listed.has (get_or queue k d)).0 (All-contains_itself queue k d less)).0 in
    omega arith

-- the first place is passed
pub passed_zero : (held : List Bool) (a : Action) (place : ℕ) → place ≡ 0 → IsPassed held a place
passed_zero held a place zero = record {
  upto = omega arith;
  front = λ i less. absurd (omega arith);
  done = λ e some. absurd (omega arith);
}

pub kept_start : (actions : List Action) (held : List Bool) (queue passed : List ℕ)
    → length passed ≡ length actions → AreBelow (length held) queue → AreZeros passed
    → IsKeptSearch actions held queue passed
kept_start actions held queue passed size below zeros = record {
  size = size;
  below = below;
  each = λ k a is. passed_zero held a (get_or passed k 0) (zeros k);
}

-- a list of the atoms below a bound that a state holds, with the next atom where it is held
pub listed_more : (held : List Bool) (old new : List ℕ) (n : ℕ)
    → ((p : ℕ) → Contains old p ↔ ((p < n) × (has_atom held p ≡ true)))
    → ((p : ℕ) → Contains new p ↔ (Contains old p ⊎ ((p ≡ n) × (has_atom held p ≡ true)))) → (p : ℕ)
    → Contains new p ↔ ((p < n + 1) × (has_atom held p ≡ true))
listed_more held old new n before put p = (
  λ c. elim ((put p).0 c) [
    | inl o ↦ let w = (before p).0 o in (omega (arith, w.0), w.1)
    | inr e ↦ (omega (arith, e.0), e.1)
  ],
  λ w. (put p).1 (elim (cases_lt p n) [
    | inl lt ↦ inl ((before p).1 (lt, w.1))
    | inr ge ↦ inr
        (let f = w.0 in omega arith, w.1)
  ]),
)

-- the next atom put into a list where it is held, or left out where it isn't
pub put_held : (held : List Bool) (old new : List ℕ) (n : ℕ)
    → ((p : ℕ) → Contains new p ↔ (Contains old p ⊎ (p ≡ n))) → has_atom held n ≡ true
    → (p : ℕ) → Contains new p ↔ (Contains old p ⊎ ((p ≡ n) × (has_atom held p ≡ true)))
put_held held old new n put here p = (
  λ c. elim ((put p).0 c) [
    | inl o ↦ inl o
    | inr e ↦ inr
        (e, subst (λ x. has_atom held x ≡ true) (sym e) here)
  ],
  λ w. (put p).1 (elim w [ inl o ↦ inl o | inr e ↦ inr e.0 ]),
)

pub put_none : (held : List Bool) (list : List ℕ) (n : ℕ) → has_atom held n ≡ false
    → (p : ℕ) → Contains list p ↔ (Contains list p ⊎ ((p ≡ n) × (has_atom held p ≡ true)))
put_none held list n none p = (
  λ c. inl c,
  λ w. elim w [
    | inl o ↦ o
    | inr e ↦ let f = subst (λ x. has_atom held x ≡ true) e.0 e.1 in
        absurd cc
  ],
)
