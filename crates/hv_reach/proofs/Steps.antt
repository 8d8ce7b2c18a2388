-- The steps of the search for reached pairs.
use Rattle.std.proofs.Common.{◌≡◌, ℕ, ◌+◌, ◌<◌, ◌∙◌, Bool, true, false, ◌||◌, List, [], ◌∷◌, length}
use Rattle.std.proofs.Common.{get_or, refl, arith, inl, inr, subst, ◌⊎◌}
use Rattle.std.proofs.lemmas.Bool.{cases_Bool, cases_eq, cases_lt, or_cases, or_parts}
use Rattle.std.proofs.lemmas.List.Elements.{All-cons, All-nil, Contains-append_right}
use Rattle.std.specs.List.{All, Contains}
use Rattle.hv_task.specs.declared.action.Action.{Action}
use Rattle.hv_task.specs.State.{has_atom}
use Rattle.hv_reach.specs.Reached.{ArePaired, LeavesAlone, has_pair}
use Rattle.hv_reach.specs.Working.Table.{IsJoined, IsPairStep, HasItsPairs, IsPairTable, IsTrigger}

pub pair_step_both : (n : ℕ) (a b c : List (List Bool)) (f g h : List Bool) (m k : Bool)
    → IsPairStep n a f b g m → IsPairStep n b g c h k → IsPairStep n a f c h (m || k)
pair_step_both n a b c f g h m k s t = record {
  table = t.table;
  size = t.size ∙ s.size;
  grows = λ p q e. t.grows p q (s.grows p q e);
  raises = λ p q e. elim (t.raises p q e) [
    | inl d ↦ elim (s.raises p q d) [
      | inl o ↦ inl o
      | inr w ↦ inr
          (t.stay p w.0, t.stay q w.1, λ i. t.stay n (w.2 i))
    ]
    | inr w ↦ inr w
  ];
  stay = λ x e. t.stay x (s.stay x e);
  still = λ e x d. let w = or_parts m k e in s.still w.0 x (t.still w.1 x d);
  fewer = let u = s.fewer in let v = t.fewer in omega arith;
  falls = λ e. let u = s.fewer in let v = t.fewer in
      elim (or_cases m k e) [
        | inl o ↦ let z = s.falls o in
            omega arith
        | inr o ↦ let z = t.falls o in omega arith
      ];
}

-- none of these flags is raised, or one is
any_raised : (flags : List Bool) (xs : List ℕ)
    → ((x : ℕ) × Contains xs x × (has_atom flags x ≡ true)) ⊎ All (λ x. has_atom flags x ≡ false) xs
any_raised flags [] = inr (All-nil (λ x. has_atom flags x ≡ false))
any_raised flags (x ∷ xs) =
    elim (cases_Bool (has_atom flags x)) [
      | inl e ↦ inl (x, (0, omega arith, refl), e)
      | inr e ↦
          elim (any_raised flags xs) [
            | inl w ↦ inl (w.0, Contains-append_right (x ∷ []) xs w.0 w.1, w.2)
            | inr all ↦ inr (All-cons (λ y. has_atom flags y ≡ false) x xs e all)
          ]
    ]

-- no flag of the action is raised
pub record IsQuiet (n : ℕ) (flags : List Bool) (a : Action) : Type 0 where
  pub pre : All (λ x. has_atom flags x ≡ false) a.pre
  pub past : length a.pre ≡ 0 → has_atom flags n ≡ false

pub quiet_or : (n : ℕ) (flags : List Bool) (a : Action)
    → ((x : ℕ) × IsTrigger n a x × (has_atom flags x ≡ true)) ⊎ IsQuiet n flags a
quiet_or n flags a =
    elim (any_raised flags a.pre) [
      | inl w ↦ inl (w.0, inl w.1, w.2)
      | inr all ↦
          elim (cases_eq (length a.pre) 0) [
            | inl none ↦
                elim (cases_Bool (has_atom flags n)) [
                  | inl e ↦ inl (n, inr (refl, none), e)
                  | inr e ↦ inr (record { pre = all; past = λ h. e })
                ]
            | inr some ↦ inr (record { pre = all; past = λ h. absurd (some h) })
          ]
    ]

-- a row whose flag isn't raised is as before
row_before : (n : ℕ) (old new : List (List Bool)) (flags raised : List Bool) (m : Bool) (x q : ℕ)
    → IsPairStep n old flags new raised m
    → has_atom raised x ≡ false → has_pair new x q ≡ true → has_pair old x q ≡ true
row_before n old new flags raised m x q step quiet h = elim (step.raises x q h)
    [ inl o ↦ o | inr w ↦ let e = w.0 in absurd cc ]

pub paired_before : (n : ℕ) (old new : List (List Bool)) (flags raised : List Bool) (m : Bool)
    (a : Action) (qs : List ℕ) → IsPairStep n old flags new raised m
    → IsQuiet n raised a → ArePaired (has_pair new) a.pre qs → ArePaired (has_pair old) a.pre qs
paired_before n old new flags raised m a qs step quiet h = λ i d less j e within.
    row_before n old new flags raised m (get_or a.pre i d) (get_or qs j e) step (quiet.pre i d less)
    (h i d less j e within)

pub joined_before : (n : ℕ) (old new : List (List Bool)) (flags raised : List Bool) (m : Bool)
    (a : Action) (q : ℕ) → IsPairTable n old → IsPairStep n old flags new raised m
    → IsQuiet n raised a → IsJoined (has_pair new) a.pre q → IsJoined (has_pair old) a.pre q
joined_before n old new flags raised m a q table step quiet h = (
  elim (cases_eq (length a.pre) 0) [
    | inl none ↦ elim (step.raises q q h.0)
        [ inl o ↦ o | inr w ↦ let e = w.2 refl in let f = quiet.past none in absurd cc ]
    | inr some ↦ table.whole (get_or a.pre 0 0) q
        (row_before n old new flags raised m (get_or a.pre 0 0) q step (quiet.pre 0 0 (omega arith))
        (h.1 0 0 (omega arith)))
  ],
  λ i d less. row_before n old new flags raised m (get_or a.pre i d) q step (quiet.pre i d less)
      (h.1 i d less),
)

-- an action that was ready is ready after a step
pub ready_step : (n : ℕ) (old new : List (List Bool)) (flags raised : List Bool) (m : Bool)
    (a : Action) → IsPairTable n old → IsPairStep n old flags new raised m
    → HasItsPairs n old flags a → HasItsPairs n new raised a
ready_step n old new flags raised m a table step h =
    elim h [
      | inr w ↦ inr (w.0, w.1, step.stay w.0 w.2)
      | inl keeps ↦
          elim (quiet_or n raised a) [
            | inl w ↦ inr w
            | inr quiet ↦ inl (record {
              both = λ paired i d less j e within. step.grows (get_or a.add i d) (get_or a.add j e)
                  (keeps.both (paired_before n old new flags raised m a a.pre step quiet paired) i d
                  less j e within);
              other = λ q free paired joined i d less. step.grows (get_or a.add i d) q
                  (keeps.other q free (paired_before n old new flags raised m a a.pre step quiet
                  paired) (joined_before n old new flags raised m a q table step quiet joined) i
                  d less);
            })
          ]
    ]

-- an action whose pairs were put in, and then those with each atom that was joined, is ready
pub ready_visited : (n : ℕ) (mid new : List (List Bool)) (flags raised : List Bool) (m : Bool)
    (a : Action) → IsPairTable n mid → IsPairStep n mid flags new raised m
    → ArePaired (has_pair mid) a.add a.add
    → ((q : ℕ) → LeavesAlone a q → IsJoined (has_pair mid) a.pre q
    → All (λ p. has_pair new p q ≡ true) a.add) → HasItsPairs n new raised a
ready_visited n mid new flags raised m a table step both other =
    elim (quiet_or n raised a) [
      | inl w ↦ inr w
      | inr quiet ↦ inl (record {
        both = λ paired i d less j e within. step.grows (get_or a.add i d) (get_or a.add j e)
            (both i d less j e within);
        other = λ q free paired joined. other q free
            (joined_before n mid new flags raised m a q table step quiet joined);
      })
    ]

-- one more of a list is done, and the others stay so
pub done_more : (P Q : ℕ → Type 0) (xs : List ℕ) (i x : ℕ) → x ≡ get_or xs i 0
    → ((p : ℕ) → P p → Q p) → Q x
    → ((k : ℕ) → k < i → P (get_or xs k 0)) → (k : ℕ) → k < i + 1 → Q (get_or xs k 0)
done_more P Q xs i x e stay here before k below =
    elim (cases_lt k i) [
      | inl lt ↦ stay (get_or xs k 0) (before k lt)
      | inr ge ↦ let same : i ≡ k = omega arith in
          subst (λ y. Q (get_or xs y 0)) same (subst Q e here)
    ]
