-- Chains: what their nodes say of a state.
use Rattle.std.proofs.Common.{◌≡◌, ℕ, zero, suc, ◌<◌, ◌≤◌, ◌+◌, ◌-◌, ◌∙◌, ◌&&◌, ◌||◌, Bool, true}
use Rattle.std.proofs.Common.{false, not, List, cond, eqb, ltb, set, refl, sym, ap, ap₂, arith, inl}
use Rattle.std.proofs.Common.{inr, subst}
use Rattle.std.proofs.lemmas.Bool.{and_from, and_parts, cases_eq, cases_lt, cond-false, cond-true}
use Rattle.std.proofs.lemmas.Bool.{le-ltb, lt-ltb}
use Rattle.std.proofs.lemmas.List.{get_or-set_other}
use Rattle.std.proofs.Math.Bool.{beq}
use Rattle.hv_task.specs.State.{has_atom}
use Rattle.hv_bdd.specs.Working.Graphs.{in_chain as in_chain_of, matches as matches_of}
use Rattle.hv_bdd.specs.Live.{chain_child, chain_top, first_asked}

module _ (n : ℕ) (atom_at : ℕ → ℕ) (asks bits : ℕ → Bool) where
  abbrev pub matches : List Bool → ℕ → ℕ → Bool
  matches = matches_of n atom_at asks bits

  abbrev pub in_chain : List Bool → ℕ → Bool
  in_chain = in_chain_of n atom_at asks bits

  pub chain_end : (s : List Bool) (i : ℕ) → i < 2 → in_chain s i ≡ eqb i 1
  chain_end s i less = cond-true (ltb i 2) (eqb i 1) _ (lt-ltb i 2 less)

  pub chain_inner : (s : List Bool) (i : ℕ) → 2 ≤ i
      → in_chain s i ≡ (beq (has_atom s (atom_at (i - 2))) (bits (i - 2))
      && matches s (n - (i - 1)) (i - 1))
  chain_inner s i le = cond-false (ltb i 2) (eqb i 1) _ (le-ltb i 2 le)

  pub top_end : (i : ℕ) → i < 2 → chain_top n i ≡ n
  top_end i less = cond-true (ltb i 2) n (i - 2) (lt-ltb i 2 less)

  pub top_inner : (i : ℕ) → 2 ≤ i → chain_top n i ≡ i - 2
  top_inner i le = cond-false (ltb i 2) n (i - 2) (le-ltb i 2 le)

  -- the first asked node of the rest is what the rest says
  pub first_is : (s : List Bool) (k v : ℕ) → v + k ≡ n
      → in_chain s (first_asked asks k v) ≡ matches s k v
  first_is s zero v e = refl
  first_is s (suc k) v e = by (first_is s k (v + 1) (omega arith)) (asks v)
    where
      here : in_chain s (v + 2) ≡ (beq (has_atom s (atom_at v)) (bits v) && matches s k (v + 1))
      here =
          let a : v + 2 - 2 ≡ v = omega arith in
          let b : v + 2 - 1 ≡ v + 1 = omega arith in
          let c : n - (v + 2 - 1) ≡ k = omega arith in
          chain_inner s (v + 2) (omega arith)
          ∙ ap₂ (λ x y. x && y) (ap (λ w. beq (has_atom s (atom_at w)) (bits w)) a)
          (ap₂ (λ x y. matches s x y) c b)

      by : in_chain s (first_asked asks k (v + 1)) ≡ matches s k (v + 1) → (b : Bool)
          → in_chain s (cond b (v + 2) (first_asked asks k (v + 1)))
          ≡ ((not b || beq (has_atom s (atom_at v)) (bits v)) && matches s k (v + 1))
      by rest true = here
      by rest false = rest

  pub first_within : (k v : ℕ) → v + k ≡ n → first_asked asks k v < n + 2
  first_within zero v e = omega arith
  first_within (suc k) v e = by (first_within k (v + 1) (omega arith)) (asks v)
    where
      by : first_asked asks k (v + 1) < n + 2 → (b : Bool)
          → cond b (v + 2) (first_asked asks k (v + 1)) < n + 2
      by rest true = omega arith
      by rest false = rest

  pub first_later : (k v : ℕ) → v + k ≡ n → v ≤ chain_top n (first_asked asks k v)
  first_later zero v e = let f = top_end 1 (omega arith) in omega arith
  first_later (suc k) v e = by (first_later k (v + 1) (omega arith)) (asks v)
    where
      by : v + 1 ≤ chain_top n (first_asked asks k (v + 1)) → (b : Bool)
          → v ≤ chain_top n (cond b (v + 2) (first_asked asks k (v + 1)))
      by rest true = let f = top_inner (v + 2) (omega arith) in omega arith
      by rest false = omega arith

  pub chain_later : (i : ℕ) (b : Bool) → 2 ≤ i → i < n + 2
      → chain_top n i < chain_top n (chain_child n asks bits i b)
  chain_later i b le within = by (beq b (bits (i - 2)))
    where
      by : (x : Bool) → chain_top n i < chain_top n
          (cond x (first_asked asks (n - (i - 1)) (i - 1)) 0)
      by true = let e = top_inner i le in let f = first_later (n - (i - 1)) (i - 1) (omega arith) in
          omega arith
      by false = let e = top_inner i le in let f = top_end 0 (omega arith) in omega arith

  pub chain_within : (i : ℕ) (b : Bool) → 2 ≤ i → i < n + 2 → chain_child n asks bits i b < n + 2
  chain_within i b le within = by (beq b (bits (i - 2)))
    where
      by : (x : Bool) → cond x (first_asked asks (n - (i - 1)) (i - 1)) 0 < n + 2
      by true = first_within (n - (i - 1)) (i - 1) (omega arith)
      by false = omega arith

  pub chain_step : (s : List Bool) (i : ℕ) → 2 ≤ i → i < n + 2
      → in_chain s i ≡ in_chain s (chain_child n asks bits i (has_atom s (atom_at (chain_top n i))))
  chain_step s i le within =
      chain_inner s i le
      ∙ (by (beq (has_atom s (atom_at (i - 2))) (bits (i - 2)))
      ∙ ap (λ v. in_chain s (chain_child n asks bits i (has_atom s (atom_at v))))
      (sym (top_inner i le)))
    where
      rest : in_chain s (first_asked asks (n - (i - 1)) (i - 1)) ≡ matches s (n - (i - 1)) (i - 1)
      rest = first_is s (n - (i - 1)) (i - 1) (omega arith)

      by : (x : Bool) → (x && matches s (n - (i - 1)) (i - 1))
          ≡ in_chain s (cond x (first_asked asks (n - (i - 1)) (i - 1)) 0)
      by true = sym rest
      by false = refl

  module _ (apart : (v w : ℕ) → v < n → w < n → atom_at v ≡ atom_at w → v ≡ w) where
    bit_free : (s : List Bool) (v w : ℕ) (b : Bool) → v < w → w < n
        → has_atom (set s (atom_at v) b) (atom_at w) ≡ has_atom s (atom_at w)
    bit_free s v w b less within =
        get_or-set_other s (atom_at v) (atom_at w) b false
        (λ same. let e = apart w v within (omega arith) same in omega arith)

    matches_free : (s : List Bool) (k w v : ℕ) (b : Bool) → v < w → w + k ≤ n
        → matches (set s (atom_at v) b) k w ≡ matches s k w
    matches_free s zero w v b less within = refl
    matches_free s (suc k) w v b less within =
        ap₂ (λ x y. (not (asks w) || beq x (bits w)) && y) (bit_free s v w b less (omega arith))
        (matches_free s k (w + 1) v b (omega arith) (omega arith))

    pub chain_free : (s : List Bool) (i v : ℕ) (b : Bool) → i < n + 2 → v < chain_top n i
        → in_chain (set s (atom_at v) b) i ≡ in_chain s i
    chain_free s i v b within less =
        elim (cases_lt i 2) [
          | inl end ↦ chain_end (set s (atom_at v) b) i end ∙ sym (chain_end s i end)
          | inr inner ↦
              let e = top_inner i inner in
              chain_inner (set s (atom_at v) b) i inner
              ∙ (ap₂ (λ x y. beq x (bits (i - 2)) && y)
              (bit_free s v (i - 2) b (omega arith) (omega arith))
              (matches_free s (n - (i - 1)) (i - 1) v b (omega arith) (omega arith))
              ∙ sym (chain_inner s i inner))
        ]

  -- what a match says of each place
  pub match_at : (s : List Bool) (k v w : ℕ) → matches s k v ≡ true → v ≤ w → w < v + k
      → asks w ≡ true
      → beq (has_atom s (atom_at w)) (bits w) ≡ true
  match_at s zero v w all from upto asked = absurd (omega arith)
  match_at s (suc k) v w all from upto asked =
      let parts = and_parts (not (asks v) || beq (has_atom s (atom_at v)) (bits v))
      (matches s k (v + 1)) all in
      elim (cases_eq v w) [
        | inl same ↦
            by (asks w) asked (subst (λ x. (not (asks x) || beq (has_atom s (atom_at x)) (bits x))
            ≡ true) same parts.0)
        | inr other ↦ match_at s k (v + 1) w parts.1 (omega (arith, other)) (omega arith) asked
      ]
    where
      by : (b : Bool) → b ≡ true → (not b || beq (has_atom s (atom_at w)) (bits w)) ≡ true
          → beq (has_atom s (atom_at w)) (bits w) ≡ true
      by true e is = is
      by false e is = let f : false ≡ true = e in absurd cc

  pub match_from : (s : List Bool) (k v : ℕ)
      → ((w : ℕ) → v ≤ w → w < v + k → asks w ≡ true → beq (has_atom s (atom_at w)) (bits w) ≡ true)
      → matches s k v ≡ true
  match_from s zero v each = refl
  match_from s (suc k) v each =
      and_from (not (asks v) || beq (has_atom s (atom_at v)) (bits v)) (matches s k (v + 1))
      (by (asks v) (each v (omega arith) (omega arith)))
      (match_from s k (v + 1) (λ w from upto. each w (omega arith) (omega arith)))
    where
      by : (b : Bool) → (b ≡ true → beq (has_atom s (atom_at v)) (bits v) ≡ true)
          → (not b || beq (has_atom s (atom_at v)) (bits v)) ≡ true
      by true says = says refl
      by false says = refl
