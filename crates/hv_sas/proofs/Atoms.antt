-- The atoms of facts: each is below the number of all values, no two facts have one, and each has a
-- fact.
use Rattle.std.proofs.Common.{◌≡◌, ℕ, zero, suc, ◌+◌, ◌-◌, ◌<◌, inl, inr, List, [], ◌∷◌}
use Rattle.std.proofs.Common.{length, take}
use Rattle.std.proofs.Common.{refl, ap, arith, ◌∙◌}
use Rattle.std.proofs.lemmas.Bool.{cases_lt}
use Rattle.std.proofs.lemmas.List.Sums.{sum_by-cons}
use Rattle.hv_sas.specs.declared.sas_task.Fact.{Fact}
use Rattle.hv_sas.specs.declared.sas_task.SasVariable.{SasVariable}
use Rattle.hv_sas.specs.Variables.{IsFact, range_at, values_in}
use Rattle.hv_sas.specs.Made.{fact_atom}

pub values-cons : (x : SasVariable) (xs : List SasVariable)
    → values_in (x ∷ xs) ≡ length x.values + values_in xs
values-cons x xs = sum_by-cons (λ (y : SasVariable). length y.values) x xs

-- a variable with a value is one of them
pub range_within : (vs : List SasVariable) (v x : ℕ) → x < range_at vs v → v < length vs
range_within [] v x h = absurd (omega arith)
range_within (y ∷ ys) zero x h = omega arith
range_within (y ∷ ys) (suc v) x h = let k = range_within ys v x h in omega arith

pub place_below : (vs : List SasVariable) (v x : ℕ) → x < range_at vs v
    → values_in (take v vs) + x < values_in vs
place_below [] v x h = absurd (omega arith)
place_below (y ∷ ys) zero x h = let e = values-cons y ys in omega arith
place_below (y ∷ ys) (suc v) x h =
    let e = values-cons y ys in
    let f = values-cons y (take v ys) in
    let k = place_below ys v x h in omega arith

pub place_apart : (vs : List SasVariable) (v w x y : ℕ) → x < range_at vs v → y < range_at vs w
    → values_in (take v vs) + x ≡ values_in (take w vs) + y → (v ≡ w) × (x ≡ y)
place_apart [] v w x y h k e = absurd (omega arith)
place_apart (z ∷ zs) zero zero x y h k e = (refl, omega arith)
place_apart (z ∷ zs) zero (suc w) x y h k e =
    let f = values-cons z (take w zs) in absurd (omega arith)
place_apart (z ∷ zs) (suc v) zero x y h k e =
    let f = values-cons z (take v zs) in absurd (omega arith)
place_apart (z ∷ zs) (suc v) (suc w) x y h k e =
    let f = values-cons z (take v zs) in
    let g = values-cons z (take w zs) in
    let m = place_apart zs v w x y h k (omega arith) in (ap (λ n. suc n) m.0, m.1)

pub place_found : (vs : List SasVariable) (p : ℕ) → p < values_in vs
    → (v : ℕ) × (x : ℕ) × (x < range_at vs v) × (values_in (take v vs) + x ≡ p)
place_found [] p h = absurd (omega arith)
place_found (z ∷ zs) p h =
    let e = values-cons z zs in
    elim (cases_lt p (length z.values)) [
      | inl less ↦ (zero, p, less, omega arith)
      | inr at_most ↦
          let m = place_found zs (p - length z.values) (omega arith) in
          let f = values-cons z (take m.0 zs) in
          let g = m.3 in (suc m.0, m.1, m.2, omega arith)
    ]

pub atom_below : (vs : List SasVariable) (fact : Fact) → IsFact vs fact
    → fact_atom vs fact < values_in vs
atom_below vs fact is = place_below vs fact.var fact.value is

-- facts with one atom are one
pub atom_apart : (vs : List SasVariable) (one other : Fact) → IsFact vs one → IsFact vs other
    → fact_atom vs one ≡ fact_atom vs other → one ≡ other
atom_apart vs one other is also e =
    let m = place_apart vs one.var other.var one.value other.value is also e in
    let fact : ℕ → ℕ → Fact = λ v x. record { var = v; value = x } in
    ap (λ v. fact v one.value) m.0 ∙ ap (λ x. fact other.var x) m.1

-- each atom is that of a fact
pub atom_found : (vs : List SasVariable) (p : ℕ) → p < values_in vs
    → (fact : Fact) × IsFact vs fact × (fact_atom vs fact ≡ p)
atom_found vs p h =
    let m = place_found vs p h in (record { var = m.0; value = m.1 }, m.2, m.3)
