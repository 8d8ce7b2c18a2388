-- Numbers in blocks: those that give the same when they are divided by the size of a block.
use Rattle.std.proofs.Common.{◌≡◌, ℕ, ◌<◌, ◌≤◌, ◌+◌, ◌*◌, ◌/◌, ◌%◌, ◌∙◌, ap, arith}
use Rattle.std.proofs.Math.Nat.{div-div-eq-div-mul, div-mul-le_self, le-mul_of_pos_right}
use Rattle.std.proofs.Math.Nat.{lt-div-mul-add, mod-eq-sub-div-mul}
use Rattle.std.proofs.lemmas.Nat.{div_below, le-div, mod-mul-add, mul-le}

-- a number by what it gives when it is divided, and what is left
pub div_parts : (n w : ℕ) → n ≡ n / w * w + n % w
div_parts n w = omega (arith, mod-eq-sub-div-mul n w, div-mul-le_self n w)

-- a greater number in the same block leaves as much more
pub mod_more : (n w k : ℕ) → n % w + k < w → (n + k) % w ≡ n % w + k
mod_more n w k less =
    let split = div_parts n w in
    let e : n + k ≡ n / w * w + (n % w + k) = omega arith in
    ap (λ m. m % w) e ∙ mod-mul-add (n / w) w (n % w + k) less

pub below_end : (n w : ℕ) → 0 < w → n < (n / w + 1) * w
below_end n w some = omega (arith, lt-div-mul-add {a = n} {b = w} some)

-- a block that begins below a whole number of blocks ends there at the latest
pub end_within : (n w k : ℕ) → 0 < w → n < k * w → (n / w + 1) * w ≤ k * w
end_within n w k some less = mul-le (n / w + 1) w k w
    (let q = div_below n w k some less in omega arith) (omega arith)

pub div_between : (n w q : ℕ) → 0 < w → q * w ≤ n → n < (q + 1) * w → n / w ≡ q
div_between n w q some low high =
    let a = le-div q n w some low in
    let b = div_below n w (q + 1) some high in omega arith

-- A block of blocks: of so many that have this size.
module _ (next part count : ℕ) (some_part : 0 < part) (some_count : 0 < count) where
  pub front_is : next / part / count ≡ next / (part * count)
  front_is = div-div-eq-div-mul next part count

  pub rest_front : (rest : ℕ) → next / part ≤ rest → rest < (next / part / count + 1) * count
      → rest / count ≡ next / part / count
  rest_front rest ahead less =
      div_between rest count (next / part / count) some_count
      (omega (arith, div-mul-le_self (next / part) count, ahead)) less

  module _ (rest_size total : ℕ) (is : total ≡ part * count * rest_size) (less : next < total) where
    pub end_less : (next / part / count + 1) * count * part ≤ total
    end_less =
        let q = next / (part * count) in
        let e : next / part / count ≡ q = front_is in
        let w : 0 < part * count = (let a = mul-le 1 1 part count (omega arith) (omega arith) in
        omega arith) in
        let bound = end_within next (part * count) rest_size w (omega (arith, is, less)) in
        let same : (next / part / count + 1) * count * part ≡ (q + 1) * count * part = ap
        (λ n. (n + 1) * count * part) e in
        omega (arith, same, bound, is)

    pub end_few : (next / part / count + 1) * count ≤ total
    end_few = omega (
      arith,
      end_less,
      le-mul_of_pos_right ((next / part / count + 1) * count)
          some_part,
    )

    pub rest_less : (rest : ℕ) → rest < (next / part / count + 1) * count → rest * part < total
    rest_less rest within =
        let a = mul-le (rest + 1) part ((next / part / count + 1) * count) part (omega arith)
        (omega arith) in
        omega (arith, a, end_less, some_part)
