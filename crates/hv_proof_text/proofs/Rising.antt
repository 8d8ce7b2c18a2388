-- Short decimals that rise from a least number on.
use Rattle.std.proofs.Common.{◌≡◌, ℕ, zero, suc, ◌+◌, ◌<◌, ◌≤◌, List, [], ◌∷◌}
use Rattle.std.proofs.Common.{length, get_or, arith, add-one}
use Rattle.std.proofs.lemmas.List.Elements.{All-nil, All-cons, All-head, All-tail}
use Rattle.hv_task.proofs.Rising.{rises-tail}
use Rattle.std.specs.List.{All}
use Rattle.std.specs.List.Sorted.{IsStrictlyIncreasing}
use Rattle.hv_lines.specs.Spelling.{FitsShortDecimal, IsRising}

-- the first is at least so great, and each further one greater than the one before it
abbrev pub RisesFrom : ℕ → List ℕ → Type 0
RisesFrom least [] = Unit {0}
RisesFrom least (n ∷ ns) = (least ≤ n) × FitsShortDecimal n × RisesFrom (n + 1) ns

short_from : (least : ℕ) (ns : List ℕ) → RisesFrom least ns → All FitsShortDecimal ns
short_from least [] r = All-nil FitsShortDecimal
short_from least (n ∷ ns) r = All-cons FitsShortDecimal n ns r.1 (short_from (n + 1) ns r.2)

increasing_from : (least : ℕ) (ns : List ℕ) → RisesFrom least ns → IsStrictlyIncreasing ns
increasing_from least [] r k within = absurd (omega arith)
increasing_from least (n ∷ []) r k within = absurd (omega arith)
increasing_from least (n ∷ m ∷ ns) r zero within = let less = r.2.0 in omega arith
increasing_from least (n ∷ m ∷ ns) r (suc k) within =
    let less = increasing_from (n + 1) (m ∷ ns) r.2 k (omega arith) in
    let e : get_or (n ∷ m ∷ ns) (suc k + 1) 0 ≡ get_or (m ∷ ns) (k + 1) 0 = rw (add-one, add-one) in
    omega arith

pub rising_from : (ns : List ℕ) → RisesFrom 0 ns → IsRising ns
rising_from ns r = record { short = short_from 0 ns r; rising = increasing_from 0 ns r }

from_parts : (least : ℕ) (ns : List ℕ) → (0 < length ns → least ≤ get_or ns 0 0)
    → All FitsShortDecimal ns → IsStrictlyIncreasing ns → RisesFrom least ns
from_parts least [] first short rises = tt
from_parts least (n ∷ []) first short rises =
    (first (omega arith), All-head FitsShortDecimal n [] short, tt)
from_parts least (n ∷ m ∷ ns) first short rises =
    let below : 0 + 1 < length (n ∷ m ∷ ns) = omega arith in
    let less = rises 0 below in (
      first (omega arith),
      All-head FitsShortDecimal n (m ∷ ns) short,
      from_parts (n + 1) (m ∷ ns) (λ _. omega arith) (All-tail FitsShortDecimal n (m ∷ ns) short)
          (rises-tail n (m ∷ ns) rises),
    )

pub from_rising : (ns : List ℕ) → IsRising ns → RisesFrom 0 ns
from_rising ns r = from_parts 0 ns (λ _. omega arith) r.short r.rising
