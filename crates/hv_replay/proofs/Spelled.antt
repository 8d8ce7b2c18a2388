-- Sets of atoms have a spelling, and that of one state is short.
use Rattle.std.proofs.Common.{◌≡◌, ℕ, zero, suc, ◌+◌, ◌*◌, ◌^◌, ◌<◌, ◌≤◌, List, [], ◌∷◌, length}
use Rattle.std.proofs.Common.{map, get_or, decimal, refl, subst, arith}
use Rattle.std.proofs.lemmas.List.Elements.{All-head, All-tail}
use Rattle.std.specs.List.{All}
use Rattle.std.specs.List.Sorted.{IsStrictlyIncreasing}
use Rattle.hv_task.specs.State.{AreBelow}
use Rattle.hv_task.specs.Strips.{Strips, IsTask, atoms}
use Rattle.hv_lines.specs.Drafts.{IsShortLine}
use Rattle.hv_lines.specs.Spelling.{ExprFits, FitsDecimal, FitsShortDecimal, IsRising, state_fields}
use Rattle.hv_lines.specs.declared.line.Expr.TheVariants as E
use Rattle.hv_lines.specs.declared.line.Line.TheVariants as L
use Rattle.hv_lines.proofs.Lengths.{decimal_short, short_by, weight, weight-append}
use Rattle.hv_replay.specs.Logs.{IsAtomSet}

-- a number of a list that rises is at least its place
at_least_place : (xs : List ℕ) (k : ℕ) → IsStrictlyIncreasing xs → k < length xs → k ≤ get_or xs k 0
at_least_place xs zero rises below = omega arith
at_least_place xs (suc k) rises below =
    let step : get_or xs k 0 < get_or xs (k + 1) 0 = rises k (omega (arith, below)) in
    let before = at_least_place xs k rises (omega (arith, below)) in
    let same : k + 1 ≡ suc k = omega arith in
    subst (λ n. n ≤ get_or xs n 0) same (omega (arith, step, before))

-- so a list that rises is no longer than its bound
few_below : (n : ℕ) (xs : List ℕ) (size : ℕ) → size ≡ length xs → IsStrictlyIncreasing xs
    → AreBelow n xs → size ≤ n
few_below n xs zero is rises below = omega arith
few_below n xs (suc k) is rises below =
    let within : k < length xs = omega (arith, is) in
    omega (arith, at_least_place xs k rises within, below k 0 within)

pub atom_set_few : (task : Strips) (held : List ℕ) → IsAtomSet (atoms task) held
    → length held ≤ atoms task
atom_set_few task held is = few_below (atoms task) held (length held) refl is.rises is.below

pub atom_set_rising : (task : Strips) (held : List ℕ) → IsTask task → IsAtomSet (atoms task) held
    → IsRising held
atom_set_rising task held is_task is = record {
  short = λ k d within. let below = is.below k d within in omega (arith, below, is_task.few_atoms);
  rising = is.rises;
}

pub states_fit : (task : Strips) (states : List (List ℕ)) → IsTask task
    → All (IsAtomSet (atoms task)) states → length states ≤ 1000000
    → ExprFits (E.States states)
states_fit task states is_task are few = (
  omega (arith, few),
  λ k d within. atom_set_rising task (get_or states k d) is_task
      (are k d within),
)

decimals_short : (ns : List ℕ) → All FitsShortDecimal ns → weight (map decimal ns) ≤ 19 * length ns
decimals_short [] fit = omega arith
decimals_short (n ∷ ns) fit =
    let head : n < 10 ^ 9 = All-head FitsShortDecimal n ns fit in
    let wide : FitsDecimal n = omega (arith, head) in
    omega (arith, decimal_short n wide, decimals_short ns (All-tail FitsShortDecimal n ns fit))

-- the line of one state is short
pub short_state : (task : Strips) (id : ℕ) (held : List ℕ) → IsTask task
    → IsAtomSet (atoms task) held → FitsDecimal id
    → IsShortLine (L.Expr id (E.States (held ∷ [])))
short_state task id held is_task is at =
    short_by (L.Expr id (E.States (held ∷ [])))
    (omega (
      arith,
      decimal_short id at,
      decimal_short 1 (omega arith),
      decimals_short held (atom_set_rising task held is_task is).short,
      atom_set_few task held is,
      is_task.few_atoms,
      weight-append (map decimal held) ((59 ∷ []) ∷ []),
      weight-append (state_fields held) [],
    ))
