use Rattle.std.proofs.Common.{◌≡◌, ◌<◌, ◌≤◌, ◌-◌, ℕ, length}
use Rattle.hv_explicit.specs.Working.Codes.{IsSame}
use Rattle.hv_explicit.specs.Working.Listing.{first_at}
use Rattle.hv_explicit.specs.Working.Places.{code_at}
use Rattle.hv_explicit.proofs.firsts.look_up.Given as goal

abbrev pub invariant-loop-end : goal.invariant-loop-end
invariant-loop-end g l = record {
  upto : l.end ≤ length l.firsts.codes;
  none : (e : ℕ) → e < length l.firsts.places.items → l.end ≤ e
      → code_at l.firsts.codes e ≡ l.code
      → IsSame (g.A.Sought.has l.held) (first_at l.states l.firsts.places.items e) → ⊥;
  there : 0 < l.end → code_at l.firsts.codes (l.end - 1) ≡ l.code;
}

abbrev pub decreases-loop-end : goal.decreases-loop-end
decreases-loop-end g l = l.end
