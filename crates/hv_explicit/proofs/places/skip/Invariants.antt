use Rattle.std.proofs.Common.{◌≡◌, ◌<◌, ◌≤◌, ◌-◌, ℕ}
use Rattle.hv_explicit.specs.Working.Places.{slot_at, slot_of, code_at}
use Rattle.hv_explicit.proofs.places.skip.Given as goal

abbrev pub invariant-loop-end : goal.invariant-loop-end
invariant-loop-end l = record {
  upto : l.end ≤ l.start;
  after : (k : ℕ) → k < l.start → code_at l.codes k ≡ l.code → k < l.end;
  slot : 0 < l.end → slot_at l.codes l.fn.factor l.fn.slots (l.end - 1)
      ≡ slot_of l.fn.factor l.fn.slots l.code;
}

abbrev pub decreases-loop-end : goal.decreases-loop-end
decreases-loop-end l = l.end
