use Rattle.std.proofs.Common.{◌≡◌, ◌<◌, ◌||◌, ℕ, length, nat_eq, take}
use Rattle.std.specs.List.{list_any}
use Rattle.hv_basic.specs.Working.Flags.{flag_or_false}
use Rattle.hv_basic.proofs.acts.set_listed.Given as goal

abbrev pub invariant-loop-action : goal.invariant-loop-action
invariant-loop-action l = record {
  size : length l.flags.items ≡ length l.fn.flags.items;
  set : (number : ℕ) → number < length l.fn.flags.items
      → flag_or_false l.flags.items number ≡
      (flag_or_false l.fn.flags.items number || list_any
      (λ n. nat_eq n number) (take l.action-index l.listed));
}
