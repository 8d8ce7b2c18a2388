use Rattle.std.proofs.Common.{◌≡◌, ◌<◌, ℕ, IfOk, length, subst, sym, true}
use Rattle.hv_replay.specs.Working.Leading.{StaysInFirst}
use Rattle.hv_replay.proofs.log_query.all_stay.Goals as goal

pub all_stay_by-requires-clause-number : goal.all_stay_by-requires-clause-number
all_stay_by-requires-clause-number c =
    subst (λ n. n < length c.args.sets.now) (sym c.in_ok-asking.ensures.number) c.requires.number

pub returns : goal.returns
returns c =
    subst (λ n. IfOk c.all_stay_by.result (λ all. all ≡ true → (action : ℕ)
    → action < length c.args.task.now.actions
    → StaysInFirst c.args.task.now c.args.sets.now n action))
    c.in_ok-asking.ensures.number c.all_stay_by.ensures
