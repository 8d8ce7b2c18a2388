use Rattle.std.proofs.Common.{◌≡◌, ◌∙◌, ◌<◌, ◌≤◌, ◌+◌, ℕ, true, subst, sym, get_or, arith, [], List}
use Rattle.std.proofs.Common.{Bool, inl, inr}
use Rattle.std.proofs.lemmas.Bool.{cases_lt}
use Rattle.std.proofs.lemmas.List.{get_or_default}
use Rattle.hv_task.specs.State.{has_atom}
use Rattle.hv_reach.proofs.Steps.{pair_step_both}
use Rattle.hv_reach.specs.Reached.{has_pair}
use Rattle.hv_reach.proofs.pair_table.join_one.Goals as goal

joined_more : (mask row : List Bool) (old new : ℕ → Bool) (from q : ℕ)
    → ((k : ℕ) → old k ≡ true → new k ≡ true)
    → ((k : ℕ) → k < from → has_atom mask k ≡ true → old k ≡ true)
    → ((k : ℕ) → from ≤ k → k < q → has_atom mask k ≡ true → old k ≡ true)
    → new q ≡ true → (k : ℕ) → k < q + 1 → has_atom mask k ≡ true → new k ≡ true
joined_more mask row old new from q grows before between here k less held =
    elim (cases_lt k from) [
      | inl lt ↦ grows k (before k lt held)
      | inr ge ↦ elim (cases_lt k q) [
        | inl lt ↦ grows k (between k ge lt held)
        | inr past ↦ let same : q ≡ k = omega arith in subst (λ y. new y ≡ true) same here
      ]
    ]

pub loop-second-preserved : goal.loop-second-preserved
loop-second-preserved c =
    let i = c.loop-second.invariant in
    let e = c.mark-moved.ensures in
    let size = i.step.table.size in
    let row : get_or c.loop-second.rows.items c.args.first [] ≡ c.index.result.now =
    get_or_default c.loop-second.rows.items c.args.first [] c.index.result.now
    (let less = c.requires.first in omega arith) ∙ sym c.index.ensures in
    let some = c.in-Some.ensures in
    record {
      step = pair_step_both _ _ _ _ _ _ _ _ _ i.step e.step;
      done = joined_more c.args.mask.now c.index.result.now
          (has_pair c.loop-second.rows.items c.args.first)
          (has_pair c.mark-moved.new.rows.items c.args.first) c.loop-second.from c.in-Some.second
          (λ k h. e.step.grows c.args.first k h) i.done
          (λ k ge lt held. subst (λ (s : List Bool). has_atom s k ≡ true) (sym row)
          (some.3 k ge lt held)) e.set;
      least = λ r even all within. e.least r even (all c.in-Some.second some.1)
          (i.least r even all within);
    }
