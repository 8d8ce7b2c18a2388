use Rattle.std.proofs.Common.{◌≡◌, ◌∙◌, arith, get_or, inl, inr, subst, sym}
use Rattle.std.proofs.lemmas.Bool.{cases_lt}
use Rattle.std.specs.List.{Contains}
use Rattle.hv_task.proofs.Places.{names_atom-Decides}
use Rattle.hv_explicit.proofs.made.past_deleted.Goals as goal

pub loop-end-preserved : goal.loop-end-preserved
loop-end-preserved c =
    let del = c.args.del.now in
    let held = c.args.held.now in
    let at = c.loop-end.end in
    let inv = c.loop-end.invariant in
    record {
      from = let from = inv.from in omega arith;
      within = let less = c.loop-end-test.true in omega arith;
      deleted = λ k past less. elim (cases_lt k at) [
        | inl old ↦ inv.deleted k past old
        | inr new ↦
            let same : at ≡ k = omega arith in
            subst (λ j. Contains del (get_or held j 0)) same
            ((names_atom-Decides del (get_or held at 0)).0 (sym c.named.ensures ∙ c.if-named.true))
      ];
    }
