use Rattle.std.proofs.Common.{◌≡◌, ◌∙◌, true, arith, get_or, inl, inr, subst}
use Rattle.std.proofs.lemmas.Bool.{cases_lt}
use Rattle.std.proofs.lemmas.List.{get_or_default}
use Rattle.std.specs.List.{All}
use Rattle.hv_reach.proofs.Steps.{pair_step_both}
use Rattle.hv_reach.specs.Reached.{LeavesAlone, has_pair}
use Rattle.hv_reach.proofs.pair_visit.follow.Goals as goal

pub loop-place-preserved : goal.loop-place-preserved
loop-place-preserved c =
    let i = c.loop-place.invariant in
    let e = c.follow_one-moved.ensures in
    let a = c.args.action.now in
    let grows = e.step.grows in
    let news = c.requires.news.count in
    let atom : c.index.result.now ≡ get_or c.args.news.now.atoms.items c.loop-place.place 0 =
    c.index.ensures ∙ get_or_default c.args.news.now.atoms.items c.loop-place.place
    c.index.result.now 0 (omega arith) in
    let done = subst (λ y. LeavesAlone a y
    → All (λ p. has_pair c.loop-place.rows.items p y ≡ true) a.pre
    → All (λ p. has_pair c.follow_one-moved.new.rows.items p y ≡ true) a.add) atom e.done in
    record {
      step = pair_step_both _ _ _ _ _ _ _ _ _ i.step e.step;
      done = λ k less free all.
          let q = get_or c.args.news.now.atoms.items k 0 in
          elim (cases_lt k c.loop-place.place) [
            | inl lt ↦ λ j d below. grows (get_or a.add j d) q (i.done k lt free all j d below)
            | inr ge ↦
                let same : c.loop-place.place ≡ k = omega arith in
                subst (λ y. LeavesAlone a (get_or c.args.news.now.atoms.items y 0)
                → All (λ p. has_pair c.args.rows.now.items p
                (get_or c.args.news.now.atoms.items y 0) ≡ true) a.pre
                → All (λ p. has_pair c.follow_one-moved.new.rows.items p
                (get_or c.args.news.now.atoms.items y 0) ≡ true) a.add) same
                (λ alone told. done alone (λ j d below. i.step.grows (get_or a.pre j d)
                (get_or c.args.news.now.atoms.items c.loop-place.place 0) (told j d below)))
                free all
          ];
      least = λ r even keeps within. e.least r even keeps (i.least r even keeps within);
    }
