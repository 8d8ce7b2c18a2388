use Rattle.std.proofs.Common.{◌≡◌, ◌∙◌, Bool, true, length, refl, sym, ap, arith, subst, List}
use Rattle.hv_sets.specs.Truth.{in_clauses}
use Rattle.hv_propagation.specs.Roots.{AreSettledBut}
use Rattle.hv_propagation.specs.Forced.{AreForced}
use Rattle.hv_indexes.specs.Places.{clause_at}
use Rattle.hv_propagation.specs.Clauses.{AreClauses}
use Rattle.hv_propagation.specs.Marks.{over}
use Rattle.hv_propagation.proofs.Chasing.{followed_then}
use Rattle.hv_propagation.specs.Working.Laws.{kept_on}
use Rattle.hv_propagation.proofs.Untouched.{kept_either, turned_kept}
use Rattle.hv_propagation.proofs.falsified.start.Goals as goal

pub start_value-requires-2-clause-clauses : goal.start_value-requires-2-clause-clauses
start_value-requires-2-clause-clauses c =
    subst (λ n. AreClauses n c.args.clauses.now)
    (sym (ap length c.if-not-start_value.ensures.followed.roots)) c.requires.clauses

pub start_value-requires-2-clause-forced : goal.start_value-requires-2-clause-forced
start_value-requires-2-clause-forced c =
    subst (λ n. AreForced n c.args.clauses.now c.args.forced.now)
    (sym (ap length c.if-not-start_value.ensures.followed.roots)) c.requires.forced

pub returns-clause-followed : goal.returns-clause-followed
returns-clause-followed c =
    let P : List Bool → Type 0 = λ state. in_clauses c.args.clauses.now
    (over c.args.effect.now state) ≡ true in
    followed_then P P _ _ _ _ (λ s size holds. holds) c.if-not-start_value.ensures.followed
    c.start_value-2.ensures.followed

pub returns-clause-kept : goal.returns-clause-kept
returns-clause-kept c = λ is.
    let e = c.args.effect.now in
    let clauses = c.args.clauses.now in
    let first = c.if-not-start_value.ensures in
    let second = c.start_value-2.ensures in
    turned_kept e clauses c.start_value-2.new.marks
    (subst (λ b. AreSettledBut e clauses b) (sym (second.followed.roots ∙ first.followed.roots))
    c.requires.but)
    (kept_either e clauses c.start_value-2.new.marks
    (λ place l less has made sign.
    kept_on e (clause_at clauses place) c.start_value.new.marks c.start_value-2.new.marks 0
    second.followed.roots second.followed.more (omega arith)
    (first.kept refl place l less has made sign))
    (second.kept is))
