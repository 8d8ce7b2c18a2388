use Rattle.std.proofs.Common.{◌≡◌, ◌<◌, ◌+◌, ◌∙◌, ℕ, true, false, length, get_or, refl, sym, ap}
use Rattle.std.proofs.Common.{arith, below_more, inl, inr, subst}
use Rattle.std.proofs.lemmas.Bool.{cases_lt}
use Rattle.hv_sets.specs.Truth.{in_clauses}
use Rattle.std.proofs.lemmas.List.{get_or_default}
use Rattle.hv_propagation.specs.Chase.{IsKept}
use Rattle.hv_indexes.specs.Places.{clause_at}
use Rattle.hv_propagation.specs.Clauses.{AreClauses}
use Rattle.hv_propagation.specs.Marks.{over}
use Rattle.hv_propagation.specs.Trail.{marks_of}
use Rattle.hv_propagation.proofs.Chasing.{followed_none, followed_then, longer}
use Rattle.hv_propagation.specs.Working.Laws.{kept_on}
use Rattle.hv_propagation.proofs.Marked.{value_extends}
use Rattle.hv_propagation.proofs.chase.visit_all.Goals as goal

pub visit_one-requires-clause-clauses : goal.visit_one-requires-clause-clauses
visit_one-requires-clause-clauses c =
    subst (λ n. AreClauses n c.args.clauses.now)
    (sym (ap length c.loop-index.invariant.followed.roots)) c.requires.clauses

pub visit_one-requires-clause-out : goal.visit_one-requires-clause-out
visit_one-requires-clause-out c =
    value_extends c.args.effect.now (marks_of c.args.marks.now) (marks_of c.loop-index.marks)
    c.args.standing.now.literal false c.loop-index.invariant.followed.grows c.requires.out

pub returns-then-not-visit_one-clause-followed : goal.returns-then-not-visit_one-clause-followed
returns-then-not-visit_one-clause-followed c =
    followed_then (λ s. in_clauses c.args.clauses.now (over c.args.effect.now s) ≡ true)
    (λ s. in_clauses c.args.clauses.now (over c.args.effect.now s) ≡ true)
    _ _ _ _ (λ state size holds. holds) c.loop-index.invariant.followed
    c.if-not-visit_one.ensures.followed

pub next_place-index-requires : goal.next_place-index-requires
next_place-index-requires c = c.loop-index-test.true

pub loop-index-preserved : goal.loop-index-preserved
loop-index-preserved c =
    let e = c.args.effect.now in
    let clauses = c.args.clauses.now in
    let places = c.args.standing.now.places.now in
    let index = c.loop-index.index in
    let old = c.loop-index.marks in
    let new = c.visit_one.new.marks in
    let from = length c.args.marks.now.trail in
    let step = c.if-not-visit_one.ensures.followed in
    let Seen : ℕ → Type 0 = λ k. k < length places
    → IsKept e (clause_at clauses (get_or places k 0)) new from in
    record {
      followed = followed_then (λ s. in_clauses clauses (over e s) ≡ true)
          (λ s. in_clauses clauses (over e s) ≡ true)
          _ _ _ _ (λ state size holds. holds) c.loop-index.invariant.followed step;
      seen = λ k less. elim (cases_lt k (index + 1)) [
        | inl here ↦ below_more Seen index
            (λ j before within. kept_on e (clause_at clauses (get_or places j 0)) old new from
            step.roots step.more (longer _ _ _ _ c.loop-index.invariant.followed)
            (c.loop-index.invariant.seen j before within))
            (λ within apart. c.if-not-visit_one.ensures.settled refl) k here
        | inr past ↦ λ within apart. c.next_place-index.ensures.settled k (omega arith) less clauses
            c.requires.standing within
      ];
    }

pub returns-clause-kept : goal.returns-clause-kept
returns-clause-kept c = λ is place has.
    let end = c.loop-index-test.false in
    let within : has.0 < length c.args.standing.now.places.now = has.1 in
    subst (λ x. IsKept c.args.effect.now (clause_at c.args.clauses.now x) c.loop-index.marks
    (length c.args.marks.now.trail))
    (get_or_default c.args.standing.now.places.now has.0 0 place within ∙ has.2)
    (c.loop-index.invariant.seen has.0 (omega arith) within)

pub visit_in_runs-requires-clause-clauses : goal.visit_in_runs-requires-clause-clauses
visit_in_runs-requires-clause-clauses c = c.requires.clauses

pub visit_in_runs-requires-clause-standing : goal.visit_in_runs-requires-clause-standing
visit_in_runs-requires-clause-standing c = c.requires.standing

pub visit_in_runs-requires-clause-out : goal.visit_in_runs-requires-clause-out
visit_in_runs-requires-clause-out c = c.requires.out

pub returns-then-says_nothing-clause-followed : goal.returns-then-says_nothing-clause-followed
returns-then-says_nothing-clause-followed c = c.visit_in_runs.ensures.followed

pub returns-then-says_nothing-clause-kept : goal.returns-then-says_nothing-clause-kept
returns-then-says_nothing-clause-kept c = c.visit_in_runs.ensures.kept

pub loop-index-init : goal.loop-index-init
loop-index-init c = record {
  followed = followed_none (λ s. in_clauses c.args.clauses.now (over c.args.effect.now s) ≡ true)
      c.args.marks.now;
  seen = λ k less. absurd (omega (arith, less));
}

pub visit_one-requires-clause-standing : goal.visit_one-requires-clause-standing
visit_one-requires-clause-standing c = c.requires.standing

pub visit_one-requires-clause-index : goal.visit_one-requires-clause-index
visit_one-requires-clause-index c = c.loop-index-test.true

pub returns-then-not-visit_one-clause-kept : goal.returns-then-not-visit_one-clause-kept
returns-then-not-visit_one-clause-kept c = λ is. absurd (let f : false ≡ true = is in cc)

pub returns-clause-followed : goal.returns-clause-followed
returns-clause-followed c = c.loop-index.invariant.followed
