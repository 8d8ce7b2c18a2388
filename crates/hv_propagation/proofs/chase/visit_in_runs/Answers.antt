use Rattle.std.proofs.Common.{◌≡◌, ◌<◌, ◌∙◌, ℕ, Bool, true, false, List, None, length}
use Rattle.std.proofs.Common.{get_or, refl, arith, below_more, inl, inr, subst}
use Rattle.std.proofs.lemmas.Bool.{cases_lt, not-false, not-true}
use Rattle.std.proofs.lemmas.List.{get_or_default}
use Rattle.hv_sets.specs.declared.literal.Literal.{Literal}
use Rattle.hv_sets.specs.Truth.{in_clauses}
use Rattle.hv_indexes.specs.declared.occurrences.Standing.{Standing}
use Rattle.hv_indexes.specs.Occurrences.{AreStanding}
use Rattle.hv_indexes.specs.Places.{clause_at}
use Rattle.hv_propagation.specs.Chase.{IsFollowed, IsKept}
use Rattle.hv_propagation.specs.Marks.{known, over}
use Rattle.hv_propagation.specs.Trail.{Knowledge, marks_of}
use Rattle.hv_propagation.specs.Working.FoundRun.{AreKnownEntries}
use Rattle.hv_propagation.proofs.Chasing.{followed_none, followed_then, longer}
use Rattle.hv_propagation.specs.Working.Laws.{kept_on}
use Rattle.hv_propagation.proofs.FoundRuns.{entry_settled}
use Rattle.hv_propagation.proofs.chase.visit_in_runs.Goals as goal

-- what follows in two parts
followed_both : (e : List ℕ) (clauses : List (List Literal)) (a b c : Knowledge) (holds : Bool)
    → IsFollowed (λ s. in_clauses clauses (over e s) ≡ true) a b true
    → IsFollowed (λ s. in_clauses clauses (over e s) ≡ true) b c holds
    → IsFollowed (λ s. in_clauses clauses (over e s) ≡ true) a c holds
followed_both e clauses a b c holds one other =
    followed_then (λ s. in_clauses clauses (over e s) ≡ true)
    (λ s. in_clauses clauses (over e s) ≡ true) a b c holds (λ state size is. is) one other

-- the clauses that a run went through are seen to, and so are those before
seen_on : (e : List ℕ) (clauses : List (List Literal)) (standing : Standing) (a b c : Knowledge)
    (index upto : ℕ) → ((p : ℕ) → known e p ≡ None) → AreStanding clauses standing
    → IsFollowed (λ s. in_clauses clauses (over e s) ≡ true) a b true
    → IsFollowed (λ s. in_clauses clauses (over e s) ≡ true) b c true
    → ((k : ℕ) → k < index → k < length standing.places.now
    → IsKept e (clause_at clauses (get_or standing.places.now k 0)) b (length a.trail))
    → AreKnownEntries (marks_of c) standing.entries.now index upto
    → (k : ℕ) → k < upto → k < length standing.places.now
    → IsKept e (clause_at clauses (get_or standing.places.now k 0)) c (length a.trail)
seen_on e clauses standing a b c index upto nothing are first second seen found k less within =
    elim (cases_lt k index) [
      | inl early ↦ kept_on e (clause_at clauses (get_or standing.places.now k 0)) b c
          (length a.trail) second.roots second.more
          (longer (λ s. in_clauses clauses (over e s) ≡ true) a b true first) (seen k early within)
      | inr late ↦ λ apart. entry_settled e (marks_of c) clauses standing k nothing are within
          (found k late less)
    ]

pub returns-then-not-run-clause-followed : goal.returns-then-not-run-clause-followed
returns-then-not-run-clause-followed c =
    followed_both c.args.effect.now c.args.clauses.now c.args.marks.now c.loop-index.marks
    c.visit_run-run.new.marks false c.loop-index.invariant.followed
    (subst (λ (holds : Bool). IsFollowed (λ s. in_clauses c.args.clauses.now
    (over c.args.effect.now s) ≡ true) c.loop-index.marks c.visit_run-run.new.marks holds)
    (not-true _ c.if-not-run.true) c.visit_run-run.ensures.followed)

pub returns-then-run-standing-clause-followed : goal.returns-then-run-standing-clause-followed
returns-then-run-standing-clause-followed c =
    followed_both c.args.effect.now c.args.clauses.now c.args.marks.now c.loop-index.marks
    c.visit_run-run.new.marks true c.loop-index.invariant.followed
    (subst (λ (holds : Bool). IsFollowed (λ s. in_clauses c.args.clauses.now
    (over c.args.effect.now s) ≡ true) c.loop-index.marks c.visit_run-run.new.marks holds)
    (not-false _ c.if-not-run.false) c.visit_run-run.ensures.followed)

pub returns-then-run-standing-clause-kept : goal.returns-then-run-standing-clause-kept
returns-then-run-standing-clause-kept c = λ is place has.
    let places = c.args.standing.now.places.now in
    let within : has.0 < length places = has.1 in
    let end = c.if-run-standing.true in
    let second = subst (λ (holds : Bool). IsFollowed (λ s. in_clauses c.args.clauses.now
    (over c.args.effect.now s) ≡ true) c.loop-index.marks c.visit_run-run.new.marks holds)
    (not-false _ c.if-not-run.false) c.visit_run-run.ensures.followed in
    subst (λ x. IsKept c.args.effect.now (clause_at c.args.clauses.now x) c.visit_run-run.new.marks
    (length c.args.marks.now.trail))
    (get_or_default places has.0 0 place within ∙ has.2)
    (seen_on c.args.effect.now c.args.clauses.now c.args.standing.now c.args.marks.now
    c.loop-index.marks c.visit_run-run.new.marks c.loop-index.index c.visit_run-run.result.index
    c.requires.nothing c.requires.standing c.loop-index.invariant.followed second
    c.loop-index.invariant.seen
    (c.visit_run-run.ensures.known (not-false _ c.if-not-run.false)) has.0 (omega arith) within)

pub returns-then-not-visit_one-clause-followed : goal.returns-then-not-visit_one-clause-followed
returns-then-not-visit_one-clause-followed c =
    let e = c.args.effect.now in
    let clauses = c.args.clauses.now in
    let second = subst (λ (holds : Bool). IsFollowed (λ s. in_clauses clauses (over e s) ≡ true)
    c.loop-index.marks c.visit_run-run.new.marks holds)
    (not-false _ c.if-not-run.false) c.visit_run-run.ensures.followed in
    followed_both e clauses c.args.marks.now c.visit_run-run.new.marks c.visit_one.new.marks false
    (followed_both e clauses c.args.marks.now c.loop-index.marks c.visit_run-run.new.marks true
    c.loop-index.invariant.followed second) c.if-not-visit_one.ensures.followed

pub loop-index-preserved : goal.loop-index-preserved
loop-index-preserved c =
    let e = c.args.effect.now in
    let clauses = c.args.clauses.now in
    let places = c.args.standing.now.places.now in
    let from = length c.args.marks.now.trail in
    let mid = c.visit_run-run.new.marks in
    let new = c.visit_one.new.marks in
    let second = subst (λ (holds : Bool). IsFollowed (λ s. in_clauses clauses (over e s) ≡ true)
    c.loop-index.marks mid holds) (not-false _ c.if-not-run.false)
    c.visit_run-run.ensures.followed in
    let both = followed_both e clauses c.args.marks.now c.loop-index.marks mid true
    c.loop-index.invariant.followed second in
    let step = c.if-not-visit_one.ensures.followed in
    let Seen : ℕ → Type 0 = λ k. k < length places
    → IsKept e (clause_at clauses (get_or places k 0)) new from in
    record {
      followed = followed_both e clauses c.args.marks.now mid new true both step;
      seen = below_more Seen c.visit_run-run.result.index
          (λ j before within. kept_on e (clause_at clauses (get_or places j 0)) mid new from
          step.roots step.more (longer (λ s. in_clauses clauses (over e s) ≡ true) c.args.marks.now
          mid true both)
          (seen_on e clauses c.args.standing.now c.args.marks.now c.loop-index.marks mid
          c.loop-index.index c.visit_run-run.result.index c.requires.nothing c.requires.standing
          c.loop-index.invariant.followed second c.loop-index.invariant.seen
          (c.visit_run-run.ensures.known (not-false _ c.if-not-run.false)) j before within))
          (λ within apart. c.if-not-visit_one.ensures.settled refl);
    }

pub returns-clause-kept : goal.returns-clause-kept
returns-clause-kept c = λ is place has.
    let end = c.loop-index-test.false in
    let within : has.0 < length c.args.standing.now.places.now = has.1 in
    subst (λ x. IsKept c.args.effect.now (clause_at c.args.clauses.now x) c.loop-index.marks
    (length c.args.marks.now.trail))
    (get_or_default c.args.standing.now.places.now has.0 0 place within ∙ has.2)
    (c.loop-index.invariant.seen has.0 (omega arith) within)

pub loop-index-init : goal.loop-index-init
loop-index-init c = record {
  followed = followed_none (λ s. in_clauses c.args.clauses.now (over c.args.effect.now s) ≡ true)
      c.args.marks.now;
  seen = λ k less. absurd (omega (arith, less));
}

pub returns-then-not-run-clause-kept : goal.returns-then-not-run-clause-kept
returns-then-not-run-clause-kept c = λ is. absurd (let f : false ≡ true = is in cc)

pub returns-then-not-visit_one-clause-kept : goal.returns-then-not-visit_one-clause-kept
returns-then-not-visit_one-clause-kept c = λ is. absurd (let f : false ≡ true = is in cc)

pub returns-clause-followed : goal.returns-clause-followed
returns-clause-followed c = c.loop-index.invariant.followed
