use Rattle.std.proofs.Common.{◌≡◌, ◌<◌, ◌∙◌, ℕ, List, Some, true, not, length, get_or, refl, sym}
use Rattle.std.proofs.Common.{ap, arith, below_more, subst, Bool}
use Rattle.std.specs.List.{Contains}
use Rattle.std.proofs.lemmas.List.{get_or_default}
use Rattle.hv_sets.specs.Truth.{in_clauses}
use Rattle.hv_propagation.specs.Chase.{IsKept}
use Rattle.hv_propagation.specs.Forced.{AreForced}
use Rattle.hv_indexes.specs.Places.{clause_at}
use Rattle.hv_propagation.specs.Clauses.{AreClauses}
use Rattle.hv_propagation.specs.Marks.{known, over}
use Rattle.hv_indexes.specs.Signed.{StandsAs}
use Rattle.hv_propagation.proofs.Chasing.{followed_then}
use Rattle.hv_propagation.specs.Working.Laws.{kept_on}
use Rattle.hv_propagation.proofs.falsified.start_value.Goals as goal

pub start_literal-requires-clause-clauses : goal.start_literal-requires-clause-clauses
start_literal-requires-clause-clauses c =
    subst (λ n. AreClauses n c.args.clauses.now)
    (sym (ap length c.loop-atom.invariant.followed.roots)) c.requires.clauses

pub start_literal-requires-clause-forced : goal.start_literal-requires-clause-forced
start_literal-requires-clause-forced c =
    subst (λ n. AreForced n c.args.clauses.now c.args.forced.now)
    (sym (ap length c.loop-atom.invariant.followed.roots)) c.requires.forced

pub returns-then-not-start_literal-clause-followed :
    goal.returns-then-not-start_literal-clause-followed
returns-then-not-start_literal-clause-followed c =
    let P : List Bool → Type 0 = λ state. in_clauses c.args.clauses.now
    (over c.args.effect.now state) ≡ true in
    followed_then P P _ _ _ _ (λ s size holds. holds) c.loop-atom.invariant.followed
    c.if-not-start_literal.ensures.followed

pub loop-atom-preserved : goal.loop-atom-preserved
loop-atom-preserved c =
    let e = c.args.effect.now in
    let clauses = c.args.clauses.now in
    let turned = c.turned-turned.result.now in
    let step = c.if-not-start_literal.ensures.followed in
    let P : List Bool → Type 0 = λ state. in_clauses clauses (over e state) ≡ true in
    record {
      followed = followed_then P P _ _ _ _ (λ s size holds. holds) c.loop-atom.invariant.followed
          step;
      seen = below_more (λ k. known e (get_or turned k 0) ≡ Some c.args.value → (place : ℕ)
          → StandsAs (not c.args.value) clauses (get_or turned k 0) place
          → IsKept e (clause_at clauses place) c.start_literal.new.marks 0) c.loop-atom.atom-index
          (λ k less made place stands. kept_on e (clause_at clauses place) c.loop-atom.marks
          c.start_literal.new.marks 0 step.roots step.more (omega arith)
          (c.loop-atom.invariant.seen k less made place stands))
          (λ made place stands. c.if-not-start_literal.ensures.kept refl c.args.value made refl
          place stands);
    }

pub returns-clause-kept : goal.returns-clause-kept
returns-clause-kept c = λ is place l less has is_known sign.
    let turned = c.turned-turned.result.now in
    let at = c.turned-turned.ensures l.atom is_known in
    let end = c.loop-atom-test.false in
    let within : at.0 < length turned = at.1 in
    let here : get_or turned at.0 0 ≡ l.atom = get_or_default turned at.0 0 l.atom within ∙ at.2 in
    c.loop-atom.invariant.seen at.0 (omega arith)
    (subst (λ a. known c.args.effect.now a ≡ Some c.args.value) (sym here) is_known) place (record {
      among = less;
      has = subst (λ a. Contains (clause_at c.args.clauses.now place)
          (record { atom = a; positive = not c.args.value })) (sym here)
          (subst (λ (s : Bool). Contains (clause_at c.args.clauses.now place)
          (record { atom = l.atom; positive = s })) sign has);
    })
