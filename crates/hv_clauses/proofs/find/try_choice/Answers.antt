use Rattle.std.proofs.Common.{◌≡◌, ◌∙◌, true, false, Bool, List, ℕ, length, refl, sym, ap, arith}
use Rattle.std.proofs.Common.{subst}
use Rattle.hv_propagation.specs.Chase.{IsFollowed}
use Rattle.hv_propagation.specs.Completion.{Completes}
use Rattle.hv_clauses.specs.Working.Posed.{InEach}
use Rattle.hv_clauses.specs.Working.Laws.{all_stay}
use Rattle.hv_clauses.specs.Working.Problem.{AreEachSettled, AreLeft}
use Rattle.hv_propagation.specs.Trail.{Knowledge, marks_of}
use Rattle.hv_propagation.specs.Units.{IsConcluded}
use Rattle.hv_propagation.proofs.Chasing.{grown_by, grows_then}
use Rattle.hv_clauses.proofs.Deciding.{completed, not_closed, not_denied}
use Rattle.hv_propagation.proofs.Trailed.{length-marks}
use Rattle.hv_clauses.proofs.find.try_choice.Goals as goal

-- what was followed up, as a conclusion
concluded_from : (P : List Bool → Type 0) (D : List ℕ → Type 0) (a b : Knowledge) (r : Bool)
    → IsFollowed P a b r → (r ≡ true → D (marks_of b))
    → IsConcluded P D (marks_of a) (marks_of b) r
concluded_from P D a b r one done = record {
  size = length-marks b ∙ (ap length one.roots ∙ sym (length-marks a));
  grows = one.grows;
  follows = λ state size holds agrees. one.follows state (size ∙ length-marks a) holds agrees;
  broken = λ is state size holds agrees. one.broken is state (size ∙ length-marks a) holds agrees;
  done = done;
}

pub returns-then-not-deny_all-clause-met : goal.returns-then-not-deny_all-clause-met
returns-then-not-deny_all-clause-met g c =
    let k = c.args.marks.now in
    not_denied c.args.problem.now c.args.number (marks_of k) (marks_of c.deny_all.new.marks)
    c.requires.rooted.roots (length-marks k ∙ c.requires.rooted.wide) c.args.state.now
    c.if-not-deny_all.ensures.denied

pub close-requires-clause-over : goal.close-requires-clause-over
close-requires-clause-over g c =
    ap length c.if-not-deny_all.ensures.grown.roots ∙ c.requires.rooted.wide

pub close-requires-clause-left : goal.close-requires-clause-left
close-requires-clause-left g c =
    subst (λ n. AreLeft c.args.problem.now c.deny_all.new.marks n) (sym c.len-point.ensures.len)
    (all_stay c.args.problem.now c.args.marks.now c.deny_all.new.marks
    (length c.args.marks.now.trail) c.if-not-deny_all.ensures.grown (omega arith)
    c.requires.rooted.left)

pub returns-then-not-close-clause-met : goal.returns-then-not-close-clause-met
returns-then-not-close-clause-met g c =
    let p = c.args.problem.now in
    let k = c.args.marks.now in
    not_closed p c.args.number (marks_of k) (marks_of c.deny_all.new.marks)
    c.requires.rooted.roots (length-marks k ∙ c.requires.rooted.wide)
    c.if-not-deny_all.ensures.denied (marks_of c.close.new.marks) (AreEachSettled p)
    c.args.state.now
    (concluded_from (InEach p) (AreEachSettled p) c.deny_all.new.marks c.close.new.marks false
    c.if-not-close.ensures.followed (λ e. absurd cc))

pub returns-then-not-close-clause-grown : goal.returns-then-not-close-clause-grown
returns-then-not-close-clause-grown g c = grows_then _ _ _ c.if-not-deny_all.ensures.grown
    (grown_by _ _ _ _ c.if-not-close.ensures.followed)

-- how many atoms what is known speaks of at the end
wide_after : (a b d : Knowledge) (n : ℕ) → b.roots ≡ a.roots → d.roots ≡ b.roots
    → length a.roots ≡ n → length d.roots ≡ n
wide_after a b d n first second wide = ap length second ∙ (ap length first ∙ wide)

pub complete-requires-clause-over : goal.complete-requires-clause-over
complete-requires-clause-over g c = wide_after c.args.marks.now c.deny_all.new.marks
    c.close.new.marks _ c.if-not-deny_all.ensures.grown.roots c.if-not-close.ensures.followed.roots
    c.requires.rooted.wide

pub complete-requires-clause-state : goal.complete-requires-clause-state
complete-requires-clause-state g c = c.requires.state ∙ sym (wide_after c.args.marks.now
    c.deny_all.new.marks c.close.new.marks _ c.if-not-deny_all.ensures.grown.roots
    c.if-not-close.ensures.followed.roots c.requires.rooted.wide)

pub complete-requires-clause-left : goal.complete-requires-clause-left
complete-requires-clause-left g c = c.if-not-close.ensures.left refl

pub complete-requires-clause-completes : goal.complete-requires-clause-completes
complete-requires-clause-completes g c =
    let p = c.args.problem.now in
    subst (λ n. Completes c.completion-how.result (InEach p) (AreEachSettled p) n)
    (sym (wide_after c.args.marks.now c.deny_all.new.marks c.close.new.marks _
    c.if-not-deny_all.ensures.grown.roots c.if-not-close.ensures.followed.roots
    c.requires.rooted.wide)) c.completion-how.ensures.completes

pub returns-clause-met : goal.returns-clause-met
returns-clause-met g c =
    let p = c.args.problem.now in
    let k = c.args.marks.now in
    completed p c.args.number (marks_of k) (marks_of c.deny_all.new.marks)
    c.requires.rooted.roots (length-marks k ∙ c.requires.rooted.wide)
    c.if-not-deny_all.ensures.denied (marks_of c.close.new.marks) (AreEachSettled p)
    c.complete.result c.complete.new.state
    (concluded_from (InEach p) (AreEachSettled p) c.deny_all.new.marks c.close.new.marks true
    c.if-not-close.ensures.followed (λ _. c.if-not-close.ensures.settled refl))
    (c.complete.ensures.state ∙ c.requires.state) c.completion-how.ensures.wide
    c.complete.ensures.completed

pub returns-clause-grown : goal.returns-clause-grown
returns-clause-grown g c =
    grows_then _ _ _ c.if-not-deny_all.ensures.grown
    (grows_then _ _ _ (grown_by _ _ _ _ c.if-not-close.ensures.followed)
    c.complete.ensures.grown)
