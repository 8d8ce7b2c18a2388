use Rattle.std.proofs.Common.{◌≡◌, ◌∙◌, ◌<◌, None, Some, IsSome, MatchOption, Option, false, true}
use Rattle.std.proofs.Common.{ap, arith, length, refl, sym, subst}
use Rattle.hv_propagation.specs.Completion.{Completes}
use Rattle.hv_propagation.specs.declared.completion.Completion.TheVariants as C
use Rattle.hv_propagation.specs.Working.Completion.{IsAssumed}
use Rattle.hv_propagation.specs.Marks.{known}
use Rattle.hv_propagation.specs.Trail.{marks_of}
use Rattle.hv_propagation.proofs.Chasing.{grows_then}
use Rattle.hv_propagation.proofs.Completing.{tried_both, tried_kept}
use Rattle.hv_propagation.proofs.Trailed.{length-marks}
use Rattle.hv_propagation.proofs.propagation.settle_within.Goals as goal

-- what was followed to its end has an answer
at_the_end : {X : Type 0} (found : Option X) (N M : Type 0) (P Q : X → Type 0) → IsSome found
    → ((x : X) → P x → Q x) → MatchOption found N P → MatchOption found M Q
at_the_end None N M P Q some then holds = (let is : false ≡ true = some in absurd cc)
at_the_end (Some x) N M P Q some then holds = then x holds

pub assume-requires-clause-over : goal.assume-requires-clause-over
assume-requires-clause-over g c = c.requires.over

pub assume-requires-clause-atom : goal.assume-requires-clause-atom
assume-requires-clause-atom g c = c.requires.atom

pub assume-requires-clause-open : goal.assume-requires-clause-open
assume-requires-clause-open g c = c.requires.open

pub assume-requires-clause-left : goal.assume-requires-clause-left
assume-requires-clause-left g c = c.requires.left

pub returns-in_default-clause-tried : goal.returns-in_default-clause-tried
returns-in_default-clause-tried g c = c.in_default.ensures.assumed

pub returns-then-kept-clause-tried : goal.returns-then-kept-clause-tried
returns-then-kept-clause-tried g c =
    let k = c.args.marks.now in
    let P = g.C.Constraint.admits c.args.constraint.now in
    let S = g.C.Constraint.settled c.args.constraint.now in
    tried_kept P S c.args.guess.atom c.args.guess.positive (marks_of k)
    (marks_of c.assume.new.marks)
    (subst (λ b. IsAssumed P S c.args.guess.atom c.args.guess.positive (marks_of k)
    (marks_of c.assume.new.marks) b) c.if-kept.true c.in-Some.ensures.assumed)

pub returns-then-kept-clause-end : goal.returns-then-kept-clause-end
returns-then-kept-clause-end g c = λ _. refl

pub assume-requires-2-clause-over : goal.assume-requires-2-clause-over
assume-requires-2-clause-over g c =
    subst (λ roots. g.C.Constraint.is_over c.args.constraint.now (length roots))
    (sym c.assume.ensures.grown.roots) c.requires.over

pub assume-requires-2-clause-atom : goal.assume-requires-2-clause-atom
assume-requires-2-clause-atom g c =
    subst (λ roots. c.args.guess.atom < length roots) (sym c.assume.ensures.grown.roots)
    c.requires.atom

pub assume-requires-2-clause-open : goal.assume-requires-2-clause-open
assume-requires-2-clause-open g c =
    let k = c.args.marks.now in
    let P = g.C.Constraint.admits c.args.constraint.now in
    let S = g.C.Constraint.settled c.args.constraint.now in
    let assumed = subst (λ b. IsAssumed P S c.args.guess.atom c.args.guess.positive (marks_of k)
    (marks_of c.assume.new.marks) b) c.if-kept.false c.in-Some.ensures.assumed in
    ap (λ marks. known marks c.args.guess.atom) (assumed.kept refl) ∙ c.requires.open

pub assume-requires-2-clause-left : goal.assume-requires-2-clause-left
assume-requires-2-clause-left g c = c.assume.ensures.left

pub returns-clause-tried : goal.returns-clause-tried
returns-clause-tried g c =
    let k = c.args.marks.now in
    let P = g.C.Constraint.admits c.args.constraint.now in
    let S = g.C.Constraint.settled c.args.constraint.now in
    at_the_end c.assume-2.result _ _ _ _ (c.assume-2.ensures.end refl)
    (λ result assumed. tried_both P S c.args.guess.atom c.args.guess.positive
    (marks_of k) (marks_of c.assume.new.marks) (marks_of c.assume-2.new.marks) result
    (subst (λ n. Completes C.Try P S n) (sym (length-marks k)) c.requires.completes)
    (g.met.C.Constraint.left_ends c.args.constraint.now k (length k.trail) (omega arith)
    c.requires.left)
    (subst (λ b. IsAssumed P S c.args.guess.atom c.args.guess.positive (marks_of k)
    (marks_of c.assume.new.marks) b) c.if-kept.false c.in-Some.ensures.assumed)
    assumed)
    c.assume-2.ensures.assumed

pub returns-clause-grown : goal.returns-clause-grown
returns-clause-grown g c = grows_then _ _ _ c.assume.ensures.grown c.assume-2.ensures.grown

pub returns-clause-left : goal.returns-clause-left
returns-clause-left g c = c.assume-2.ensures.left

pub returns-clause-end : goal.returns-clause-end
returns-clause-end g c = λ _. c.assume-2.ensures.end refl
