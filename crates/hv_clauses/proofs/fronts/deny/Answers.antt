use Rattle.std.proofs.Common.{◌≡◌, ◌∙◌, true, false, length, refl, sym, ap, arith, subst}
use Rattle.hv_clauses.specs.Working.Laws.{all_stay}
use Rattle.hv_clauses.specs.Working.Problem.{AreLeft}
use Rattle.hv_propagation.specs.Trail.{marks_of}
use Rattle.hv_propagation.proofs.Chasing.{grown_by, grows_then}
use Rattle.hv_propagation.proofs.Marked.{AreFalse_extends}
use Rattle.hv_propagation.proofs.Trailed.{length-marks}
use Rattle.hv_clauses.proofs.fronts.deny.Goals as goal

pub close-requires-clause-over : goal.close-requires-clause-over
close-requires-clause-over g c =
    ap length c.if-not-deny_clause.ensures.grown.roots ∙ c.requires.wide

pub close-requires-clause-left : goal.close-requires-clause-left
close-requires-clause-left g c =
    let p = c.args.problem.now in
    subst (λ n. AreLeft p c.deny_clause.new.marks n) (sym c.len-point.ensures.len)
    (all_stay c.args.problem.now c.args.marks.now c.deny_clause.new.marks
    (length c.args.marks.now.trail) c.if-not-deny_clause.ensures.grown (omega arith)
    c.requires.left)

pub returns-then-not-deny_clause-clause-follows : goal.returns-then-not-deny_clause-clause-follows
returns-then-not-deny_clause-clause-follows g c = λ state size inside misses agrees.
    let k = c.args.marks.now in
    c.if-not-deny_clause.ensures.denied.follows state
    (size ∙ sym (length-marks k ∙ c.requires.wide)) misses agrees

pub returns-then-not-deny_clause-clause-never : goal.returns-then-not-deny_clause-clause-never
returns-then-not-deny_clause-clause-never g c = λ _ state size inside misses agrees.
    let k = c.args.marks.now in
    c.if-not-deny_clause.ensures.denied.broken refl state
    (size ∙ sym (length-marks k ∙ c.requires.wide)) misses agrees

pub returns-clause-follows : goal.returns-clause-follows
returns-clause-follows g c = λ state size inside misses agrees.
    let k = c.args.marks.now in
    c.close.ensures.followed.follows state
    (size ∙ sym (ap length c.if-not-deny_clause.ensures.grown.roots ∙ c.requires.wide)) inside
    (c.if-not-deny_clause.ensures.denied.follows state
    (size ∙ sym (length-marks k ∙ c.requires.wide)) misses agrees)

pub returns-clause-never : goal.returns-clause-never
returns-clause-never g c = λ is state size inside misses agrees.
    let k = c.args.marks.now in
    c.close.ensures.followed.broken is state
    (size ∙ sym (ap length c.if-not-deny_clause.ensures.grown.roots ∙ c.requires.wide)) inside
    (c.if-not-deny_clause.ensures.denied.follows state
    (size ∙ sym (length-marks k ∙ c.requires.wide)) misses agrees)

pub returns-clause-denied : goal.returns-clause-denied
returns-clause-denied g c = λ is.
    AreFalse_extends _ _ (marks_of c.deny_clause.new.marks) (marks_of c.close.new.marks)
    c.close.ensures.followed.grows (c.if-not-deny_clause.ensures.denied.done refl)

pub returns-clause-grown : goal.returns-clause-grown
returns-clause-grown g c = grows_then _ _ _ c.if-not-deny_clause.ensures.grown
    (grown_by _ _ _ _ c.close.ensures.followed)

pub deny_clause-requires-clause-place : goal.deny_clause-requires-clause-place
deny_clause-requires-clause-place g c = c.requires.digit

pub deny_clause-requires-clause-size : goal.deny_clause-requires-clause-size
deny_clause-requires-clause-size g c = c.requires.wide

pub returns-then-not-deny_clause-clause-denied : goal.returns-then-not-deny_clause-clause-denied
returns-then-not-deny_clause-clause-denied g c = λ yes.
    let f : false ≡ true = yes in absurd cc

pub returns-then-not-deny_clause-clause-left : goal.returns-then-not-deny_clause-clause-left
returns-then-not-deny_clause-clause-left g c = λ yes. let f : false ≡ true = yes in absurd cc

pub returns-then-not-deny_clause-clause-grown : goal.returns-then-not-deny_clause-clause-grown
returns-then-not-deny_clause-clause-grown g c = c.if-not-deny_clause.ensures.grown

pub returns-clause-left : goal.returns-clause-left
returns-clause-left g c = c.close.ensures.left
