use Rattle.std.proofs.Common.{◌≡◌, [], Some, not, refl, subst, sym}
use Rattle.std.proofs.lemmas.Option.{get_or_from_slice_get}
use Rattle.std.specs.List.{All}
use Rattle.hv_propagation.specs.Units.{value_of}
use Rattle.hv_clauses.specs.Working.Posed.{formulas}
use Rattle.hv_propagation.specs.Trail.{marks_of}
use Rattle.hv_clauses.proofs.Deciding.{set_within}
use Rattle.hv_clauses.proofs.RefutedChoices.{refuted_framed, refuted_known}
use Rattle.hv_clauses.proofs.refuted.is_clause_true.Goals as goal

pub set-requires : goal.set-requires
set-requires g c =
    set_within c.args.problem.now c.args.operand.which _ c.args.place c.in-Set.is c.requires

pub returns-then-has_true : goal.returns-then-has_true
returns-then-has_true g c = λ _ state size agrees inside broken.
    let p = c.args.problem.now in
    refuted_known p.task (formulas p) p.effect c.args.operand.which
    c.in-Set.number c.args.place c.in-Set.is
    _ c.clauses.result.now c.get-clause.result.now c.get-clause.result.now c.set.ensures.clauses
    c.clauses.ensures.clauses
    (sym (get_or_from_slice_get c.clauses.result.now c.args.place c.get-clause.result.now
    c.get-clause.result.now c.get-clause.ensures)) refl
    c.requires c.args.operand.after c.seen-seen.result (marks_of c.args.marks.now) _ _ state
    c.seen-seen.ensures c.clauses.ensures.below c.set.ensures.atoms size
    (c.has_true.ensures.yes c.if-has_true.true) agrees broken

pub returns-then-has_true-2 : goal.returns-then-has_true-2
returns-then-has_true-2 g c = λ _ state size agrees inside broken.
    let p = c.args.problem.now in
    refuted_known p.task (formulas p) p.effect c.args.operand.which
    c.in-Set.number c.args.place c.in-Set.is
    _ c.clauses.result.now c.get-clause.result.now c.get-clause.result.now c.set.ensures.clauses
    c.clauses.ensures.clauses
    (sym (get_or_from_slice_get c.clauses.result.now c.args.place c.get-clause.result.now
    c.get-clause.result.now c.get-clause.ensures)) refl
    c.requires c.args.operand.after c.seen-seen.result (marks_of c.args.marks.now) _ _ state
    c.seen-seen.ensures c.clauses.ensures.below c.set.ensures.atoms size
    (c.has_true-then-clause-gt-SHORT.ensures.yes c.if-has_true-2.true) agrees broken

pub returns : goal.returns
returns g c = λ e state size agrees inside broken.
    let p = c.args.problem.now in
    refuted_framed p.task (formulas p) p.effect c.args.operand.which
    c.in-Set.number c.args.place c.in-Set.is
    _ c.clauses.result.now c.get-clause.result.now c.get-clause.result.now c.set.ensures.clauses
    c.clauses.ensures.clauses
    (sym (get_or_from_slice_get c.clauses.result.now c.args.place c.get-clause.result.now
    c.get-clause.result.now c.get-clause.ensures)) refl
    c.requires c.args.operand.after p.query.positive state (c.if-not-names.ensures.0 refl)
    (subst (λ e. All (λ l. value_of e [] l ≡ Some (not c.args.operand.after) → ⊥)
    c.get-clause.result.now) c.effect.ensures (c.is_held.ensures e)) inside broken
