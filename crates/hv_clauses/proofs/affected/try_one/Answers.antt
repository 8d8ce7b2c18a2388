use Rattle.std.proofs.Common.{◌≡◌, ◌<◌, ◌∙◌, [], arith, Some, true, get_or}
use Rattle.std.proofs.Common.{List, length, sym, subst}
use Rattle.hv_sets.specs.declared.literal.Literal.{Literal}
use Rattle.hv_sets.specs.Cubes.{SpeakBelow}
use Rattle.hv_indexes.specs.Places.{clause_at}
use Rattle.hv_clauses.specs.Working.Affected.{HasTrue}
use Rattle.hv_propagation.specs.Effect.{late}
use Rattle.hv_indexes.specs.Occurrences.{IsIndexOf, entry_or_none, literal_of}
use Rattle.hv_clauses.specs.Working.Posed.{choices, formulas}
use Rattle.hv_propagation.specs.Trail.{marks_of}
use Rattle.hv_propagation.specs.Units.{value_of}
use Rattle.hv_indexes.proofs.Standings.{inside_at}
use Rattle.hv_clauses.proofs.AffectedChoices.{choices_are, known_none}
use Rattle.hv_propagation.proofs.Trailed.{length-marks}
use Rattle.hv_clauses.proofs.affected.try_one.Goals as goal

pub returns-then-is_true-clause-met : goal.returns-then-is_true-clause-met
returns-then-is_true-clause-met g c = λ state size fits.
    let p = c.args.problem.now in
    let t = c.args.touched.now in
    let k = c.args.marks.now in
    let standing = c.args.standing.now in
    let index = c.args.index in
    let place = get_or standing.places.now index 0 in
    let r = c.requires.touched in
    let found = c.is_true.ensures c.if-is_true.true in
    let clause = clause_at (formulas p t.number) place in
    let within = inside_at (formulas p t.number) standing c.requires.standing index
    c.requires.index in
    let less : place < choices p =
    omega (arith, within, choices_are p t.operand t.number r.asked_twice r.which) in
    let pair = (c.requires.standing.partners index c.requires.index).pair found.0 in
    let entry = entry_or_none standing.entries.now index in
    let value = subst (λ e. value_of e (marks_of k) (literal_of entry) ≡ Some true)
    c.seen-seen.ensures found.1 in
    let agrees = c.requires.rooted.roots.follows state
    (size ∙ sym (length-marks k ∙ c.requires.rooted.wide)) fits.applies fits.inside in
    known_none p t.operand t.number r.asked_twice r.which (marks_of k) place state less
    (subst (λ n. SpeakBelow n clause) (sym size) (r.below place [] within))
    (literal_of entry, pair.has_second, value) agrees
    fits

pub decide-requires-clause-number : goal.decide-requires-clause-number
decide-requires-clause-number g c =
    let p = c.args.problem.now in
    let t = c.args.touched.now in
    let r = c.requires.touched in
    let within = inside_at (formulas p t.number) c.args.standing.now
    c.requires.standing c.args.index c.requires.index in
    omega (arith, within, choices_are p t.operand t.number r.asked_twice r.which)

pub is_held-requires-clause-index : goal.is_held-requires-clause-index
is_held-requires-clause-index g c =
    let t = c.args.touched.now in
    subst (λ cs. IsIndexOf cs t.occurs.now) (sym c.requires.touched.clauses)
    c.requires.touched.index

pub is_held-requires-clause-place : goal.is_held-requires-clause-place
is_held-requires-clause-place g c =
    let p = c.args.problem.now in
    let t = c.args.touched.now in
    subst (λ (cs : List (List Literal)). get_or c.args.standing.now.places.now c.args.index 0
    < length cs)
    (sym c.requires.touched.clauses)
    (inside_at (formulas p t.number) c.args.standing.now c.requires.standing c.args.index
    c.requires.index)

pub returns-then-is_held-clause-met : goal.returns-then-is_held-clause-met
returns-then-is_held-clause-met g c = λ state size fits.
    let p = c.args.problem.now in
    let t = c.args.touched.now in
    let k = c.args.marks.now in
    let standing = c.args.standing.now in
    let place = get_or standing.places.now c.args.index 0 in
    let r = c.requires.touched in
    let clause = clause_at (formulas p t.number) place in
    let within = inside_at (formulas p t.number) standing c.requires.standing c.args.index
    c.requires.index in
    let less : place < choices p =
    omega (arith, within, choices_are p t.operand t.number r.asked_twice r.which) in
    let found = subst (λ (cs : List (List Literal)).
    HasTrue (late p.effect t.operand.after) (marks_of k) (clause_at cs place)) r.clauses
    (subst (λ e. HasTrue e (marks_of k) (clause_at t.clauses.now place)) c.seen-seen.ensures
    (c.is_held.ensures c.if-is_held.true)) in
    let agrees = c.requires.rooted.roots.follows state
    (size ∙ sym (length-marks k ∙ c.requires.rooted.wide)) fits.applies fits.inside in
    known_none p t.operand t.number r.asked_twice r.which (marks_of k) place state less
    (subst (λ n. SpeakBelow n clause) (sym size) (r.below place [] within)) found agrees fits
