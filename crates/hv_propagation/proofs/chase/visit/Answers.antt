use Rattle.std.proofs.Common.{◌≡◌, ◌+◌, ◌∙◌, Bool, Option, None, Some, true, false, not, length, ap}
use Rattle.std.proofs.Common.{arith, sym, subst, refl}
use Rattle.std.proofs.lemmas.Option.{get_or_from_slice_get}
use Rattle.std.proofs.Math.Bool.{beq}
use Rattle.std.specs.Option.{option_eq}
use Rattle.hv_sets.specs.declared.literal.Literal.{Literal}
use Rattle.hv_indexes.specs.Rows.{IsRow}
use Rattle.hv_indexes.specs.Signed.{StandsAs}
use Rattle.hv_indexes.specs.Places.{clause_at}
use Rattle.hv_propagation.specs.Trail.{marks_of}
use Rattle.hv_propagation.specs.Units.{value_of}
use Rattle.hv_propagation.proofs.PartnerEntries.{kept_sooner, kept_true}
use Rattle.hv_propagation.proofs.Chasing.{grown_by, kept_beyond, kept_next, longer}
use Rattle.hv_propagation.specs.Working.Laws.{kept_grown}
use Rattle.hv_propagation.proofs.Chasing.{read_on}
use Rattle.hv_propagation.proofs.Rounds.{never}
use Rattle.hv_propagation.proofs.chase.visit.Goals as goal

pub returns-then-stands_nowhere-clause-kept : goal.returns-then-stands_nowhere-clause-kept
returns-then-stands_nowhere-clause-kept c = λ is.
    let clauses = c.args.clauses.now in
    let m = c.args.marks.now in
    let literal = c.get-literal.result in
    kept_beyond c.args.effect.now clauses m c.args.from literal c.requires.from
    (get_or_from_slice_get m.trail c.args.from literal literal c.get-literal.ensures.here)
    c.requires.kept
    (λ place less has. absurd (c.stands_nowhere.ensures c.if-stands_nowhere.true clauses
    c.requires.index literal.atom place (record { among = less; has = has })))

pub returns-then-ne-clause-kept : goal.returns-then-ne-clause-kept
returns-then-ne-clause-kept c = λ is.
    let m = c.args.marks.now in
    let literal = c.get-literal.result in
    kept_true c.args.effect.now c.args.clauses.now m c.args.from literal c.requires.from
    (get_or_from_slice_get m.trail c.args.from literal literal c.get-literal.ensures.here)
    c.get-literal.ensures.below c.requires.kept
    (λ out.
    let value = c.value_behind.ensures literal c.get-literal.ensures.here ∙ out in
    never (sym c.if-ne.true ∙ (c.ne.ensures ∙ ap (λ v. not (option_eq beq v (Some false))) value)))

-- an answer that isn't another one
is_false : (o : Option Bool) → not (option_eq beq o (Some false)) ≡ false → o ≡ Some false
is_false None h = absurd cc
is_false (Some true) h = absurd cc
is_false (Some false) h = refl

pub visit_all-requires-clause-out : goal.visit_all-requires-clause-out
visit_all-requires-clause-out c =
    let literal = c.get-literal.result in
    ap (value_of c.args.effect.now (marks_of c.args.marks.now)) c.standing-standing.ensures.literal
    ∙ (sym (c.value_behind.ensures literal c.get-literal.ensures.here)
    ∙ is_false _ (sym c.ne.ensures ∙ c.if-ne.false))

pub standing-standing-requires : goal.standing-standing-requires
standing-standing-requires c = (c.args.clauses.now, c.requires.index)

pub visit_all-requires-clause-standing : goal.visit_all-requires-clause-standing
visit_all-requires-clause-standing c =
    c.standing-standing.ensures.standing c.args.clauses.now c.requires.index

pub returns-clause-kept : goal.returns-clause-kept
returns-clause-kept c = λ is.
    let e = c.args.effect.now in
    let clauses = c.args.clauses.now in
    let places = c.standing-standing.result.places.now in
    let old = c.args.marks.now in
    let new = c.visit_all.new.marks in
    let from = c.args.from in
    let followed = c.visit_all.ensures.followed in
    let grown = grown_by _ old new c.visit_all.result followed in
    let more = longer _ _ _ _ followed in
    let less = c.requires.from in
    let literal = c.get-literal.result in
    kept_next e clauses places new from literal (omega arith)
    (read_on old.trail new.trail followed.more.0 from literal less followed.more.1
    c.get-literal.ensures.here)
    (kept_grown e clauses old new from grown (omega arith) c.requires.kept)
    (subst (λ (l : Literal). IsRow (StandsAs l.positive clauses) l.atom places)
    c.standing-standing.ensures.literal
    (c.standing-standing.ensures.standing clauses c.requires.index).row)
    (λ place has. kept_sooner e (clause_at clauses place) new (from + 1) (length old.trail)
    (omega arith) more (c.visit_all.ensures.kept is place has))
