use Rattle.std.proofs.Common.{◌≡◌, ◌<◌, [], Some, false, length, get_or, sym, arith, subst, true}
use Rattle.std.proofs.lemmas.List.Elements.{All-contains, Contains-get_or}
use Rattle.hv_sets.specs.declared.literal.Literal.{Literal}
use Rattle.hv_sets.specs.Truth.{in_clauses}
use Rattle.hv_indexes.specs.Places.{clause_at}
use Rattle.hv_propagation.specs.Marks.{known, over}
use Rattle.hv_indexes.specs.Signed.{StandsAs}
use Rattle.hv_propagation.specs.Trail.{marked, marks_of}
use Rattle.hv_propagation.specs.Units.{value_of}
use Rattle.hv_propagation.proofs.PartnerEntries.{kept_sooner}
use Rattle.hv_propagation.proofs.Chasing.{followed_none, longer}
use Rattle.hv_propagation.proofs.Untouched.{followed_forced, value_made}
use Rattle.hv_propagation.proofs.falsified.start_literal.Goals as goal

pub standing-standing-requires : goal.standing-standing-requires
standing-standing-requires c = (c.args.clauses.now, c.requires.index)

pub is_forced-requires-clause-below : goal.is_forced-requires-clause-below
is_forced-requires-clause-below c = λ some.
    let clauses = c.args.clauses.now in
    let standing = c.standing-standing.result in
    let are = c.standing-standing.ensures.standing clauses c.requires.index in
    let place = get_or standing.places.now 0 0 in
    let stands = (are.row.has place).0 (Contains-get_or standing.places.now 0 0 some) in
    let atoms = c.atoms.ensures.atoms in
    let less = All-contains (λ (l : Literal). l.atom < length c.args.marks.now.roots)
    (clause_at clauses place)
    (record { atom = standing.literal.atom; positive = standing.literal.positive })
    (c.requires.clauses place [] stands.among) stands.has in
    omega arith

pub returns-then-is_forced-clause-followed : goal.returns-then-is_forced-clause-followed
returns-then-is_forced-clause-followed c =
    let n = length c.args.marks.now.roots in
    let forced = c.args.forced.now in
    let said = c.is_forced.ensures c.if-is_forced.true in
    followed_forced c.args.effect.now c.args.clauses.now forced c.args.marks.now c.args.own
    c.requires.forced (c.is_made_false.ensures.yes c.if-not-is_made_false.false)
    (subst (λ (l : Literal). known (marked n forced) l.atom ≡ Some l.positive)
    c.standing-standing.ensures.literal
    (subst (λ k. known (marked k forced) c.standing-standing.result.literal.atom
    ≡ Some c.standing-standing.result.literal.positive) c.atoms.ensures.atoms said))

pub visit_all-requires-clause-standing : goal.visit_all-requires-clause-standing
visit_all-requires-clause-standing c =
    c.standing-standing.ensures.standing c.args.clauses.now c.requires.index

pub visit_all-requires-clause-out : goal.visit_all-requires-clause-out
visit_all-requires-clause-out c =
    subst (λ (l : Literal). value_of c.args.effect.now (marks_of c.args.marks.now) l ≡ Some false)
    (sym c.standing-standing.ensures.literal)
    (value_made c.args.effect.now (marks_of c.args.marks.now) c.args.own
    (c.is_made_false.ensures.yes c.if-not-is_made_false.false))

pub returns-clause-kept : goal.returns-clause-kept
returns-clause-kept c = λ is value made sign place stands.
    let e = c.args.effect.now in
    let clauses = c.args.clauses.now in
    let new = c.visit_all.new.marks in
    let followed = c.visit_all.ensures.followed in
    let are = c.standing-standing.ensures.standing clauses c.requires.index in
    kept_sooner e (clause_at clauses place) new 0 (length c.args.marks.now.trail) (omega arith)
    (longer _ _ _ _ followed)
    (c.visit_all.ensures.kept is place ((are.row.has place).1
    (subst (λ (l : Literal). StandsAs l.positive clauses l.atom place)
    (sym c.standing-standing.ensures.literal) stands)))

pub returns-then-not-is_made_false-clause-followed : goal.returns-then-not-is_made_false-clause-followed
returns-then-not-is_made_false-clause-followed c =
    followed_none (λ s. in_clauses c.args.clauses.now (over c.args.effect.now s) ≡ true)
    c.args.marks.now

pub is_forced-requires-clause-rises : goal.is_forced-requires-clause-rises
is_forced-requires-clause-rises c = c.requires.forced.rises

pub returns-then-is_forced-clause-kept : goal.returns-then-is_forced-clause-kept
returns-then-is_forced-clause-kept c = λ is. absurd (let f : false ≡ true = is in cc)

pub visit_all-requires-clause-clauses : goal.visit_all-requires-clause-clauses
visit_all-requires-clause-clauses c = c.requires.clauses

pub returns-clause-followed : goal.returns-clause-followed
returns-clause-followed c = c.visit_all.ensures.followed
