use Rattle.std.proofs.Common.{◌≡◌, Option, None, MatchOption, true, sym, subst}
use Rattle.hv_sets.specs.Truth.{in_clauses}
use Rattle.hv_propagation.specs.Clauses.{AreClauses}
use Rattle.hv_propagation.specs.Marks.{over}
use Rattle.hv_propagation.specs.Roots.{AreSettledBut}
use Rattle.hv_propagation.specs.Chase.{AreKept, IsFollowed}
use Rattle.hv_propagation.specs.Forced.{AreForced}
use Rattle.hv_indexes.specs.Occurrences.{IsIndexOf}
use Rattle.hv_propagation.proofs.Untouched.{followed_never}
use Rattle.hv_clauses.proofs.problem.start_turned.Goals as goal

none_of : {A : Type 0} (r : Option A) (N : Type 0) (P : A → Type 0) → MatchOption r N P
    → r ≡ None → N
none_of r N P found is = subst (λ o. MatchOption o N P) is found

pub returns-in_default-clause-followed : goal.returns-in_default-clause-followed
returns-in_default-clause-followed g c = followed_never c.args.effect.now c.args.set.now.clauses
    c.args.set.now.atoms c.args.marks.now c.requires.size
    (none_of c.forced.result _ _ c.forced.ensures c.in_default.is)

pub start-requires-clause-clauses : goal.start-requires-clause-clauses
start-requires-clause-clauses g c =
    subst (λ n. AreClauses n c.clauses.result.now) (sym c.requires.size) c.clauses.ensures.below

pub start-requires-clause-index : goal.start-requires-clause-index
start-requires-clause-index g c =
    subst (λ clauses. IsIndexOf clauses c.occurs.result.now) (sym c.clauses.ensures.clauses)
    c.occurs.ensures

pub start-requires-clause-forced : goal.start-requires-clause-forced
start-requires-clause-forced g c =
    subst (λ n. AreForced n c.clauses.result.now c.in-Some.forced.now) (sym c.requires.size)
    (subst (λ clauses. AreForced c.args.set.now.atoms clauses c.in-Some.forced.now)
    (sym c.clauses.ensures.clauses) c.in-Some.ensures)

pub start-requires-clause-but : goal.start-requires-clause-but
start-requires-clause-but g c =
    subst (λ clauses. AreSettledBut c.args.effect.now clauses c.args.marks.now.roots)
    (sym c.clauses.ensures.clauses) c.requires.but

pub returns-clause-followed : goal.returns-clause-followed
returns-clause-followed g c =
    subst (λ clauses. IsFollowed (λ s. in_clauses clauses (over c.args.effect.now s) ≡ true)
    c.args.marks.now c.start.new.marks c.start.result)
    c.clauses.ensures.clauses c.start.ensures.followed

pub returns-clause-kept : goal.returns-clause-kept
returns-clause-kept g c = λ is.
    subst (λ clauses. AreKept c.args.effect.now clauses c.start.new.marks 0)
    c.clauses.ensures.clauses (c.start.ensures.kept is)
