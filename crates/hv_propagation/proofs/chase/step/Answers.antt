use Rattle.std.proofs.Common.{◌≡◌, ◌++◌, ◌∷◌, [], ◌∙◌, true, false, sym, ap, subst}
use Rattle.hv_sets.specs.Truth.{in_clause}
use Rattle.hv_propagation.specs.declared.watched.Scan.{Scan}
use Rattle.hv_propagation.specs.Chase.{IsFollowed}
use Rattle.hv_propagation.specs.Working.Scan.{Scans}
use Rattle.hv_propagation.specs.Marks.{over}
use Rattle.hv_propagation.specs.Trail.{Knowledge, marks_of}
use Rattle.hv_propagation.specs.Units.{IsSettled}
use Rattle.hv_propagation.proofs.Chasing.{broken_followed, followed_none, step_followed}
use Rattle.hv_propagation.proofs.Chasing.{step_settled}
use Rattle.hv_propagation.proofs.chase.step.Goals as goal

pub returns-in-Settled-clause-followed : goal.returns-in-Settled-clause-followed
returns-in-Settled-clause-followed c =
    let m = c.args.marks.now in
    subst (λ (k : Knowledge). IsFollowed (λ s. in_clause c.args.clause.now
    (over c.args.effect.now s) ≡ true) m k true) (sym c.remember.ensures)
    (followed_none (λ s. in_clause c.args.clause.now (over c.args.effect.now s) ≡ true) m)

pub returns-in-Settled-clause-settled : goal.returns-in-Settled-clause-settled
returns-in-Settled-clause-settled c = λ _.
    let e = c.args.effect.now in
    let m = c.args.marks.now in
    let clause = c.args.clause.now in
    subst (λ (k : Knowledge). IsSettled e (marks_of k) clause) (sym c.remember.ensures)
    (subst (λ (s : Scan). Scans s e (marks_of m) clause) c.in-Settled.is
    c.scan_clause-found.ensures)

pub returns-in-Broken-clause-settled : goal.returns-in-Broken-clause-settled
returns-in-Broken-clause-settled c = λ is. absurd (let f : false ≡ true = is in cc)

pub returns-in-Broken-clause-followed : goal.returns-in-Broken-clause-followed
returns-in-Broken-clause-followed c =
    let e = c.args.effect.now in
    let m = c.args.marks.now in
    let clause = c.args.clause.now in
    let found = subst (λ (s : Scan). Scans s e (marks_of m) clause) c.in-Broken.is
    c.scan_clause-found.ensures in
    subst (λ (k : Knowledge). IsFollowed (λ s. in_clause clause (over e s) ≡ true) m k false)
    (sym c.remember.ensures)
    (broken_followed e m clause c.requires found)

pub returns-in-Unit-clause-followed : goal.returns-in-Unit-clause-followed
returns-in-Unit-clause-followed c =
    let e = c.args.effect.now in
    let m = c.args.marks.now in
    let clause = c.args.clause.now in
    let found = subst (λ (s : Scan). Scans s e (marks_of m) clause) c.in-Unit.is
    c.scan_clause-found.ensures in
    let more = λ (k : Knowledge). let n : Knowledge = record
    { roots = k.roots; trail = k.trail ++ c.in-Unit.literal ∷ [] } in n in
    subst (λ (k : Knowledge). IsFollowed (λ s. in_clause clause (over e s) ≡ true) m k true)
    (sym (c.write.ensures ∙ ap more c.remember.ensures))
    (step_followed e m c.in-Unit.literal clause c.requires found.0 found.1 found.2)

pub returns-in-Unit-clause-settled : goal.returns-in-Unit-clause-settled
returns-in-Unit-clause-settled c = λ is.
    let e = c.args.effect.now in
    let m = c.args.marks.now in
    let clause = c.args.clause.now in
    let found = subst (λ (s : Scan). Scans s e (marks_of m) clause) c.in-Unit.is
    c.scan_clause-found.ensures in
    let more = λ (k : Knowledge). let n : Knowledge = record
    { roots = k.roots; trail = k.trail ++ c.in-Unit.literal ∷ [] } in n in
    subst (λ (k : Knowledge). IsSettled e (marks_of k) clause)
    (sym (c.write.ensures ∙ ap more c.remember.ensures))
    (step_settled e m c.in-Unit.literal clause c.requires found.0 found.1)
