use Rattle.std.proofs.Common.{◌≡◌, ◌∙◌, Option, None, true, false, length, refl, sym, ap, subst}
use Rattle.std.specs.Option.{MatchOption}
use Rattle.std.specs.Prelude.{is_some}
use Rattle.hv_clauses.specs.declared.start.Start.{Start}
use Rattle.hv_clauses.specs.Working.Posed.{InEach, ProblemState, width}
use Rattle.hv_clauses.specs.Working.Problem.{AreLeft}
use Rattle.hv_clauses.specs.Working.Start.{IsBasedOn, IsStart}
use Rattle.hv_propagation.specs.Chase.{IsFollowed}
use Rattle.hv_propagation.specs.Trail.{Knowledge}
use Rattle.hv_clauses.proofs.EarlyParts.{closed_whole, hold_started, hold_then, never_whole}
use Rattle.hv_clauses.proofs.EarlyParts.{none_then, started_at, wide_started}
use Rattle.hv_clauses.proofs.opening.open_whole.Goals as goal

none_of : (r : Option Start) (N : Type 0) (P : Start → Type 0) → MatchOption r N P → r ≡ None → N
none_of r N P found is = subst (λ o. MatchOption o N P) is found

pub returns-in_default-clause-opened : goal.returns-in_default-clause-opened
returns-in_default-clause-opened g c =
    never_whole c.args.problem.now c.requires.early c.args.marks.now
    (none_of c.start_of.result _ _ c.start_of.ensures c.in_default.is)

pub start_all-requires-clause-size : goal.start_all-requires-clause-size
start_all-requires-clause-size g c =
    wide_started (length c.args.marks.now.roots) c.in-Some.start.roots c.start_over.new.self
    c.start_over.ensures ∙ c.requires.wide

pub start_all-requires-clause-rooted : goal.start_all-requires-clause-rooted
start_all-requires-clause-rooted g c =
    let p = c.args.problem.now in
    let started : IsStart p c.in-Some.start = c.in-Some.ensures in
    subst (λ b. IsBasedOn p c.in-Some.start.operand b)
    (sym (ap (λ (k : Knowledge). k.roots)
    (started_at p c.in-Some.start.roots c.args.marks.now c.start_over.new.self
    c.requires.wide c.start_over.ensures)))
    started.rooted

pub returns-then-not-start_all-clause-opened : goal.returns-then-not-start_all-clause-opened
returns-then-not-start_all-clause-opened g c =
    let p = c.args.problem.now in
    let started : IsStart p c.in-Some.start = c.in-Some.ensures in
    let at = started_at p c.in-Some.start.roots c.args.marks.now c.start_over.new.self
    c.requires.wide c.start_over.ensures in
    let wide = wide_started (width p) c.in-Some.start.roots c.start_over.new.self at in
    let hold = hold_started p c.in-Some.start.roots c.start_over.new.self started.follows at in
    never_whole p c.requires.early c.start_all.new.marks
    (none_then p c.start_over.new.self c.start_all.new.marks wide hold
    c.if-not-start_all.ensures.followed)

pub returns-then-not-start_all-clause-wide : goal.returns-then-not-start_all-clause-wide
returns-then-not-start_all-clause-wide g c =
    ap length c.if-not-start_all.ensures.followed.roots
    ∙ (wide_started (length c.args.marks.now.roots) c.in-Some.start.roots c.start_over.new.self
    c.start_over.ensures ∙ c.requires.wide)

pub close_upto-requires-clause-over : goal.close_upto-requires-clause-over
close_upto-requires-clause-over g c =
    ap length c.if-not-start_all.ensures.followed.roots
    ∙ (wide_started (length c.args.marks.now.roots) c.in-Some.start.roots c.start_over.new.self
    c.start_over.ensures ∙ c.requires.wide)

pub returns-in_default-close_upto-clause-opened :
    goal.returns-in_default-close_upto-clause-opened
returns-in_default-close_upto-clause-opened g c =
    let p = c.args.problem.now in
    let started : IsStart p c.in-Some.start = c.in-Some.ensures in
    let at = started_at p c.in-Some.start.roots c.args.marks.now c.start_over.new.self
    c.requires.wide c.start_over.ensures in
    let wide = wide_started (width p) c.in-Some.start.roots c.start_over.new.self at in
    let hold = hold_started p c.in-Some.start.roots c.start_over.new.self started.follows at in
    let first = c.if-not-start_all.ensures.followed in
    never_whole p c.requires.early c.close_upto.new.marks
    (none_then p c.start_all.new.marks c.close_upto.new.marks (ap length first.roots ∙ wide)
    (hold_then p c.start_over.new.self c.start_all.new.marks true wide hold first)
    (subst (λ b. IsFollowed (InEach p) c.start_all.new.marks c.close_upto.new.marks b)
    (ap is_some c.in_default-close_upto.is) c.close_upto.ensures.followed))

pub returns-in_default-close_upto-clause-wide : goal.returns-in_default-close_upto-clause-wide
returns-in_default-close_upto-clause-wide g c =
    ap length c.close_upto.ensures.followed.roots
    ∙ (ap length c.if-not-start_all.ensures.followed.roots
    ∙ (wide_started (length c.args.marks.now.roots) c.in-Some.start.roots c.start_over.new.self
    c.start_over.ensures ∙ c.requires.wide))

pub close-requires-clause-over : goal.close-requires-clause-over
close-requires-clause-over g c =
    ap length c.close_upto.ensures.followed.roots
    ∙ (ap length c.if-not-start_all.ensures.followed.roots
    ∙ (wide_started (length c.args.marks.now.roots) c.in-Some.start.roots c.start_over.new.self
    c.start_over.ensures ∙ c.requires.wide))
    ∙ sym (ap width c.list_owners.ensures)

pub returns-then-not-close-clause-opened : goal.returns-then-not-close-clause-opened
returns-then-not-close-clause-opened g c =
    let p = c.args.problem.now in
    let started : IsStart p c.in-Some.start = c.in-Some.ensures in
    let at = started_at p c.in-Some.start.roots c.args.marks.now c.start_over.new.self
    c.requires.wide c.start_over.ensures in
    let wide = wide_started (width p) c.in-Some.start.roots c.start_over.new.self at in
    let hold = hold_started p c.in-Some.start.roots c.start_over.new.self started.follows at in
    let first = c.if-not-start_all.ensures.followed in
    let second = c.close_upto.ensures.followed in
    never_whole p c.requires.early c.close.new.marks
    (none_then p c.close_upto.new.marks c.close.new.marks (ap length second.roots ∙ (ap length
    first.roots ∙ wide))
    (hold_then p c.start_all.new.marks c.close_upto.new.marks (is_some c.close_upto.result)
    (ap length first.roots ∙ wide) (hold_then p c.start_over.new.self c.start_all.new.marks true
    wide hold first) second)
    (subst (λ (x : ProblemState). IsFollowed (InEach x) c.close_upto.new.marks c.close.new.marks
    false) c.list_owners.ensures c.if-not-close.ensures.followed))

pub returns-then-not-close-clause-wide : goal.returns-then-not-close-clause-wide
returns-then-not-close-clause-wide g c =
    ap length c.if-not-close.ensures.followed.roots
    ∙ (ap length c.close_upto.ensures.followed.roots
    ∙ (ap length c.if-not-start_all.ensures.followed.roots
    ∙ (wide_started (length c.args.marks.now.roots) c.in-Some.start.roots c.start_over.new.self
    c.start_over.ensures ∙ c.requires.wide)))

pub returns-clause-opened : goal.returns-clause-opened
returns-clause-opened g c =
    let p = c.args.problem.now in
    let started : IsStart p c.in-Some.start = c.in-Some.ensures in
    let at = started_at p c.in-Some.start.roots c.args.marks.now c.start_over.new.self
    c.requires.wide c.start_over.ensures in
    let wide = wide_started (width p) c.in-Some.start.roots c.start_over.new.self at in
    let hold = hold_started p c.in-Some.start.roots c.start_over.new.self started.follows at in
    let first = c.if-not-start_all.ensures.followed in
    let second = c.close_upto.ensures.followed in
    let new = c.close.new.marks in
    closed_whole p c.requires.early new
    (hold_then p c.close_upto.new.marks c.close.new.marks true (ap length second.roots ∙ (ap length
    first.roots ∙ wide))
    (hold_then p c.start_all.new.marks c.close_upto.new.marks (is_some c.close_upto.result)
    (ap length first.roots ∙ wide) (hold_then p c.start_over.new.self c.start_all.new.marks true
    wide hold first) second)
    (subst (λ (x : ProblemState). IsFollowed (InEach x) c.close_upto.new.marks new true)
    c.list_owners.ensures c.if-not-close.ensures.followed))
    (subst (λ (x : ProblemState). AreLeft x new (length new.trail)) c.list_owners.ensures
    (c.if-not-close.ensures.left refl))

pub returns-clause-wide : goal.returns-clause-wide
returns-clause-wide g c =
    ap length c.if-not-close.ensures.followed.roots
    ∙ (ap length c.close_upto.ensures.followed.roots
    ∙ (ap length c.if-not-start_all.ensures.followed.roots
    ∙ (wide_started (length c.args.marks.now.roots) c.in-Some.start.roots c.start_over.new.self
    c.start_over.ensures ∙ c.requires.wide)))
