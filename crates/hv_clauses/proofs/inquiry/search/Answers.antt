use Rattle.std.proofs.Common.{◌≡◌, ◌∙◌, Option, None, false, length, take, sym, ap, subst}
use Rattle.std.specs.Option.{MatchOption}
use Rattle.hv_clauses.specs.declared.start.Start.{Start}
use Rattle.hv_clauses.specs.declared.opening.Opening.{Opening}
use Rattle.hv_clauses.specs.declared.opening.Opening.TheVariants as O
use Rattle.hv_clauses.specs.Working.Early.{IsOpened}
use Rattle.hv_clauses.specs.Working.Posed.{width}
use Rattle.hv_clauses.specs.Working.Start.{IsBasedOn, IsStart}
use Rattle.hv_propagation.specs.Trail.{Knowledge, marks_of}
use Rattle.hv_propagation.proofs.Chasing.{undone_same}
use Rattle.hv_clauses.proofs.EarlyParts.{early_from_each, hold_in_each, hold_started, started_at}
use Rattle.hv_clauses.proofs.EarlyParts.{wide_started}
use Rattle.hv_clauses.proofs.Searching.{found_from_met}
use Rattle.hv_clauses.proofs.inquiry.search.Goals as goal

none_of : (r : Option Start) (N : Type 0) (P : Start → Type 0) → MatchOption r N P → r ≡ None → N
none_of r N P found is = subst (λ o. MatchOption o N P) is found

pub search_from-searched-requires-clause-begun : goal.search_from-searched-requires-clause-begun
search_from-searched-requires-clause-begun g c =
    let p = c.args.problem.now in
    let k = c.args.marks.now in
    let opened : IsOpened p O.Closed k =
    subst (λ (o : Opening). IsOpened p o k) c.in-Closed.is c.requires.opened in
    record {
      wide = c.requires.wide;
      follows = hold_in_each p (marks_of k) opened.1;
      from = opened.0;
    }

pub returns-in_default-clause-found : goal.returns-in_default-clause-found
returns-in_default-clause-found g c =
    let never = none_of c.start_of.result _ _ c.start_of.ensures c.in_default.is in
    found_from_met c.args.problem.now c.requires.posed false c.args.state.now
    (λ number less state size fits. never state size fits.inside)

pub search_from-requires-clause-begun : goal.search_from-requires-clause-begun
search_from-requires-clause-begun g c =
    let p = c.args.problem.now in
    let k = c.start_over.new.self in
    let started : IsStart p c.in-Some.start = c.in-Some.ensures in
    let at = started_at p c.in-Some.start.roots c.args.marks.now c.start_over.new.self
    c.requires.wide c.start_over.ensures in
    record {
      wide = wide_started (width p) c.in-Some.start.roots c.start_over.new.self at;
      follows = hold_started p c.in-Some.start.roots c.start_over.new.self started.follows at;
      from = (
        ap (λ (x : Knowledge). length x.trail) at,
        subst (λ b. IsBasedOn p c.in-Some.start.operand b)
            (sym (ap (λ (x : Knowledge). x.roots) at)) started.rooted,
      );
    }

pub returns-in-Never-clause-found : goal.returns-in-Never-clause-found
returns-in-Never-clause-found g c =
    let p = c.args.problem.now in
    let k = c.args.marks.now in
    let never : IsOpened p O.Never k =
    subst (λ (o : Opening). IsOpened p o k) c.in-Never.is c.requires.opened in
    found_from_met p c.requires.posed false c.args.state.now
    (λ number less state size fits. never state size (early_from_each p state fits.inside))

pub returns-in-Closed-clause-found : goal.returns-in-Closed-clause-found
returns-in-Closed-clause-found g c =
    found_from_met c.args.problem.now c.requires.posed c.search_from-searched.result.met
    c.search_from-searched.new.state c.search_from-searched.ensures.met

pub returns-in-Closed-clause-wide : goal.returns-in-Closed-clause-wide
returns-in-Closed-clause-wide g c =
    let same = undone_same c.args.marks.now c.search_from-searched.new.marks c.undo.new.self
    c.search_from-searched.ensures.grown
    (c.undo.ensures ∙ ap (λ n. let z : Knowledge = record {
      roots = c.search_from-searched.new.marks.roots;
      trail = take n
          c.search_from-searched.new.marks.trail;
    }
    in z) c.len-point.ensures.len) in
    ap (λ (k : Knowledge). length k.roots) same ∙ c.requires.wide

pub returns-in-Closed-clause-opened : goal.returns-in-Closed-clause-opened
returns-in-Closed-clause-opened g c =
    let same = undone_same c.args.marks.now c.search_from-searched.new.marks c.undo.new.self
    c.search_from-searched.ensures.grown
    (c.undo.ensures ∙ ap (λ n. let z : Knowledge = record {
      roots = c.search_from-searched.new.marks.roots;
      trail = take n
          c.search_from-searched.new.marks.trail;
    }
    in z) c.len-point.ensures.len) in
    subst (λ (k : Knowledge). IsOpened c.args.problem.now c.args.opening k) (sym same)
    c.requires.opened

pub returns-in-Some-clause-found : goal.returns-in-Some-clause-found
returns-in-Some-clause-found g c =
    found_from_met c.args.problem.now c.requires.posed c.search_from.result.met
    c.search_from.new.state c.search_from.ensures.met

pub returns-in-Some-clause-wide : goal.returns-in-Some-clause-wide
returns-in-Some-clause-wide g c =
    ap length c.search_from.ensures.grown.roots
    ∙ (wide_started (length c.args.marks.now.roots) c.in-Some.start.roots c.start_over.new.self
    c.start_over.ensures ∙ c.requires.wide)
