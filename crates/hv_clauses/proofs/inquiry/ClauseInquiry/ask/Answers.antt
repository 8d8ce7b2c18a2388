use Rattle.std.proofs.Common.{◌≡◌, ◌∙◌, ℕ, Option, refl, sym, ap, subst}
use Rattle.hv_sets.specs.Cost.{ClausesPass}
use Rattle.hv_clauses.specs.Inquiry.{InquiryState, asked_with}
use Rattle.hv_sets.specs.Query.{is_clash}
use Rattle.hv_clauses.specs.Store.{formula_at, sizes_of, tests_of}
use Rattle.hv_clauses.specs.Working.Early.{AreMeans, IsOpened}
use Rattle.hv_clauses.specs.Working.Found.{IsFound}
use Rattle.hv_clauses.specs.Working.Posed.{IsPosed, ProblemState, choices, formulas, turned_to}
use Rattle.hv_clauses.specs.Working.Posed.{width}
use Rattle.hv_clauses.proofs.Asking.{choices_turned, clash_answered, cost_from, empty_answered}
use Rattle.hv_clauses.proofs.Asking.{means_turned, opened_turned, over_from, width_turned}
use Rattle.hv_clauses.proofs.Asking.{inquiry_of, inquiry_turned, means_within_turned, within_turned}
use Rattle.hv_clauses.proofs.inquiry.ClauseInquiry.ask.Goals as goal

pub returns-in_default-clause-answer : goal.returns-in_default-clause-answer
returns-in_default-clause-answer g c =
    let s = c.self.inside in
    subst (λ (v : InquiryState). ClausesPass v.task (sizes_of (formula_at v.store))
    (asked_with v.positive v.negative c.args.action) v.budget) c.self.view_is
    (over_from s.problem s.budget s.means c.self.invariant.1 c.in_default.is)

pub returns-then-is_idle-clause-answer : goal.returns-then-is_idle-clause-answer
returns-then-is_idle-clause-answer g c =
    let s = c.self.inside in
    let turned = c.turn_to.ensures.turned in
    empty_answered s.problem c.turn_to.new.self c.args.action turned s.budget c.args.self.now
    c.self.view_is
    (within_turned s.problem c.turn_to.new.self c.args.action turned s.budget s.means
    c.self.invariant.1 c.in-Some.cost c.in-Some.is) c.args.state.now (c.if-is_idle.ensures refl)

-- a problem that is the same as one that was turned
turned_same : (p t q : ProblemState) (action : Option ℕ) → q ≡ t
    → t ≡ turned_to p action t.effect → q ≡ turned_to p action q.effect
turned_same p t q action same turned =
    subst (λ (x : ProblemState). x ≡ turned_to p action x.effect) (sym same) turned

pub opened-self-inside-requires-clause-opened : goal.opened-self-inside-requires-clause-opened
opened-self-inside-requires-clause-opened g c =
    let s = c.self.inside in
    opened_turned s.problem c.turn_to.new.self c.args.action c.turn_to.ensures.turned s.opening
    s.marks c.self.invariant.3

pub opened-self-inside-requires-clause-wide : goal.opened-self-inside-requires-clause-wide
opened-self-inside-requires-clause-wide g c =
    let s = c.self.inside in
    c.self.invariant.2 ∙ sym (width_turned s.problem c.turn_to.new.self c.args.action
    c.turn_to.ensures.turned)

pub search-searched-requires-clause-means : goal.search-searched-requires-clause-means
search-searched-requires-clause-means g c =
    let s = c.self.inside in
    subst (λ (x : ProblemState). AreMeans x s.means) (sym c.opened-self-inside.ensures.same)
    (means_turned s.problem c.turn_to.new.self c.args.action c.turn_to.ensures.turned s.means
    c.self.invariant.1.1)

pub search-searched-requires-clause-cost : goal.search-searched-requires-clause-cost
search-searched-requires-clause-cost g c =
    let s = c.self.inside in
    (cost_from s.problem s.budget s.means c.self.invariant.1 c.in-Some.cost c.in-Some.is).0
    ∙ sym (ap choices c.opened-self-inside.ensures.same
    ∙ choices_turned s.problem c.turn_to.new.self c.args.action c.turn_to.ensures.turned)

pub returns-then-searched-clause-answer : goal.returns-then-searched-clause-answer
returns-then-searched-clause-answer g c =
    let s = c.self.inside in
    let q = c.opened-self-inside.new.problem in
    let turned = turned_same s.problem c.turn_to.new.self q c.args.action
    c.opened-self-inside.ensures.same
    c.turn_to.ensures.turned in
    clash_answered s.problem q c.args.action turned s.budget c.args.self.now c.self.view_is
    (within_turned s.problem q c.args.action turned s.budget s.means
    c.self.invariant.1 c.in-Some.cost c.in-Some.is) c.search-searched.new.state
    (subst (λ met. IsFound met (width q) (is_clash q.task (tests_of (formulas q)) q.query)
    c.search-searched.new.state) c.if-searched.true c.search-searched.ensures.found)

pub returns-clause-answer : goal.returns-clause-answer
returns-clause-answer g c =
    let s = c.self.inside in
    let q = c.opened-self-inside.new.problem in
    let turned = turned_same s.problem c.turn_to.new.self q c.args.action
    c.opened-self-inside.ensures.same
    c.turn_to.ensures.turned in
    empty_answered s.problem q c.args.action turned s.budget c.args.self.now c.self.view_is
    (within_turned s.problem q c.args.action turned s.budget s.means
    c.self.invariant.1 c.in-Some.cost c.in-Some.is) c.search-searched.new.state
    (subst (λ met. IsFound met (width q) (is_clash q.task (tests_of (formulas q)) q.query)
    c.search-searched.new.state) c.if-searched.false c.search-searched.ensures.found)

pub search-searched-requires-clause-posed : goal.search-searched-requires-clause-posed
search-searched-requires-clause-posed g c =
    subst (λ (x : ProblemState). IsPosed x) (sym c.opened-self-inside.ensures.same)
    c.turn_to.ensures.posed

pub search-searched-requires-clause-opened : goal.search-searched-requires-clause-opened
search-searched-requires-clause-opened g c =
    subst (λ (x : ProblemState). IsOpened x c.opened-self-inside.result
    c.opened-self-inside.new.marks) (sym c.opened-self-inside.ensures.same)
    c.opened-self-inside.ensures.opened

pub search-searched-requires-clause-wide : goal.search-searched-requires-clause-wide
search-searched-requires-clause-wide g c =
    c.opened-self-inside.ensures.wide ∙ sym (ap width c.opened-self-inside.ensures.same)

pub returns-then-is_idle-clause-same : goal.returns-then-is_idle-clause-same
returns-then-is_idle-clause-same g c =
    let s = c.self.inside in
    inquiry_turned s.problem c.turn_to.new.self c.args.action c.turn_to.ensures.turned s.budget
    ∙ c.self.view_is

pub returns-clause-same : goal.returns-clause-same
returns-clause-same g c =
    let s = c.self.inside in
    ap (λ (x : ProblemState). inquiry_of x s.budget)
    (c.search-searched.ensures.same ∙ c.opened-self-inside.ensures.same)
    ∙ (inquiry_turned s.problem c.turn_to.new.self c.args.action c.turn_to.ensures.turned s.budget
    ∙ c.self.view_is)

pub invariant_of-self : goal.invariant_of-self
invariant_of-self g c =
    let s = c.self.inside in
    let t = c.turn_to.new.self in
    let turned = c.turn_to.ensures.turned in (
      c.turn_to.ensures.posed,
      means_within_turned s.problem t c.args.action turned s.budget s.means c.self.invariant.1,
      c.self.invariant.2 ∙ sym (width_turned s.problem t c.args.action turned),
      opened_turned s.problem t c.args.action turned s.opening s.marks c.self.invariant.3,
    )

pub invariant_of-self-2 : goal.invariant_of-self-2
invariant_of-self-2 g c =
    let s = c.self.inside in
    let q = c.search-searched.new.problem in
    let same = c.search-searched.ensures.same ∙ c.opened-self-inside.ensures.same in
    let turned = turned_same s.problem c.turn_to.new.self q c.args.action same
    c.turn_to.ensures.turned in (
      subst (λ (x : ProblemState). IsPosed x) (sym same) c.turn_to.ensures.posed,
      means_within_turned s.problem q c.args.action turned s.budget s.means c.self.invariant.1,
      c.search-searched.ensures.wide ∙ sym (ap width c.search-searched.ensures.same),
      subst (λ (x : ProblemState). IsOpened x c.opened-self-inside.result
          c.search-searched.new.marks)
          (sym c.search-searched.ensures.same) c.search-searched.ensures.opened,
    )

pub invariant_of-self-then-searched : goal.invariant_of-self-then-searched
invariant_of-self-then-searched g c =
    let s = c.self.inside in
    let q = c.search-searched.new.problem in
    let same = c.search-searched.ensures.same ∙ c.opened-self-inside.ensures.same in
    let turned = turned_same s.problem c.turn_to.new.self q c.args.action same
    c.turn_to.ensures.turned in (
      subst (λ (x : ProblemState). IsPosed x) (sym same) c.turn_to.ensures.posed,
      means_within_turned s.problem q c.args.action turned s.budget s.means c.self.invariant.1,
      c.search-searched.ensures.wide ∙ sym (ap width c.search-searched.ensures.same),
      subst (λ (x : ProblemState). IsOpened x c.opened-self-inside.result
          c.search-searched.new.marks)
          (sym c.search-searched.ensures.same) c.search-searched.ensures.opened,
    )

pub is_idle-requires-clause-means : goal.is_idle-requires-clause-means
is_idle-requires-clause-means g c =
    let s = c.self.inside in
    means_turned s.problem c.turn_to.new.self c.args.action c.turn_to.ensures.turned s.means
    c.self.invariant.1.1
