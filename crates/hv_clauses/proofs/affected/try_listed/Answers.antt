use Rattle.std.proofs.Common.{◌≡◌, ◌<◌, ◌∙◌, Bool, List, length, get_or, sym, arith, below_more}
use Rattle.std.proofs.Common.{subst}
use Rattle.hv_clauses.specs.Working.Found.{AreFollowedRoots}
use Rattle.hv_clauses.specs.Working.Problem.{FitsChoice}
use Rattle.hv_clauses.specs.Working.Posed.{formulas, width}
use Rattle.hv_propagation.specs.Trail.{Knowledge}
use Rattle.hv_indexes.proofs.Standings.{inside_at}
use Rattle.hv_clauses.proofs.AffectedChoices.{choices_are}
use Rattle.std.proofs.lemmas.List.{get_or_default}
use Rattle.hv_clauses.proofs.affected.try_listed.Goals as goal

pub try_one-requires-clause-rooted : goal.try_one-requires-clause-rooted
try_one-requires-clause-rooted g c =
    subst (λ (k : Knowledge). AreFollowedRoots c.args.problem.now k) (sym
    c.loop-index.invariant.same)
    c.requires.rooted

pub returns-then-try_one-clause-met : goal.returns-then-try_one-clause-met
returns-then-try_one-clause-met g c =
    let p = c.args.problem.now in
    let t = c.args.touched.now in
    let r = c.requires.touched in
    let met = c.if-try_one.ensures.met in (
      _,
      (let within = inside_at (formulas p t.number) c.args.standing.now
          c.requires.standing c.loop-index.index c.loop-index-test.true in
          omega (arith, within, choices_are p t.operand t.number r.asked_twice r.which)),
      met.0,
      met.1,
    )

pub loop-index-preserved : goal.loop-index-preserved
loop-index-preserved g c =
    let places = c.args.standing.now.places.now in
    let p = c.args.problem.now in
    record {
      none = below_more (λ k. (state : List Bool) → length state ≡ width p
          → FitsChoice p (get_or places k 0) state → ⊥)
          c.loop-index.index c.loop-index.invariant.none
          (λ state size fits. c.if-try_one.ensures.met state size fits);
      same = c.if-try_one.ensures.same ∙ c.loop-index.invariant.same;
      state = c.if-try_one.ensures.state ∙ c.loop-index.invariant.state;
    }

pub returns-clause-met : goal.returns-clause-met
returns-clause-met g c = λ place has state size fits.
    let p = c.args.problem.now in
    let places = c.args.standing.now.places.now in
    let within : has.0 < length places = has.1 in
    let end = c.loop-index-test.false in
    c.loop-index.invariant.none has.0 (omega arith) state size
    (subst (λ n. FitsChoice p n state)
    (sym (get_or_default places has.0 0 place within ∙ has.2)) fits)
