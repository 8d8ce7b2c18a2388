use Rattle.std.proofs.Common.{◌≡◌, ◌∙◌, ap, cond, length, not, subst, sym, true}
use Rattle.hv_task.specs.State.{AreBelow, state_of}
use Rattle.hv_sets.specs.Truth.{in_clauses}
use Rattle.hv_indexes.specs.Mates.{AreMates}
use Rattle.hv_propagation.specs.Clauses.{AreClauses}
use Rattle.hv_formula.specs.Clausal.{in_formula}
use Rattle.hv_formula.specs.Positive.{ArePositive}
use Rattle.hv_formula.proofs.listed_ask.ListedAskAsker.wants.Goals as goal

pub hold-requires-clause-clauses : goal.hold-requires-clause-clauses
hold-requires-clause-clauses g c =
    subst (λ n. AreClauses n c.bare.result.clauses.now)
    (sym (c.requires.size ∙ c.requires.stands.1)) c.bare.ensures.below

pub hold-requires-clause-index : goal.hold-requires-clause-index
hold-requires-clause-index g c = c.bare.ensures.index

pub hold-requires-clause-listed : goal.hold-requires-clause-listed
hold-requires-clause-listed g c =
    let first = c.args.self.now.first in
    subst (λ cs. first.listed ≡ true → ArePositive cs (length cs) first.positive.items)
    (sym c.bare.ensures.clauses) c.requires.stands.3

pub hold-requires-clause-below : goal.hold-requires-clause-below
hold-requires-clause-below g c =
    subst (λ n. AreBelow n c.args.held.now) (sym c.requires.size) c.requires.below

pub hold-requires-clause-state : goal.hold-requires-clause-state
hold-requires-clause-state g c =
    subst (λ n. c.args.state.now ≡ state_of n c.args.held.now) (sym c.requires.size)
    c.requires.state

pub holds-yes-requires-clause-below : goal.holds-yes-requires-clause-below
holds-yes-requires-clause-below g c =
    subst (λ n. AreBelow n c.args.held.now) (sym c.requires.size) c.requires.below

pub holds-yes-requires-clause-state : goal.holds-yes-requires-clause-state
holds-yes-requires-clause-state g c =
    subst (λ n. c.args.state.now ≡ state_of n c.args.held.now) (sym c.requires.size)
    c.requires.state

pub holds-yes-requires-clause-clauses : goal.holds-yes-requires-clause-clauses
holds-yes-requires-clause-clauses g c =
    subst (λ n. AreClauses n c.clauses-2.result.now)
    (sym (c.requires.size ∙ c.requires.stands.1)) c.clauses-2.ensures.below

pub holds-yes-requires-clause-mates : goal.holds-yes-requires-clause-mates
holds-yes-requires-clause-mates g c =
    subst (λ cs. AreMates cs c.make_ready.new.mates) (sym c.clauses-2.ensures.clauses)
    c.in_ok-make_ready.ensures

pub returns-then-self-clause-wants : goal.returns-then-self-clause-wants
returns-then-self-clause-wants g c =
    let set = c.args.self.now.set.now in
    let state = c.args.state.now in
    let is = c.in_ok-yes.ensures.holds ∙ ap (λ cs. in_clauses cs state) c.bare.ensures.clauses in
    is ∙ sym (c.requires.stands.2 state
    ∙ ap (λ b. cond b (in_formula set state) (not (in_formula set state))) c.if-self.true)

pub returns-then-self-clause-stands : goal.returns-then-self-clause-stands
returns-then-self-clause-stands g c = (
  c.requires.stands.0,
  c.requires.stands.1,
  c.requires.stands.2,
  subst (λ cs. c.hold.new.self.listed ≡ true
      → ArePositive cs (length cs) c.hold.new.self.positive.items)
      c.bare.ensures.clauses c.in_ok-yes.ensures.listed,
  c.requires.stands.4,
)

pub returns-then-self-2-clause-wants : goal.returns-then-self-2-clause-wants
returns-then-self-2-clause-wants g c =
    let set = c.args.self.now.set.now in
    let state = c.args.state.now in
    let is = c.holds-yes.ensures ∙ ap (λ cs. in_clauses cs state) c.clauses-2.ensures.clauses in
    is ∙ sym (c.requires.stands.2 state
    ∙ ap (λ b. cond b (in_formula set state) (not (in_formula set state))) c.if-self-2.true)

pub returns-then-self-2-clause-stands : goal.returns-then-self-2-clause-stands
returns-then-self-2-clause-stands g c = (
  c.requires.stands.0,
  c.requires.stands.1,
  c.requires.stands.2,
  c.requires.stands.3,
  λ _. c.in_ok-make_ready.ensures,
)

pub returns-else-self-clause-wants : goal.returns-else-self-clause-wants
returns-else-self-clause-wants g c =
    let set = c.args.self.now.set.now in
    let state = c.args.state.now in
    let is = c.in_ok-yes.ensures.holds ∙ ap (λ cs. in_clauses cs state) c.bare.ensures.clauses in
    ap not is ∙ sym (c.requires.stands.2 state
    ∙ ap (λ b. cond b (in_formula set state) (not (in_formula set state))) c.if-self.false)

pub returns-else-self-clause-stands : goal.returns-else-self-clause-stands
returns-else-self-clause-stands g c = (
  c.requires.stands.0,
  c.requires.stands.1,
  c.requires.stands.2,
  subst (λ cs. c.hold.new.self.listed ≡ true
      → ArePositive cs (length cs) c.hold.new.self.positive.items)
      c.bare.ensures.clauses c.in_ok-yes.ensures.listed,
  c.requires.stands.4,
)

pub returns-else-self-2-clause-wants : goal.returns-else-self-2-clause-wants
returns-else-self-2-clause-wants g c =
    let set = c.args.self.now.set.now in
    let state = c.args.state.now in
    let is = c.holds-yes.ensures ∙ ap (λ cs. in_clauses cs state) c.clauses-2.ensures.clauses in
    ap not is ∙ sym (c.requires.stands.2 state
    ∙ ap (λ b. cond b (in_formula set state) (not (in_formula set state))) c.if-self-2.false)

pub returns-else-self-2-clause-stands : goal.returns-else-self-2-clause-stands
returns-else-self-2-clause-stands g c = (
  c.requires.stands.0,
  c.requires.stands.1,
  c.requires.stands.2,
  c.requires.stands.3,
  λ _. c.in_ok-make_ready.ensures,
)
