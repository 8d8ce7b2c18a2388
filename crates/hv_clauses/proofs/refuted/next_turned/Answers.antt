use Rattle.std.proofs.Common.{ℕ, ◌<◌, ◌≤◌, ◌∙◌, Bool, length, get_or, sym, arith}
use Rattle.std.proofs.Common.{below_more, subst}
use Rattle.std.proofs.lemmas.List.{get_or_default}
use Rattle.hv_sets.specs.declared.literal.Literal.{Literal}
use Rattle.hv_clauses.specs.Working.Affected.{turning_sign}
use Rattle.hv_indexes.specs.Signed.{StandsAs}
use Rattle.hv_clauses.proofs.refuted.next_turned.Goals as goal

pub standing-standing-requires : goal.standing-standing-requires
standing-standing-requires c = c.requires.index

pub first_from-next-requires-clause-rises : goal.first_from-next-requires-clause-rises
first_from-next-requires-clause-rises c =
    (c.standing-standing.ensures.standing c.requires.index.0 c.requires.index.1).row.rises

pub first_from-next-requires-clause-from : goal.first_from-next-requires-clause-from
first_from-next-requires-clause-from c = c.loop-atom.invariant.from

pub loop-atom-init : goal.loop-atom-init
loop-atom-init c = record {
  from = c.requires.from;
  end = omega arith;
  apart = λ clauses index k less. absurd (omega arith);
}

pub loop-atom-preserved : goal.loop-atom-preserved
loop-atom-preserved c = record {
  from = c.first_from-next.ensures.from;
  end = let upto = c.first_from-next.ensures.end in
      let past = c.loop-atom.invariant.end in omega arith;
  apart = λ clauses index. below_more (λ k. (place : ℕ) → c.args.from ≤ place
      → place < c.first_from-next.result
      → StandsAs c.turning_sign-sign.result clauses (get_or c.turned-turned.result.now k 0) place
      → ⊥) c.loop-atom.atom-index
      (λ k less place ahead early. c.loop-atom.invariant.apart clauses index k less place ahead
      (let upto = c.first_from-next.ensures.end in omega arith))
      (λ place ahead early stands. c.first_from-next.ensures.before place
      (((c.standing-standing.ensures.standing clauses index).row.has place).1
      (subst (λ (l : Literal). StandsAs l.positive clauses l.atom place)
      (sym c.standing-standing.ensures.literal) stands)) ahead early);
}

pub returns-clause-from : goal.returns-clause-from
returns-clause-from c = c.loop-atom.invariant.from

pub returns-clause-end : goal.returns-clause-end
returns-clause-end c = c.loop-atom.invariant.end

pub returns-clause-apart : goal.returns-clause-apart
returns-clause-apart c = λ clauses index place ahead early turned.
    let at = c.turned-turned.ensures turned.atom turned.made in
    let within : at.0 < length c.turned-turned.result.now = at.1 in
    let end = c.loop-atom-test.false in
    c.loop-atom.invariant.apart clauses index at.0 (omega arith) place ahead early
    (subst (λ (s : Bool). StandsAs s clauses (get_or c.turned-turned.result.now at.0 0) place)
    (sym c.turning_sign-sign.ensures)
    (subst (λ a. StandsAs (turning_sign c.args.after c.args.value) clauses a place)
    (sym (get_or_default c.turned-turned.result.now at.0 0 turned.atom within ∙ at.2))
    turned.stands))
