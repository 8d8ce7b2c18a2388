use Rattle.std.proofs.Common.{◌≡◌, ◌<◌, ◌∙◌, ℕ, Bool, List, length, get_or, sym, arith, below_more}
use Rattle.std.proofs.Common.{ap, subst}
use Rattle.std.proofs.lemmas.List.{get_or_default}
use Rattle.hv_sets.specs.declared.literal.Literal.{Literal}
use Rattle.hv_propagation.specs.Marks.{known}
use Rattle.hv_clauses.specs.Working.Found.{AreFollowedRoots}
use Rattle.hv_clauses.specs.Working.Affected.{turning_sign}
use Rattle.hv_indexes.specs.Signed.{StandsAs}
use Rattle.hv_clauses.specs.Working.Problem.{FitsChoice}
use Rattle.hv_clauses.specs.Working.Posed.{formulas, width}
use Rattle.hv_propagation.specs.Trail.{Knowledge}
use Rattle.hv_clauses.proofs.affected.try_value.Goals as goal

pub standing-standing-requires : goal.standing-standing-requires
standing-standing-requires g c =
    (formulas c.args.problem.now c.args.touched.now.number, c.requires.touched.index)

pub try_listed-requires-clause-standing : goal.try_listed-requires-clause-standing
try_listed-requires-clause-standing g c = c.standing-standing.ensures.standing
    (formulas c.args.problem.now c.args.touched.now.number) c.requires.touched.index

pub try_listed-requires-clause-rooted : goal.try_listed-requires-clause-rooted
try_listed-requires-clause-rooted g c =
    subst (λ (k : Knowledge). AreFollowedRoots c.args.problem.now k) (sym
    c.loop-atom.invariant.same)
    c.requires.rooted

pub loop-atom-preserved : goal.loop-atom-preserved
loop-atom-preserved g c =
    let p = c.args.problem.now in
    let clauses = formulas p c.args.touched.now.number in
    record {
      none = below_more (λ k. (number : ℕ)
          → StandsAs c.turning_sign-sign.result clauses (get_or c.turned-turned.result.now k 0)
          number → (state : List Bool) → length state ≡ width p → FitsChoice p number state → ⊥)
          c.loop-atom.atom-index c.loop-atom.invariant.none
          (λ number stands state size fits. c.if-try_listed.ensures.met number
          (((c.standing-standing.ensures.standing clauses c.requires.touched.index).row.has
          number).1
          (subst (λ (l : Literal). StandsAs l.positive clauses l.atom number)
          (sym c.standing-standing.ensures.literal) stands)) state size fits);
      same = c.if-try_listed.ensures.same ∙ c.loop-atom.invariant.same;
      state = c.if-try_listed.ensures.state ∙ c.loop-atom.invariant.state;
    }

pub returns-clause-met : goal.returns-clause-met
returns-clause-met g c = λ number turned state size fits.
    let p = c.args.problem.now in
    let clauses = formulas p c.args.touched.now.number in
    let at = c.turned-turned.ensures turned.atom
    (ap (λ e. known e turned.atom) c.effect.ensures ∙ turned.made) in
    let within : at.0 < length c.turned-turned.result.now = at.1 in
    let end = c.loop-atom-test.false in
    c.loop-atom.invariant.none at.0 (omega arith) number
    (subst (λ (s : Bool). StandsAs s clauses (get_or c.turned-turned.result.now at.0 0) number)
    (sym c.turning_sign-sign.ensures)
    (subst (λ a. StandsAs (turning_sign c.args.touched.now.operand.after c.args.value) clauses a
    number) (sym (get_or_default c.turned-turned.result.now at.0 0 turned.atom within ∙ at.2))
    turned.stands)) state size fits
