use Rattle.std.proofs.Common.{ℕ, ◌<◌, ◌∙◌, Bool, length, get_or, refl, sym, ap, arith}
use Rattle.std.proofs.Common.{below_more, subst}
use Rattle.std.proofs.lemmas.List.{get_or_default}
use Rattle.hv_propagation.specs.Marks.{known}
use Rattle.hv_indexes.specs.Signed.{StandsAs}
use Rattle.hv_clauses.specs.Working.Affected.{turning_sign}
use Rattle.hv_clauses.proofs.affected.stands_among.Goals as goal

pub returns-then-stands_nowhere : goal.returns-then-stands_nowhere
returns-then-stands_nowhere g c = λ _ clauses index number turned.
    c.if-stands_nowhere.ensures refl clauses index turned.atom number
    (subst (λ (s : Bool). StandsAs s clauses turned.atom number)
    (sym c.turning_sign-positive.ensures) turned.stands)

pub loop-atom-preserved : goal.loop-atom-preserved
loop-atom-preserved g c = λ clauses index.
    below_more (λ k. (place : ℕ) → StandsAs c.turning_sign-positive.result clauses
    (get_or c.turned-turned.result.now k 0) place → ⊥) c.loop-atom.atom-index
    (λ k less place. c.loop-atom.invariant clauses index k less place)
    (λ place stands. c.if-not-stands_never.ensures refl clauses index place stands)

pub returns : goal.returns
returns g c = λ _ clauses index number turned.
    let at = c.turned-turned.ensures turned.atom
    (ap (λ e. known e turned.atom) c.effect.ensures ∙ turned.made) in
    let within : at.0 < length c.turned-turned.result.now = at.1 in
    let end = c.loop-atom-test.false in
    c.loop-atom.invariant clauses index at.0 (omega arith) number
    (subst (λ (s : Bool). StandsAs s clauses (get_or c.turned-turned.result.now at.0 0) number)
    (sym c.turning_sign-positive.ensures)
    (subst (λ a. StandsAs (turning_sign c.args.after c.args.value) clauses a number)
    (sym (get_or_default c.turned-turned.result.now at.0 0 turned.atom within ∙ at.2))
    turned.stands))
