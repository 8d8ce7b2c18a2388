use Rattle.std.proofs.Common.{◌≡◌, ◌∙◌, ℕ, Bool, true, false, List, refl, sym, subst}
use Rattle.hv_sets.specs.declared.literal.Literal.{Literal}
use Rattle.hv_sets.specs.declared.operand.Which.TheVariants as W
use Rattle.hv_indexes.specs.Occurrences.{IsIndexOf}
use Rattle.hv_clauses.specs.Working.Affected.{IsTurnedBy, turning_sign}
use Rattle.hv_clauses.specs.Working.Posed.{formulas}
use Rattle.hv_clauses.proofs.affected.is_touched.Goals as goal

either : (effect : List ℕ) (after : Bool) (clauses : List (List Literal)) (place : ℕ)
    → (IsTurnedBy effect true (turning_sign after true) clauses place → ⊥)
    → (IsTurnedBy effect false (turning_sign after false) clauses place → ⊥)
    → (value : Bool) → IsTurnedBy effect value (turning_sign after value) clauses place → ⊥
either effect after clauses place first second true turned = first turned
either effect after clauses place first second false turned = second turned

pub returns : goal.returns
returns g c = λ is number which value place turned.
    let p = c.args.problem.now in
    let after = c.args.operand.after in
    let n = c.in-Set.number in
    let equal : W.Set n ≡ W.Set number = sym c.in-Set.is ∙ which in
    let here : n ≡ number = cc in
    let index = subst (λ cs. IsIndexOf cs c.occurs-occurs.result.now) c.set.ensures.clauses
    c.occurs-occurs.ensures in
    either p.effect after (formulas p n) place
    (c.if-stands_among.ensures refl (formulas p n) index place)
    (c.stands_among-2.ensures is (formulas p n) index place) value
    (subst (λ m. IsTurnedBy p.effect value (turning_sign after value) (formulas p m) place)
    (sym here) turned)
