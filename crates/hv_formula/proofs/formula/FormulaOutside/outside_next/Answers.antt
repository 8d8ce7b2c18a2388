use Rattle.std.proofs.Common.{◌≡◌, ◌+◌, ◌∷◌, None, Some, drop, refl, sym, subst, arith}
use Rattle.std.proofs.lemmas.Option.{get_or_from_slice_get}
use Rattle.hv_sets.specs.Cubes.{SpeakBelow}
use Rattle.hv_formula.specs.Clausal.{FormulaState}
use Rattle.hv_formula.specs.Denial.{steps_of}
use Rattle.hv_formula.proofs.Outside.{step_taken, step_void, step_speaks}
use Rattle.hv_formula.proofs.formula.FormulaOutside.outside_next.Goals as goal

pub returns-then-is_some-clause-step : goal.returns-then-is_some-clause-step
returns-then-is_some-clause-step g c =
    subst
    (λ (set : FormulaState).
    drop c.args.cursor.now.place (steps_of set) ≡ Some c.fill.new.cube
    ∷ drop (c.args.cursor.now.place + 1) (steps_of set))
    c.self.view_is
    (step_taken c.self.inside.clauses c.args.cursor.now.place
    (let len = c.len.ensures in let less = c.if-cursor-len.false in omega arith)
    c.get.result.now c.get.result.now (sym
    (get_or_from_slice_get c.self.inside.clauses c.args.cursor.now.place c.get.result.now
    c.get.result.now c.get.ensures)) refl c.fill.new.cube
    (c.in_ok-is_some.ensures.some c.if-is_some.true))

pub returns-then-is_some-clause-cube : goal.returns-then-is_some-clause-cube
returns-then-is_some-clause-cube g c =
    subst (λ (set : FormulaState). SpeakBelow set.atoms c.fill.new.cube) c.self.view_is
    (step_speaks c.self.inside.clauses c.args.cursor.now.place
    (let len = c.len.ensures in let less = c.if-cursor-len.false in omega arith)
    c.get.result.now c.get.result.now (sym
    (get_or_from_slice_get c.self.inside.clauses c.args.cursor.now.place c.get.result.now
    c.get.result.now c.get.ensures)) refl c.self.inside.atoms c.fill.new.cube
    c.self.invariant.1.below
    (c.in_ok-is_some.ensures.some c.if-is_some.true))

pub returns-else-is_some-clause-step : goal.returns-else-is_some-clause-step
returns-else-is_some-clause-step g c =
    subst
    (λ (set : FormulaState).
    drop c.args.cursor.now.place (steps_of set) ≡ None
    ∷ drop (c.args.cursor.now.place + 1) (steps_of set))
    c.self.view_is
    (step_void c.self.inside.clauses c.args.cursor.now.place
    (let len = c.len.ensures in let less = c.if-cursor-len.false in omega arith)
    c.get.result.now c.get.result.now (sym
    (get_or_from_slice_get c.self.inside.clauses c.args.cursor.now.place c.get.result.now
    c.get.result.now c.get.ensures)) refl (c.in_ok-is_some.ensures.none c.if-is_some.false))
