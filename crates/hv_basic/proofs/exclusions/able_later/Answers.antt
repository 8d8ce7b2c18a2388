use Rattle.std.proofs.Common.{◌∙◌, ap, false, length, not, refl, subst, sym, true}
use Rattle.hv_task.specs.State.{AreBelow, put_all}
use Rattle.hv_task.proofs.Places.{length-put_all}
use Rattle.hv_basic.specs.Working.Excluded.{AreAbleAt, turned_atoms}
use Rattle.hv_basic.specs.Working.Framed.{sign_to}
use Rattle.hv_basic.proofs.Crossing.{changed_below}
use Rattle.hv_basic.proofs.Excluding.{able_after}
use Rattle.hv_basic.proofs.exclusions.able_later.Goals as goal

pub put_atoms-requires-2 : goal.put_atoms-requires-2
put_atoms-requires-2 c =
    let n = length c.args.able.now in
    let size = ap length c.put_atoms.ensures
    ∙ length-put_all false c.fixed_later.result.now c.args.able.now in
    subst (AreBelow (length c.put_atoms.new.able)) (sym c.turned_atoms.ensures)
    (subst (λ m. AreBelow m (turned_atoms c.args.value c.args.into c.args.action.now)) (sym size)
    (changed_below n (sign_to c.args.into (not c.args.value)) c.args.action.now c.requires))

pub returns-clause-size : goal.returns-clause-size
returns-clause-size c =
    ap length c.put_atoms-2.ensures
    ∙ (length-put_all true c.turned_atoms.result.now c.put_atoms.new.able
    ∙ (ap length c.put_atoms.ensures
    ∙ length-put_all false c.fixed_later.result.now c.args.able.now))

pub returns-clause-able : goal.returns-clause-able
returns-clause-able c = λ before.
    let n = length c.args.able.now in
    let value = c.args.value in
    let into = c.args.into in
    let action = c.args.action.now in
    let is = c.put_atoms-2.ensures
    ∙ (ap (λ xs. put_all true xs c.put_atoms.new.able) c.turned_atoms.ensures
    ∙ ap (put_all true (turned_atoms value into action))
    (c.put_atoms.ensures ∙ ap (λ xs. put_all false xs c.args.able.now) c.fixed_later.ensures)) in
    subst (AreAbleAt n c.args.clauses.now value into (not into) action) (sym is)
    (able_after n c.args.clauses.now value into action c.args.able.now refl before)
