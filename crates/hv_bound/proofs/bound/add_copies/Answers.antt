use Rattle.std.proofs.Common.{◌++◌, ◌∷◌, [], ◌∙◌, List, length, map, arith, ap, refl, subst}
use Rattle.std.proofs.Common.{sym}
use Rattle.hv_task.specs.declared.action.Action.{Action}
use Rattle.hv_task.specs.Strips.{IsOver, Strips, atoms}
use Rattle.hv_bound.specs.Bounded.{all_copies, amounts, paid_copy}
use Rattle.hv_bound.proofs.Copying.{IsOver-free_copy, copies_free, copies_paid, length-amounts}
use Rattle.hv_bound.proofs.Copying.{length-copies_paid, made_all_copies, more_copies, room_next}
use Rattle.hv_bound.proofs.bound.add_copies.Goals as goal
use Rattle.hv_bound.proofs.bound.add_copies.Goals.{else-action-eq0+in_ok-add_paid_copies}
use Rattle.hv_bound.proofs.bound.add_copies.Goals.{then-action-eq0+in_ok-free_copy+in_ok-add_action}

pub loop-number-init : goal.loop-number-init
loop-number-init c = record {
  same = refl;
  rest = ap (λ (xs : List Action). xs
      ++ all_copies (atoms c.args.task.now) c.args.most c.args.task.now.actions) c.requires.none;
}

pub add_action-requires-clause-over : goal.add_action-requires-clause-over
add_action-requires-clause-over c =
    let size = ap (λ (t : Strips). length t.names) c.loop-number.invariant.same in
    subst (IsOver (atoms c.loop-number.made)) (sym c.in_ok-free_copy.ensures)
    (IsOver-free_copy (atoms c.args.task.now) (atoms c.loop-number.made) c.loop-number.number
    c.action-action.result.now (omega (arith, c.requires.atoms)) c.action-action.ensures.over)

pub add_action-requires-clause-room : goal.add_action-requires-clause-room
add_action-requires-clause-room c =
    omega (
      arith,
      room_next (atoms c.args.task.now) c.args.most c.args.task.now.actions
          c.loop-number.made.actions
          (all_copies (atoms c.args.task.now) c.args.most c.args.task.now.actions)
          c.loop-number.number c.action-action.result.now 1000000 c.action-action.ensures.named
          c.loop-number.invariant.rest c.requires.few,
      ap length (copies_free (atoms c.args.task.now) c.args.most c.loop-number.number
          c.action-action.result.now c.if-action-eq0.true),
    )

pub add_paid_copies-requires-clause-atoms : goal.add_paid_copies-requires-clause-atoms
add_paid_copies-requires-clause-atoms c =
    let size = ap (λ (t : Strips). length t.names) c.loop-number.invariant.same in
    omega (arith, c.requires.atoms, c.atoms.ensures.atoms)

pub add_paid_copies-requires-clause-few : goal.add_paid_copies-requires-clause-few
add_paid_copies-requires-clause-few c =
    omega (
      arith,
      room_next (atoms c.args.task.now) c.args.most c.args.task.now.actions
          c.loop-number.made.actions
          (all_copies (atoms c.args.task.now) c.args.most c.args.task.now.actions)
          c.loop-number.number c.action-action.result.now 1000000 c.action-action.ensures.named
          c.loop-number.invariant.rest c.requires.few,
      length-copies_paid (atoms c.args.task.now) c.args.most c.loop-number.number
          c.action-action.result.now c.if-action-eq0.false,
      length-amounts c.action-action.result.now.cost c.args.most,
    )

pub loop-number-preserved : goal.loop-number-preserved
loop-number-preserved c =
    let i = c.loop-number.invariant in
    elim c.if-action-eq0.branch [
      | then-action-eq0+in_ok-free_copy+in_ok-add_action w ↦
          let r = more_copies (atoms c.args.task.now) c.args.most c.args.task.now.actions
          c.args.made.now c.loop-number.made c.if-action-eq0.made
          (all_copies (atoms c.args.task.now) c.args.most c.args.task.now.actions)
          c.loop-number.number c.action-action.result.now (w.in_ok-free_copy.field-0 ∷ [])
          i.same i.rest c.action-action.ensures.named
          (w.made-is ∙ w.in_ok-add_action.ensures.ok)
          (ap (λ (x : Action). x ∷ []) w.in_ok-free_copy.ensures
          ∙ sym (copies_free (atoms c.args.task.now) c.args.most c.loop-number.number
          c.action-action.result.now w.if-action-eq0.true)) in
          record { same = r.0; rest = r.1 }
      | else-action-eq0+in_ok-add_paid_copies w ↦
          let a = c.action-action.result.now in
          let r = more_copies (atoms c.args.task.now) c.args.most c.args.task.now.actions
          c.args.made.now c.loop-number.made c.if-action-eq0.made
          (all_copies (atoms c.args.task.now) c.args.most c.args.task.now.actions)
          c.loop-number.number a
          (map (paid_copy w.atoms.result c.loop-number.number a) (amounts a.cost c.args.most))
          i.same i.rest c.action-action.ensures.named
          (w.made-is ∙ w.in_ok-add_paid_copies.ensures)
          (ap (λ first. map (paid_copy first c.loop-number.number a) (amounts a.cost c.args.most))
          w.atoms.ensures.atoms
          ∙ sym (copies_paid (atoms c.args.task.now) c.args.most c.loop-number.number a
          w.if-action-eq0.false)) in
          record { same = r.0; rest = r.1 }
    ]

pub returns : goal.returns
returns c =
    c.loop-number.invariant.same
    ∙ ap (λ (xs : List Action). record c.args.made.now { actions = xs })
    (made_all_copies (atoms c.args.task.now) c.args.most c.args.task.now.actions
    c.loop-number.made.actions
    (all_copies (atoms c.args.task.now) c.args.most c.args.task.now.actions) c.loop-number.number
    (omega (arith, c.actions-number-end.ensures.actions)) c.loop-number.invariant.rest)
