use Rattle.std.proofs.Common.{◌+◌, ◌≤◌, ◌++◌, ◌∷◌, [], ◌∙◌, List, length, length-append, map, arith}
use Rattle.std.proofs.Common.{ap}
use Rattle.std.proofs.Common.{refl, subst, sym}
use Rattle.std.proofs.lemmas.List.{length-map}
use Rattle.hv_task.specs.declared.action.Action.{Action}
use Rattle.hv_task.specs.Strips.{IsOver, Strips, atoms}
use Rattle.hv_bound.specs.Bounded.{amounts, paid_copy}
use Rattle.hv_bound.proofs.Copying.{IsOver-paid_copy, grown_actions, length-amounts, made_amount}
use Rattle.hv_bound.proofs.Copying.{made_amounts, room_left}
use Rattle.hv_bound.proofs.bound.add_paid_copies.Goals as goal

pub loop-left-init : goal.loop-left-init
loop-left-init c = record { same = refl; rest = refl }

pub add_action-requires-clause-over : goal.add_action-requires-clause-over
add_action-requires-clause-over c =
    let size = ap (λ (t : Strips). length t.names) c.loop-left.invariant.same in
    subst (IsOver (atoms c.loop-left.made)) (sym c.in_ok-paid_copy.ensures)
    (IsOver-paid_copy c.args.first_counter (atoms c.loop-left.made) c.args.number c.args.action.now
    c.loop-left.left (omega (arith, c.requires.atoms)) (omega arith) c.requires.over)

pub add_action-requires-clause-room : goal.add_action-requires-clause-room
add_action-requires-clause-room c =
    let f = paid_copy c.args.first_counter c.args.number c.args.action.now in
    let whole = c.args.made.now.actions ++ map f (amounts c.args.action.now.cost c.args.most) in
    let few : length whole ≤ 1000000 =
    omega (
      arith,
      length-append c.args.made.now.actions (map f (amounts c.args.action.now.cost c.args.most)),
      length-map (amounts c.args.action.now.cost c.args.most) f,
    ) in
    omega (
      arith,
      room_left c.loop-left.made.actions (map f (amounts c.loop-left.left c.args.most))
          whole 1000000 c.loop-left.invariant.rest few,
      length-map (amounts c.loop-left.left c.args.most) f,
      length-amounts c.loop-left.left c.args.most,
    )

pub loop-left-preserved : goal.loop-left-preserved
loop-left-preserved c =
    let f = paid_copy c.args.first_counter c.args.number c.args.action.now in
    let grown = grown_actions c.args.made.now c.loop-left.made c.add_action.new.self
    (c.in_ok-paid_copy.field-0 ∷ []) c.loop-left.invariant.same c.in_ok-add_action.ensures.ok in
    record {
      same = grown.0;
      rest = ap (λ xs. xs ++ map f (amounts (c.loop-left.left + 1) c.args.most)) grown.1
          ∙ ap (λ (x : Action). (c.loop-left.made.actions ++ x ∷ [])
          ++ map f (amounts (c.loop-left.left + 1) c.args.most)) c.in_ok-paid_copy.ensures
          ∙ made_amount f c.loop-left.made.actions
          (c.args.made.now.actions ++ map f (amounts c.args.action.now.cost c.args.most))
          c.loop-left.left c.args.most (omega arith) c.loop-left.invariant.rest;
    }

pub returns : goal.returns
returns c =
    let f = paid_copy c.args.first_counter c.args.number c.args.action.now in
    c.loop-left.invariant.same
    ∙ ap (λ (xs : List Action). record c.args.made.now { actions = xs })
    (made_amounts f c.loop-left.made.actions
    (c.args.made.now.actions ++ map f (amounts c.args.action.now.cost c.args.most)) c.loop-left.left
    c.args.most (omega arith) c.loop-left.invariant.rest)
