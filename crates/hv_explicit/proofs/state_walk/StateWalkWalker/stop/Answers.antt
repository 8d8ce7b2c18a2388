use Rattle.std.proofs.Common.{◌≡◌, ◌<◌, ◌∙◌, ◌-◌, [], arith, length, subst, sym, ap, get_or}
use Rattle.std.proofs.lemmas.Option.{get_or_from_slice_get}
use Rattle.hv_task.specs.State.{AreBelow}
use Rattle.hv_explicit.proofs.Walked.{stop_is}
use Rattle.hv_explicit.proofs.state_walk.StateWalkWalker.stop.Goals as goal

pub returns : goal.returns
returns c =
    let q = c.args.self.now in
    let states = c.states-states.result.now in
    let held = c.get.result in
    let less : q.taken - 1 < length states =
    omega (arith, c.if-self-eq0.false, c.requires.few, ap length c.states-states.ensures.states) in
    let is : get_or states (q.taken - 1) [] ≡ held =
    get_or_from_slice_get states (q.taken - 1) held [] c.get.ensures.state in
    let s = stop_is q.set.now q.taken q.state held c.requires c.if-self-eq0.false
    (λ place e. sym is
    ∙ (ap (λ xs. get_or xs (q.taken - 1) []) c.states-states.ensures.states
    ∙ ap (λ k. get_or q.set.now.states k []) (omega (arith, e)))) in (
      subst (λ xs. AreBelow q.set.now.atoms xs) is
          (c.states-states.ensures.below (q.taken - 1) [] less),
      c.requires.size,
      s.0,
      s.1,
    )
