use Rattle.std.proofs.Common.{subst}
use Rattle.hv_explicit.specs.ListedStates.{AreStates}
use Rattle.hv_explicit.proofs.LookUp.{listed_decides}
use Rattle.hv_explicit.proofs.explicit.Explicit.lists_at.Goals as goal

pub returns-then-place-len : goal.returns-then-place-len
returns-then-place-len g c = λ yes state size agree.
    let set = g.A.Sought.has c.args.held.now in
    let n = c.args.self.now.atoms in
    let states = c.args.self.now.states in
    let are = subst (λ xs. AreStates n xs) c.states-states.ensures.states
    c.states-states.ensures.below in
    let at = c.has_state_at.ensures.0 yes in
    (listed_decides n set state size c.requires agree states are).1 (
      c.args.place,
      at.0,
      at.1,
    )
