use Rattle.std.proofs.Common.{◌≡◌, ◌∙◌, length, sym, ap, subst}
use Rattle.hv_sets.specs.Truth.{in_states}
use Rattle.hv_explicit.specs.Codes.{IsBelow}
use Rattle.hv_explicit.specs.Working.Codes.{HasListed}
use Rattle.hv_explicit.specs.ListedStates.{ListedStates, in_listing}
use Rattle.hv_explicit.proofs.LookUp.{listed_decides, same_tests}
use Rattle.hv_explicit.proofs.explicit.Explicit.has.Goals as goal

pub returns : goal.returns
returns g c = λ state size agree.
    let held = g.A.Sought.has c.args.held.now in
    let mine : length state ≡ c.self.inside.atoms = size
    ∙ sym (ap (λ (set : ListedStates). set.atoms) c.self.view_is) in
    let below : IsBelow c.self.inside.atoms held = subst
    (λ (set : ListedStates). IsBelow set.atoms held) (sym c.self.view_is) c.requires in
    subst (λ (set : ListedStates). c.lists_in.result ≡ in_listing set state) c.self.view_is
    (same_tests {P = HasListed held c.self.inside.states} c.lists_in.result
    (in_states c.self.inside.atoms c.self.inside.states state) c.lists_in.ensures
    (listed_decides c.self.inside.atoms held state mine below agree c.self.inside.states
    c.self.invariant.below))
