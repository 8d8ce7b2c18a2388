use Rattle.std.proofs.Common.{sym, subst}
use Rattle.hv_explicit.specs.ListedStates.{AreRising, AreStates, ListedStates}
use Rattle.hv_explicit.specs.Working.Owners.{AreListings}
use Rattle.hv_explicit.proofs.Owned.{listed_more}
use Rattle.hv_explicit.proofs.explicits.Explicits.add.Goals as goal

pub invariant_of-self-in_err-push : goal.invariant_of-self-in_err-push
invariant_of-self-in_err-push c =
    subst AreListings (sym c.in_err-push.ensures.items) c.self.invariant

pub invariant_of-self-2 : goal.invariant_of-self-2
invariant_of-self-2 c =
    subst AreListings (sym c.in_ok-push.ensures.items)
    (listed_more c.self.inside.sets.items c.args.set c.self.invariant
    (subst (λ (s : ListedStates). AreStates s.atoms s.states × AreRising s.states)
    c.set.view_is (c.set.invariant.below, c.set.invariant.rise)))
