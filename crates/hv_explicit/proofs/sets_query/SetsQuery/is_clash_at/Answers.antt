use Rattle.std.proofs.Common.{◌≡◌, subst, sym, true, false}
use Rattle.hv_task.specs.State.{AreBelow, state_of}
use Rattle.hv_task.specs.Strips.{atoms}
use Rattle.hv_explicit.specs.Working.SomeStates.{IsOfFew, state_atoms}
use Rattle.hv_explicit.specs.Working.Search.{clashes_at, in_named}
use Rattle.hv_explicit.proofs.sets_query.SetsQuery.is_clash_at.Goals as goal

pub is_settled-requires : goal.is_settled-requires
is_settled-requires c =
    subst (λ n. AreBelow n (state_atoms c.at-held.result)) c.requires.atoms
    c.at-held.ensures.below

pub some_clashes-requires-clause-held : goal.some_clashes-requires-clause-held
some_clashes-requires-clause-held c =
    subst (λ n. AreBelow n (state_atoms c.at-held.result)) c.requires.atoms c.at-held.ensures.below

pub some_clashes-requires-clause-few : goal.some_clashes-requires-clause-few
some_clashes-requires-clause-few c =
    subst (λ n. IsOfFew n c.at-held.result) c.requires.atoms c.at-held.ensures.few

pub some_clashes-requires-clause-anchor : goal.some_clashes-requires-clause-anchor
some_clashes-requires-clause-anchor c =
    subst (λ held. in_named c.args.self.now c.args.anchor
    (state_of (atoms c.args.self.now.task) held) ≡ true) (sym c.at-held.ensures.atoms)
    c.requires.anchor

pub returns-then-is_settled : goal.returns-then-is_settled
returns-then-is_settled c =
    sym (subst (λ held. clashes_at c.args.self.now held ≡ false) c.at-held.ensures.atoms
    (c.is_settled.ensures c.if-is_settled.true))

pub returns : goal.returns
returns c =
    subst (λ held. c.some_clashes.result ≡ clashes_at c.args.self.now held) c.at-held.ensures.atoms
    c.some_clashes.ensures
