use Rattle.std.proofs.Common.{◌+◌, ◌++◌, ◌∷◌, [], sym, subst, Some, ap, ◌∙◌}
use Rattle.hv_task.specs.State.{names_atom}
use Rattle.hv_explicit.specs.Working.Codes.{IsListCode}
use Rattle.hv_explicit.specs.Working.Listing.{AreFirsts, IsEnteredState, IsIndex}
use Rattle.hv_explicit.proofs.LookUp.{firsts_more, firsts_there, index_more}
use Rattle.hv_explicit.proofs.Totals.{is_list_code}
use Rattle.hv_explicit.proofs.firsts.enter.Goals as goal

pub look_up-requires-clause-code : goal.look_up-requires-clause-code
look_up-requires-clause-code c =
    is_list_code c.args.firsts.now.key c.new-held.result.code c.new-held.result.atoms.now
    (subst (λ key. IsListCode key c.new-held.result.atoms.now c.new-held.result.code)
    c.new-held.ensures.key c.new-held.result.coded)

pub returns-then-look_up-clause-firsts : goal.returns-then-look_up-clause-firsts
returns-then-look_up-clause-firsts c = λ _.
    firsts_there c.args.states.now c.args.firsts.now.places.items c.args.place
    c.slice.result.now (c.get.ensures.state ∙ ap Some (sym c.slice.ensures.atoms))
    c.requires.rise c.requires.firsts
    (subst (λ xs. IsEnteredState (names_atom xs) c.args.states.now c.args.firsts.now.places.items)
    c.new-held.ensures.atoms (c.look_up.ensures.0 c.if-look_up.true))

pub returns-clause-firsts : goal.returns-clause-firsts
returns-clause-firsts c = λ _.
    subst (λ firsts. AreFirsts c.args.states.now firsts (c.args.place + 1))
    (sym c.in_ok-push-2.ensures.items)
    (firsts_more c.args.states.now c.args.firsts.now.places.items c.args.place
    c.slice.result.now (c.get.ensures.state ∙ ap Some (sym c.slice.ensures.atoms))
    c.requires.firsts)

pub returns-clause-index : goal.returns-clause-index
returns-clause-index c = λ _.
    subst (λ codes. IsIndex c.args.firsts.now.key codes c.push-2.new.self.items c.args.states.now)
    (sym c.in_ok-push.ensures.ok)
    (subst (λ firsts. IsIndex c.args.firsts.now.key
    (c.args.firsts.now.codes ++ c.new-held.result.code ∷ []) firsts
    c.args.states.now) (sym c.in_ok-push-2.ensures.items)
    (index_more c.args.states.now c.args.firsts.now.places.items c.args.place
    c.slice.result.now (c.get.ensures.state ∙ ap Some (sym c.slice.ensures.atoms))
    c.args.firsts.now.key c.args.firsts.now.codes
    c.new-held.result.code c.requires.index
    (subst (λ xs. IsListCode c.args.firsts.now.key xs c.new-held.result.code)
    c.new-held.ensures.atoms (subst (λ key. IsListCode key c.new-held.result.atoms.now
    c.new-held.result.code) c.new-held.ensures.key c.new-held.result.coded))))
