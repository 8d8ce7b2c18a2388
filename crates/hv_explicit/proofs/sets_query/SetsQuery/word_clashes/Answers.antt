use Rattle.std.proofs.Common.{◌≡◌, ◌∙◌, ◌&&◌, true, false, sym, ap}
use Rattle.std.proofs.lemmas.Bool.{both_ways}
use Rattle.hv_task.specs.State.{applicable, state_of, successor}
use Rattle.hv_task.specs.Strips.{atoms}
use Rattle.hv_explicit.specs.Working.Search.{in_named, is_fit}
use Rattle.hv_explicit.specs.Working.Words.{word_atoms}
use Rattle.hv_explicit.proofs.Clashes.{applies, applies_not, below_list, clash_acting, clash_alone}
use Rattle.hv_explicit.proofs.Clashes.{known_before, stands_after, stands_list}
use Rattle.hv_explicit.proofs.sets_query.SetsQuery.word_clashes.Goals as goal

pub fits-requires-clause-before : goal.fits-requires-clause-before
fits-requires-clause-before c = below_list (atoms c.args.self.now.task)
    (word_atoms c.args.held.bits) c.requires.held

pub fits-requires-clause-after : goal.fits-requires-clause-after
fits-requires-clause-after c = below_list (atoms c.args.self.now.task)
    (word_atoms c.args.held.bits) c.requires.held

pub fits-requires-clause-anchor : goal.fits-requires-clause-anchor
fits-requires-clause-anchor c = known_before c.args.self.now.task
    (in_named c.args.self.now c.args.anchor)
    (word_atoms c.args.held.bits) c.requires.held c.requires.anchor

pub returns-in-None : goal.returns-in-None
returns-in-None c =
    let task = c.args.self.now.task in
    let held = word_atoms c.args.held.bits in
    let state = state_of (atoms task) held in
    let stands = stands_list task held c.requires.held in
    c.fits.ensures state state stands stands
    ∙ clash_alone c.args.self.now state (c.in-None.ensures c.requires.few)

pub returns-then-is_enabled : goal.returns-then-is_enabled
returns-then-is_enabled c =
    let task = c.args.self.now.task in
    let held = word_atoms c.args.held.bits in
    let action = c.in-Some.bits.now.action.now in
    let state = state_of (atoms task) held in
    let fit = c.word_fits_after.ensures state (successor action state)
    (stands_list task held c.requires.held)
    (stands_after task action held c.requires.held c.in-Some.ensures.1) in
    let yes : applicable action state ≡ true = applies (atoms task) held action.pre
    c.requires.held (c.is_enabled.ensures.0 c.if-is_enabled.true) in
    fit ∙ (ap (λ b. b && is_fit c.args.self.now state (successor action state)) (sym yes)
    ∙ clash_acting c.args.self.now state action c.in-Some.ensures.0)

pub returns-else-is_enabled : goal.returns-else-is_enabled
returns-else-is_enabled c =
    let task = c.args.self.now.task in
    let held = word_atoms c.args.held.bits in
    let action = c.in-Some.bits.now.action.now in
    let state = state_of (atoms task) held in
    let no : applicable action state ≡ false =
    applies_not (atoms task) held action.pre c.in-Some.ensures.1.pre
    (λ has. both_ways c.is_enabled.result c.if-is_enabled.false (c.is_enabled.ensures.1 has)) in
    c.if-is_enabled.false ∙ (ap (λ b. b && is_fit c.args.self.now state (successor action state))
    (sym no)
    ∙ clash_acting c.args.self.now state action c.in-Some.ensures.0)
