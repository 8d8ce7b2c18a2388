use Rattle.std.proofs.Common.{◌≡◌, ◌<◌, [], get_or, length, subst, sym}
use Rattle.hv_explicit.specs.Working.Codes.{IsListCode}
use Rattle.hv_explicit.specs.Working.Places.{code_at}
use Rattle.hv_explicit.proofs.Packed.{word_of_list}
use Rattle.hv_explicit.proofs.firsts.word_of_state.Goals as goal

pub returns-in-Some : goal.returns-in-Some
returns-in-Some c =
    let states = c.args.states.now in
    let place = c.args.place in
    let firsts = c.args.firsts.now in
    let held = get_or states place [] in
    let entry = c.in-Some.entry in
    let code = c.get.result in
    let found = subst (λ xs. (entry < length xs) × (get_or xs entry 0 ≡ place))
    c.as_slice.ensures.value c.in-Some.ensures in
    word_of_list held code c.get.type_inv (c.requires.rise place [] c.requires.place)
    (c.requires.below place [] c.requires.place)
    (subst (λ key. IsListCode key held code) c.requires.bits
    (subst (λ k. IsListCode firsts.key held k) (sym c.get.ensures)
    (subst (λ p. IsListCode firsts.key (get_or states p []) (code_at firsts.codes entry))
    found.1 (c.requires.index.code entry found.0))))
