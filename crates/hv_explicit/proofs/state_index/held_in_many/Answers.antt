use Rattle.std.proofs.Common.{◌<◌, subst}
use Rattle.std.specs.List.{All}
use Rattle.hv_explicit.specs.Working.Holders.{listed_places}
use Rattle.hv_explicit.proofs.Holding.{are_holders, held_index, zip_found}
use Rattle.hv_explicit.proofs.state_index.held_in_many.Goals as goal

pub returns-in-Some : goal.returns-in-Some
returns-in-Some c =
    let states = c.args.states.now in
    let many = c.args.many.now in
    let h = c.in-Some.holders in
    zip_found _ _ _ c.holding_all.result c.holding_all.ensures.only c.holding_all.ensures.all
    (λ part only all. are_holders states many.firsts.places.items h (listed_places part)
    c.args.atoms.now c.requires.firsts_are
    (held_index states many.firsts.places.items _ h c.in-Some.is c.requires.holders_are)
    (subst (λ n. All (λ p. p < n) (listed_places part)) c.len.ensures.len only) all)
