use Rattle.std.proofs.Common.{◌≡◌, ◌<◌, ◌-◌, [], false, true, refl, subst, arith, get_or, length}
use Rattle.hv_explicit.specs.Working.Codes.{IsCode, IsListCode}
use Rattle.hv_explicit.specs.Working.Listing.{first_at}
use Rattle.hv_explicit.proofs.Bits.{exact_same}
use Rattle.hv_explicit.proofs.LookUp.{coded_at, listed_first}
use Rattle.hv_explicit.proofs.state_index.has_code.Goals as goal

pub returns-then-end-eq0 : goal.returns-then-end-eq0
returns-then-end-eq0 g c =
    let set = g.A.Sought.has c.args.held.now in
    let states = c.args.states.now in
    let firsts = c.args.many.now.firsts in
    let index = c.requires.index.index in (
      λ e. let f : false ≡ true = e in absurd cc,
      λ has.
          let found = (listed_first set states firsts.places.items c.requires.index.firsts_are).1 has
          in
          let at = coded_at firsts.key states firsts.places.items firsts.codes set
          c.args.code found.0 index c.requires.code found.1 found.2 in
          let many = index.many in
          let none = c.if-end-eq0.true in
          let less = c.last-end.ensures.after found.0 (omega (arith, found.1)) at in
          absurd (omega arith),
    )

pub returns : goal.returns
returns g c =
    let set = g.A.Sought.has c.args.held.now in
    let states = c.args.states.now in
    let firsts = c.args.many.now.firsts in
    let index = c.requires.index.index in
    let are = c.requires.index.firsts_are in
    let some = c.if-end-eq0.false in
    let many = index.many in
    let upto = c.last-end.ensures.upto in
    let e = c.last-end.result - 1 in
    let within : e < length firsts.places.items = omega arith in
    let state = first_at states firsts.places.items e in
    let code = c.args.code in (
      λ _. (listed_first set states firsts.places.items are).0 (
        e,
        within,
        exact_same c.args.atoms c.requires.few set state code
            (subst (λ key. IsCode key set code) c.requires.bits c.requires.code)
            c.requires.fits
            (c.requires.of_task (get_or firsts.places.items e 0) [] (are.within e within))
            (subst (λ key. IsListCode key state code) c.requires.bits
            (subst (λ k. IsListCode firsts.key state k)
            (c.last-end.ensures.there (omega arith)) (index.code e within))),
      ),
      λ _. refl,
    )
