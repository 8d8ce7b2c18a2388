use Rattle.std.proofs.Common.{◌≡◌, true, get_or, subst, sym}
use Rattle.std.specs.List.{All}
use Rattle.hv_reach.specs.Reached.{ArePaired, has_pair}
use Rattle.hv_reach.proofs.pair_visit.follow_one.Goals as goal

pub returns-then-not-is_met-clause-done : goal.returns-then-not-is_met-clause-done
returns-then-not-is_met-clause-done c = λ free all.
    absurd (c.is_met.ensures.no c.if-not-is_met.true free all)

pub mark_row-requires-clause-itself : goal.mark_row-requires-clause-itself
mark_row-requires-clause-itself c =
    let met = c.is_met.ensures.yes c.if-not-is_met.false in
    let p = c.requires.glance.0 in
    c.requires.table.whole (get_or c.args.action.now.pre p.0 0) c.args.atom (met.1 p.0 0 p.1)

pub mark_row-requires-clause-diagonal : goal.mark_row-requires-clause-diagonal
mark_row-requires-clause-diagonal c =
    subst (λ xs. All (λ q. has_pair c.args.rows.now.items q q ≡ true) xs)
    (sym c.as_slice.ensures.items) (λ i d less. c.requires.add i d less i d less)

pub returns-clause-done : goal.returns-clause-done
returns-clause-done c = λ free all i d less.
    let e = c.mark_row.ensures in
    e.step.table.even c.args.atom (get_or c.args.action.now.add i d)
    (subst (λ xs. All (λ q. has_pair c.mark_row.new.rows.items c.args.atom q ≡ true) xs)
    c.as_slice.ensures.items e.set i d less)

pub returns-clause-least : goal.returns-clause-least
returns-clause-least c = λ r even keeps within.
    let a = c.args.action.now in
    let met = c.is_met.ensures.yes c.if-not-is_met.false in
    let p = c.requires.glance.0 in
    let itself = c.requires.table.whole (get_or a.pre p.0 0) c.args.atom (met.1 p.0 0 p.1) in
    let paired : ArePaired r a.pre a.pre = λ i d less j e below. within (get_or a.pre i d)
    (get_or a.pre j e) (c.requires.pre i d less j e below) in
    c.mark_row.ensures.least r even
    (subst (λ xs. All (λ q. r c.args.atom q ≡ true) xs) (sym c.as_slice.ensures.items)
    (λ i d less. even (get_or a.add i d) c.args.atom (keeps.other c.args.atom met.0 paired (
      within c.args.atom c.args.atom itself,
      λ j e below. within (get_or a.pre j e) c.args.atom (met.1 j e below),
    ) i d less)))
    within
