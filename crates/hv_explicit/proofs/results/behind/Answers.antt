use Rattle.std.proofs.Common.{arith}
use Rattle.hv_explicit.proofs.Merging.{split_past, split_stay}
use Rattle.hv_explicit.proofs.results.behind.Goals as goal

pub returns-then-place-list-clause-split : goal.returns-then-place-list-clause-split
returns-then-place-list-clause-split c =
    split_stay c.args.list.now c.requires.rises c.args.place c.args.atom c.requires.split
    (λ within is. let past = c.if-place-list.true in omega arith)

pub returns-then-list-place-clause-split : goal.returns-then-list-place-clause-split
returns-then-list-place-clause-split c =
    split_stay c.args.list.now c.requires.rises c.args.place c.args.atom c.requires.split
    (λ within is. c.if-list-place.true is)

pub returns-clause-split : goal.returns-clause-split
returns-clause-split c =
    split_past c.args.list.now c.requires.rises c.args.place c.args.atom c.requires.split
    c.if-place-list.false c.if-list-place.false
