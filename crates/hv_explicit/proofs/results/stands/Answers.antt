use Rattle.std.proofs.Common.{arith, sym}
use Rattle.std.proofs.lemmas.Bool.{false_from_ne_true}
use Rattle.hv_task.specs.State.{names_atom}
use Rattle.hv_explicit.proofs.Merging.{named_at, stands}
use Rattle.hv_explicit.proofs.results.stands.Goals as goal

pub returns-then-place-list : goal.returns-then-place-list
returns-then-place-list c =
    sym (false_from_ne_true (names_atom c.args.list.now c.args.atom) (λ e.
    let here = stands c.args.list.now c.requires.rises c.args.place c.args.atom c.requires.split e
    in
    let within = here.0 in
    let past = c.if-place-list.true in
    omega arith))

pub returns-then-list-place : goal.returns-then-list-place
returns-then-list-place c =
    sym (false_from_ne_true (names_atom c.args.list.now c.args.atom) (λ e.
    let here = stands c.args.list.now c.requires.rises c.args.place c.args.atom c.requires.split e
    in
    c.if-list-place.true here.1))

pub returns : goal.returns
returns c =
    sym (named_at c.args.list.now c.args.place c.args.atom c.if-place-list.false
    c.if-list-place.false)
