use Rattle.std.proofs.Common.{◌∙◌, [], false, ap, arith}
use Rattle.std.proofs.lemmas.List.{get_or_read, take_all}
use Rattle.std.proofs.lemmas.Option.{get_or_from_slice_get}
use Rattle.std.specs.List.{filter}
use Rattle.hv_trap.proofs.Enclosing.{filter_next}
use Rattle.hv_trap.proofs.clause_marks.left_of.Goals as goal

pub loop-place-preserved : goal.loop-place-preserved
loop-place-preserved c = λ stays marks.
    let end = c.len-place-end.ensures in
    let less = c.loop-place-test.true in
    filter_next stays c.args.clauses.now c.loop-place.place c.get.result.now c.loop-place.kept
    c.put_left.new.kept c.get.ensures (c.loop-place.invariant stays marks)
    (c.in_ok-put_left.ensures stays
    (get_or_read c.args.left.now.items c.loop-place.place c.index.result.now
    (let size = c.requires in omega (arith, end, less, size)) c.index.ensures false
    ∙ marks c.loop-place.place (omega (arith, end, less))
    ∙ ap stays (get_or_from_slice_get c.args.clauses.now c.loop-place.place c.get.result.now []
    c.get.ensures)))

pub returns : goal.returns
returns c = λ stays marks.
    let end = c.len-place-end.ensures in
    let past = c.loop-place-test.false in
    c.loop-place.invariant stays marks
    ∙ ap (filter stays)
    (take_all c.loop-place.place c.args.clauses.now (omega (arith, end, past)))
