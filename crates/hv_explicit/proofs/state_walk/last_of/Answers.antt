use Rattle.std.proofs.Common.{◌-◌, [], ap, sym, Some, ◌∙◌}
use Rattle.std.proofs.lemmas.Option.{get_or_from_slice_get}
use Rattle.hv_explicit.specs.Walked.{last_atoms}
use Rattle.hv_explicit.proofs.Walked.{last_is}
use Rattle.hv_explicit.proofs.state_walk.last_of.Goals as goal

pub returns-then-taken-eq0 : goal.returns-then-taken-eq0
returns-then-taken-eq0 c = ap (last_atoms c.args.states.now) (sym c.if-taken-eq0.true)

pub returns : goal.returns
returns c =
    last_is c.args.states.now c.args.taken c.slice.result.now c.if-taken-eq0.false
    (get_or_from_slice_get c.args.states.now (c.args.taken - 1) c.slice.result.now []
    (c.get.ensures.state ∙ ap Some (sym c.slice.ensures.atoms)))
