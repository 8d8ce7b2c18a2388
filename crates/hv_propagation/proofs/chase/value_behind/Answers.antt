use Rattle.std.proofs.Common.{◌≡◌, ◌∙◌, sym, ap}
use Rattle.std.proofs.lemmas.Option.{get_or_from_slice_get}
use Rattle.hv_sets.specs.declared.literal.Literal.{Literal}
use Rattle.hv_propagation.specs.Trail.{marks_of}
use Rattle.hv_propagation.specs.Units.{value_of}
use Rattle.hv_sets.specs.Cubes.{opposite}
use Rattle.hv_propagation.proofs.Marked.{behind_none, behind_some}
use Rattle.hv_propagation.proofs.chase.value_behind.Goals as goal

pub returns-in-None : goal.returns-in-None
returns-in-None c = λ l at.
    let m = c.args.marks.now in
    let k = c.get_known-literal.result in
    let same : k ≡ l = sym (get_or_from_slice_get m.trail c.args.from k k
    c.get_known-literal.ensures.here) ∙ get_or_from_slice_get m.trail c.args.from l k at in
    sym (behind_none c.args.effect.now (marks_of m) k (sym c.read.ensures ∙ c.in-None.is)
    c.get_known-literal.ensures.known)
    ∙ ap (λ (x : Literal). value_of c.args.effect.now (marks_of m) (opposite x)) same

pub returns-in-Some : goal.returns-in-Some
returns-in-Some c = λ l at.
    let m = c.args.marks.now in
    let k = c.get_known-literal.result in
    let same : k ≡ l = sym (get_or_from_slice_get m.trail c.args.from k k
    c.get_known-literal.ensures.here) ∙ get_or_from_slice_get m.trail c.args.from l k at in
    sym (behind_some c.args.effect.now (marks_of m) k c.in-Some.value
    (sym c.read.ensures ∙ c.in-Some.is))
    ∙ ap (λ (x : Literal). value_of c.args.effect.now (marks_of m) (opposite x)) same
