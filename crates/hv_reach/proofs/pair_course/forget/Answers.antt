use Rattle.std.proofs.Common.{arith, refl, sym}
use Rattle.hv_reach.proofs.Sets.{slice_get_at}
use Rattle.hv_reach.specs.declared.pair_course.ActionStanding.TheVariants as S
use Rattle.hv_reach.proofs.pair_course.forget.Goals as goal

pub returns-clause-new : goal.returns-clause-new
returns-clause-new c = λ k less.
    let size = c.in_ok-resize.ensures.len in
    let whole = c.resize.new.self.ok.0 in
    let none = c.clear.ensures.len in
    slice_get_at c.resize.new.self.items k S.New (omega (arith, less, size, whole))
    (sym (c.in_ok-resize.ensures.by_index.1 k S.New refl (omega (arith, none)) less))
