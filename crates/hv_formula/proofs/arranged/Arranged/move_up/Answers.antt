use Rattle.std.proofs.Common.{◌≡◌, ◌∙◌, ◌≤◌, ◌<◌, arith, refl, get_or}
use Rattle.std.proofs.lemmas.List.{get_or_default}
use Rattle.hv_formula.proofs.Rest.{moved_up}
use Rattle.hv_formula.proofs.arranged.Arranged.move_up.Goals as goal

pub returns-clause-arranged : goal.returns-clause-arranged
returns-clause-arranged c = λ count less is.
    let old = c.args.self.now in
    let at = c.index.result.now in
    let other = c.index-other.result.now in
    let is_at : at ≡ get_or old.places.items c.args.clause 0 =
    c.index.ensures ∙ get_or_default old.places.items c.args.clause at 0 (omega
    (arith, less, is.room)) in
    let within : at < count = omega (arith, is_at, is.within c.args.clause less) in
    let late : old.done ≤ at = c.if-place-self.false in
    let in_order : old.done < count = omega (arith, late, within) in
    let is_other : other ≡ get_or old.order.items old.done 0 =
    c.index-other.ensures ∙ get_or_default old.order.items old.done other 0 (omega
    (arith, in_order, is.size)) in
    moved_up count c.args.clause old.done at other old.order.items old.places.items less late within
    (omega (arith, is_other, is.below old.done in_order)) is.size is.room is_at is_other is.back
    _ is.fits is.below is.within refl refl refl
