use Rattle.std.proofs.Common.{◌≡◌, ◌∙◌, Ok, Err, ap, arith, get_or, length, subst, sym}
use Rattle.std.specs.List.{Contains}
use Rattle.std.specs.List.Sorted.{IsStrictlyIncreasing}
use Rattle.hv_task.proofs.Rising.{absent_from_place, place_from_search}
use Rattle.hv_explicit.proofs.Holding.{flags_found}
use Rattle.hv_explicit.proofs.atom_columns.column_of.Goals as goal

pub returns-in-Ok : goal.returns-in-Ok
returns-in-Ok c =
    let columns = c.args.columns.now in
    let keys = c.deref.result.now in
    let same = c.deref.ensures.value in
    let rises : IsStrictlyIncreasing keys = subst IsStrictlyIncreasing (sym same) c.requires.rise in
    let found = place_from_search keys c.args.atom (Ok c.in-Ok.number) rises
    c.in-Ok.ensures.position in
    let size = ap length same in
    let at : get_or columns.keys.items c.in-Ok.number 0 ≡ c.args.atom =
    sym (ap (λ xs. get_or xs c.in-Ok.number 0) same) ∙ found.1 in
    flags_found columns.keys.items columns.flags.items c.args.atom c.in-Ok.number
    c.index.result.now c.requires.rise c.requires.many (omega (arith, found.0, size)) at
    c.index.ensures

pub returns-in-Err : goal.returns-in-Err
returns-in-Err c = λ has.
    let keys = c.deref.result.now in
    let same = c.deref.ensures.value in
    let rises : IsStrictlyIncreasing keys = subst IsStrictlyIncreasing (sym same) c.requires.rise in
    absent_from_place keys c.args.atom c.in-Err.field-0
    (place_from_search keys c.args.atom (Err c.in-Err.field-0) rises c.in-Err.ensures.position)
    (subst (λ xs. Contains xs c.args.atom) (sym same) has)
