use Rattle.std.proofs.Common.{◌≡◌, ◌≤◌, ◌∙◌, None, ap, arith, length, length-take-le, subst, sym}
use Rattle.std.proofs.Common.{take}
use Rattle.std.specs.Prelude.{option_and_then}
use Rattle.hv_bytes.specs.Fields.{cut_fields}
use Rattle.hv_bytes.specs.Working.Fields.{fields_behind}
use Rattle.hv_bdd.specs.OrderLine.{if_order, named_atoms}
use Rattle.hv_bdd.specs.Working.Noting.{named_behind}
use Rattle.hv_bdd.proofs.Parted.{fields_some}
use Rattle.hv_bdd.proofs.Ranked.{behind_all, crowded}
use Rattle.hv_bdd.proofs.atom_order.note_atoms.Goals as goal

pub returns-then-next-order-clause-none : goal.returns-then-next-order-clause-none
returns-then-next-order-clause-none c = λ _.
    let order = c.args.order.now in
    let fields = fields_behind c.args.fields (λ f. f.now) in
    let now = c.note_quickly-next.new.order in
    let next = c.note_quickly-next.result.0 in
    let last = c.note_quickly-next.result.1.now in
    let size : length now ≡ length order =
    c.note_quickly-next.ensures.size ∙ c.fields.invariant.size in
    let named : named_atoms (length order) fields ≡ named_behind now next (cut_fields last) =
    sym (behind_all order fields) ∙ (sym c.fields.invariant.named
    ∙ (ap (λ rest. named_behind c.fields.order c.fields.place (fields_behind rest (λ f. f.now)))
    c.in-Some.is ∙ sym c.note_quickly-next.ensures.named)) in
    let upto : length now ≤ length (take next now) =
    (let within = c.note_quickly-next.ensures.noted.within in
    let taken = length-take-le next now within in
    let full = c.if-next-order.true in
    omega arith) in
    sym (ap (option_and_then (if_order (length order))) named
    ∙ subst (λ n. option_and_then (if_order n) (named_behind now next (cut_fields last)) ≡ None)
    size (crowded (length now) (take next now) (cut_fields last) upto (fields_some last)))
