use Rattle.std.proofs.Common.{◌≡◌, ◌∙◌, ap, arith, None, subst, sym}
use Rattle.std.specs.Prelude.{IfNone}
use Rattle.hv_bytes.specs.Fields.{cut_fields}
use Rattle.hv_bytes.specs.Working.Fields.{fields_behind}
use Rattle.hv_bdd.specs.OrderLine.{named_atoms}
use Rattle.hv_bdd.proofs.Parted.{fields_some}
use Rattle.hv_bdd.proofs.Ranked.{first_is, left_is, none_named, too_great}
use Rattle.hv_bdd.proofs.atom_order.atom_front.Goals as goal

pub returns-in_err-number-clause-none : goal.returns-in_err-number-clause-none
returns-in_err-number-clause-none c =
    subst (λ r. IfNone r (named_atoms c.args.atoms (cut_fields c.args.line.now) ≡ None))
    (sym c.from_residual.ensures)
    (none_named c.args.atoms (cut_fields c.args.line.now) (fields_some c.args.line.now)
    c.in_err-number.ensures.none)

pub returns-then-number-from-clause-none : goal.returns-then-number-from-clause-none
returns-then-number-from-clause-none c =
    let atoms = c.args.atoms in
    let number = c.in_ok-number.number in
    let behind = c.in_ok-number.behind in
    let great = c.if-number-from.true in
    ap (named_atoms atoms)
    (left_is c.args.line.now number behind (λ f. f.now) c.in_ok-number.ensures.fields)
    ∙ too_great atoms number (fields_behind behind (λ f. f.now)) c.in_ok-number.ensures.number
    (let same = c.from.ensures in omega arith)

pub returns-clause-some : goal.returns-clause-some
returns-clause-some c =
    let atoms = c.args.atoms in
    let number = c.in_ok-number.number in
    let behind = c.in_ok-number.behind in
    let less = c.if-number-from.false in
    ap (named_atoms atoms)
    (left_is c.args.line.now number behind (λ f. f.now) c.in_ok-number.ensures.fields)
    ∙ first_is atoms number (fields_behind behind (λ f. f.now)) c.in_ok-number.ensures.number
    (let same = c.from.ensures in omega arith)
