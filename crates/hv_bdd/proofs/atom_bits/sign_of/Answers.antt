use Rattle.std.proofs.Common.{◌∙◌, ap, arith}
use Rattle.hv_sets.specs.declared.literal.Literal.{Literal}
use Rattle.hv_bdd.proofs.Listed.{found_literal, none_signed}
use Rattle.hv_bdd.proofs.atom_bits.sign_of.Goals as goal

pub returns-in_default : goal.returns-in_default
returns-in_default c =
    none_signed c.args.literals.now c.args.atom c.first_upto.result c.requires c.first_upto.ensures
    (λ less here.
    c.if-literal-atom.false
    (ap (λ (l : Literal). l.atom)
    (found_literal c.args.literals.now c.first_upto.result c.in-Some.literal.now less
    c.in-Some.ensures.lookup.1)
    ∙ here))

pub returns-in_default-2 : goal.returns-in_default-2
returns-in_default-2 c =
    none_signed c.args.literals.now c.args.atom c.first_upto.result c.requires c.first_upto.ensures
    (λ less here. let past = rw c.in_default.is at c.get.ensures.lookup in omega arith)
