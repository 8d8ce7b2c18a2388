use Rattle.std.proofs.Common.{arith}
use Rattle.hv_sas.proofs.Atoms.{atom_below}
use Rattle.hv_sas.proofs.Making.{atom_is}
use Rattle.hv_sas.proofs.strips.fact_atom.Goals as goal

pub overflow_add-result : goal.overflow_add-result
overflow_add-result c =
    let e = atom_is c.args.variables.now c.args.firsts.now c.args.fact c.requires.firsts
    c.requires.fact in
    let below = atom_below c.args.variables.now c.args.fact c.requires.fact in
    let few = c.requires.firsts.few in omega arith

pub returns-clause-atom : goal.returns-clause-atom
returns-clause-atom c =
    atom_is c.args.variables.now c.args.firsts.now c.args.fact c.requires.firsts c.requires.fact

pub returns-clause-below : goal.returns-clause-below
returns-clause-below c =
    let e = atom_is c.args.variables.now c.args.firsts.now c.args.fact c.requires.firsts
    c.requires.fact in
    let below = atom_below c.args.variables.now c.args.fact c.requires.fact in omega arith
