use Rattle.std.proofs.Common.{◌<◌, ℕ, subst, arith}
use Rattle.hv_sas.proofs.Ranges.{range_few, variable_few}
use Rattle.hv_sas.proofs.forms.range_of.Goals as goal

pub returns-clause-few : goal.returns-clause-few
returns-clause-few c =
    let few = range_few c.args.variables.now c.args.var c.requires in
    let e = c.range_at.ensures in omega arith

pub returns-clause-var : goal.returns-clause-var
returns-clause-var c = λ some.
    variable_few c.args.variables.now c.args.var c.requires
    (subst (λ (n : ℕ). 0 < n) c.range_at.ensures some)
