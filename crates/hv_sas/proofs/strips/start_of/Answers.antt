use Rattle.std.proofs.Common.{◌∙◌, [], sym}
use Rattle.hv_sas.proofs.Making.{atoms_none, if_ok}
use Rattle.hv_sas.proofs.strips.start_of.Goals as goal

pub returns : goal.returns
returns c =
    if_ok _ _ c.take.result (λ list e. e ∙ c.in_ok-put_state.ensures []
    (c.new-set.ensures ∙ sym (atoms_none c.args.variables.now))) c.take.ensures.list
