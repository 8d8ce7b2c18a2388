use Rattle.hv_sas.proofs.Tests.{sound_tests}
use Rattle.hv_sas.proofs.sas_task.Sas.sound.Goals as goal

pub returns : goal.returns
returns c =
    sound_tests c.args.self.now _ _ _ _ _ _ _ _ _ _ c.as_slice-variables.ensures
    c.as_slice.ensures c.as_slice-2.ensures c.as_slice-3.ensures c.len.ensures c.have_values.ensures
    c.has_few_values.ensures c.is_state_of.ensures c.are_facts.ensures c.are_operators.ensures
