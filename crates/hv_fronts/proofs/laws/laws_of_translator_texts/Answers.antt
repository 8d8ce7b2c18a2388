use Rattle.hv_fronts.proofs.SasTexts.{sas_plans, sas_read_back, sas_unsolvable}
use Rattle.hv_fronts.proofs.laws.laws_of_translator_texts.Goals as goal

pub returns : goal.returns
returns c = record {
  read_back = sas_read_back;
  plans = sas_plans;
  unsolvable = sas_unsolvable;
}
