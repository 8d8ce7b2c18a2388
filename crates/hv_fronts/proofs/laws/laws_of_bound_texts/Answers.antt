use Rattle.hv_fronts.proofs.BoundTexts.{read_back, read_costs_more, read_solvable}
use Rattle.hv_fronts.proofs.laws.laws_of_bound_texts.Goals as goal

pub returns : goal.returns
returns c = record {
  read_back = read_back;
  solvable = read_solvable;
  costs_more = read_costs_more;
}
