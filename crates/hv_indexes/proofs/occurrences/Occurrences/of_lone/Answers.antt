use Rattle.hv_indexes.proofs.Alone.{index_of_negative, index_of_positive}
use Rattle.hv_indexes.proofs.occurrences.Occurrences.of_lone.Goals as goal

pub returns-then-literal : goal.returns-then-literal
returns-then-literal c = index_of_positive c.args.literal c.if-literal.true

pub returns-else-literal : goal.returns-else-literal
returns-else-literal c = index_of_negative c.args.literal c.if-literal.false
