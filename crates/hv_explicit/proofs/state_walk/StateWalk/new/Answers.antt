use Rattle.hv_explicit.specs.Working.Laws.{full_cubes_are}
use Rattle.hv_explicit.proofs.state_walk.StateWalk.new.Goals as goal

pub returns-clause-all : goal.returns-clause-all
returns-clause-all c = full_cubes_are c.args.set.now
