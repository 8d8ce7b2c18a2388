use Rattle.hv_checker.proofs.GoodLines.{good_each, good_true}
use Rattle.hv_checker.proofs.checker.Checker.table.Goals as goal

pub returns-clause-sound : goal.returns-clause-sound
returns-clause-sound c =
    rw (← c.self.view_is)
    (good_true c.self.inside.judging.setting c.self.inside.judging.lines c.table.ensures.good)

pub returns-clause-each : goal.returns-clause-each
returns-clause-each c =
    rw (← c.self.view_is)
    (good_each c.self.inside.judging.setting c.self.inside.judging.lines c.table.ensures.good)
