use Rattle.std.proofs.Common.{◌-◌, sym, arith}
use Rattle.hv_bdd.specs.Live.{asks_goal}
use Rattle.hv_bdd.proofs.Listed.{first_next, first_none}
use Rattle.hv_bdd.proofs.tuple_search.Search.goal_from.Goals as goal

pub returns-in-Some : goal.returns-in-Some
returns-in-Some c =
    let upto = c.requires.place in
    let within = c.in-Some.ensures.within in
    let next = c.in-Some.ensures.next in
    sym (first_next (asks_goal c.args.self.now.setting)
    (c.args.self.now.setting.list.atoms - c.args.place) c.args.place c.in-Some.next
    next.0 (omega arith) next.1 next.2)

pub returns-in-None : goal.returns-in-None
returns-in-None c =
    sym (first_none (asks_goal c.args.self.now.setting)
    (c.args.self.now.setting.list.atoms - c.args.place) c.args.place c.in-None.ensures.next)
