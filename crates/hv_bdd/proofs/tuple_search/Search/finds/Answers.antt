use Rattle.std.proofs.Common.{subst, arith}
use Rattle.hv_sets.specs.declared.finding.Finding.{Finding}
use Rattle.hv_bdd.specs.Working.Graphs.{IsLiveAnswer}
use Rattle.hv_bdd.proofs.Within.{few_tuples, found_in, none_in}
use Rattle.hv_bdd.proofs.tuple_search.Search.finds.Goals as goal

pub returns-in-Clash : goal.returns-in-Clash
returns-in-Clash c =
    let rises = c.requires.rises in
    found_in c.args.self.now c.count-count.ensures.search c.args.node c.args.inside c.args.cube.now
    c.requires.within rises c.requires.cube c.count-count.result c.find.new.state
    (subst (λ (f : Finding). IsLiveAnswer f c.args.self.now.setting c.args.self.now.asked
    c.count-count.result c.find.new.state) c.in-Clash.is c.in_ok-find.ensures.answer)

pub returns-in-Empty : goal.returns-in-Empty
returns-in-Empty c =
    let rises = c.requires.rises in
    none_in c.args.self.now c.count-count.ensures.search c.args.node c.args.inside c.args.cube.now
    c.requires.within rises c.requires.cube c.count-count.result c.find.new.state
    (subst (λ (f : Finding). IsLiveAnswer f c.args.self.now.setting c.args.self.now.asked
    c.count-count.result c.find.new.state) c.in-Empty.is c.in_ok-find.ensures.answer)

pub returns-in-Over : goal.returns-in-Over
returns-in-Over c =
    let rises = c.requires.rises in
    let enough = c.count-count.ensures.count in
    absurd (few_tuples c.args.self.now c.count-count.ensures.search c.args.node c.args.inside
    c.args.cube.now c.requires.within rises c.requires.cube c.count-count.result (omega arith)
    (subst (λ (f : Finding). IsLiveAnswer f c.args.self.now.setting c.args.self.now.asked
    c.count-count.result c.find.new.state) c.in-Over.is c.in_ok-find.ensures.answer))
