use Rattle.std.proofs.Common.{length, subst}
use Rattle.hv_sets.specs.Query.{IsNamed}
use Rattle.hv_explicit.proofs.Anchored.{anchor_has, answer_empty, answer_set, answer_start}
use Rattle.hv_explicit.proofs.Holding.{map_ok}
use Rattle.hv_explicit.proofs.sets_query.SetsQuery.answer.Goals as goal

pub set-requires : goal.set-requires
set-requires c =
    subst (IsNamed (length c.args.self.now.sets)) c.in-Set.is c.anchor-anchor.ensures.named

pub answer_in-requires-clause-anchor : goal.answer_in-requires-clause-anchor
answer_in-requires-clause-anchor c =
    anchor_has c.args.self.now c.in-Set.number c.set.result.now c.set.ensures.over
    c.set.ensures.named

pub returns-in-Start : goal.returns-in-Start
returns-in-Start c =
    answer_start c.args.self.now c.anchor-anchor.result c.anchor-anchor.ensures
    c.find_start.result c.args.budget c.find_start.new.state c.in-Start.is c.find_start.ensures

pub returns-in-Set : goal.returns-in-Set
returns-in-Set c =
    map_ok _ _ c.answer_in.result (λ found is.
    answer_set c.args.self.now c.anchor-anchor.result c.anchor-anchor.ensures found c.args.budget
    c.in-Set.number c.set.result.now c.answer_in.new.state c.set.ensures.over c.in-Set.is
    c.set.ensures.named is) c.answer_in.ensures

pub returns-in_default : goal.returns-in_default
returns-in_default c =
    answer_empty c.args.self.now c.anchor-anchor.result c.anchor-anchor.ensures c.args.budget
    c.args.state.now c.in_default.not-Start c.in_default.not-Set
