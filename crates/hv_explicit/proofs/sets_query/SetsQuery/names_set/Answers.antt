use Rattle.std.proofs.Common.{◌↔◌, IsTrue, List, length, subst}
use Rattle.hv_sets.specs.Names.{AsksAbout}
use Rattle.hv_sets.specs.Query.{IsNamed}
use Rattle.hv_sets.specs.declared.operand.Operand.{Operand}
use Rattle.hv_sets.specs.declared.operand.Which.TheVariants as W
use Rattle.hv_explicit.specs.Working.Search.{ListedSearch}
use Rattle.hv_explicit.proofs.Hits.{named_there}
use Rattle.hv_explicit.proofs.sets_query.SetsQuery.names_set.Goals as goal

pub returns-clause-asks : goal.returns-clause-asks
returns-clause-asks c =
    subst (λ (s : ListedSearch). IsTrue c.names.result
    ↔ AsksAbout s.query.negative (W.Set c.args.number) c.args.after) c.self.view_is
    (subst (λ (operands : List Operand). IsTrue c.names.result
    ↔ AsksAbout operands (W.Set c.args.number) c.args.after) c.self.invariant.names c.names.ensures)

pub returns-clause-named : goal.returns-clause-named
returns-clause-named c = λ asks.
    let s = c.self.inside in
    subst (λ (p : ListedSearch). IsNamed (length p.sets) (W.Set c.args.number)) c.self.view_is
    (named_there (length s.sets.now) s.query.now (W.Set c.args.number) c.args.after
    c.self.invariant.search.ready
    (subst (λ (operands : List Operand). AsksAbout operands (W.Set c.args.number) c.args.after)
    c.self.invariant.names (c.names.ensures.0 asks)))
