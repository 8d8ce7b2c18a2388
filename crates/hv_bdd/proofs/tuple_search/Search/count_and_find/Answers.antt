use Rattle.std.proofs.Common.{IfOk, OnOk, subst, sym}
use Rattle.hv_bdd.specs.Working.Graphs.{IsLiveAnswer}
use Rattle.hv_bdd.specs.Working.Search.{TupleSearch}
use Rattle.hv_bdd.specs.Working.Untouched.{IsKeptTrulyFor}
use Rattle.hv_bdd.proofs.tuple_search.Search.count_and_find.Goals as goal

pub find_and_keep-requires-clause-known : goal.find_and_keep-requires-clause-known
find_and_keep-requires-clause-known c =
    subst (λ (s : TupleSearch). IsKeptTrulyFor s c.args.known.now) (sym c.count_root.ensures)
    c.requires.known

pub returns-clause-answer : goal.returns-clause-answer
returns-clause-answer c =
    subst (λ (s : TupleSearch). IfOk c.find_and_keep.result (λ found.
    IsLiveAnswer found s.setting s.asked c.args.budget c.find_and_keep.new.state))
    c.count_root.ensures c.find_and_keep.ensures.answer

pub returns-clause-known : goal.returns-clause-known
returns-clause-known c =
    subst (λ (s : TupleSearch). OnOk c.find_and_keep.result
    (IsKeptTrulyFor s c.find_and_keep.new.known))
    c.count_root.ensures c.find_and_keep.ensures.known
