use Rattle.std.proofs.Common.{ℕ, option_map, subst, sym}
use Rattle.smallvec.specs.SmallVec.{SmallVec}
use Rattle.hv_bdd.specs.Working.Search.{tuples_of}
use Rattle.hv_bdd.specs.Working.Sweeping.{IsTupleAdded}
use Rattle.hv_bdd.proofs.Explored.{added_is}
use Rattle.hv_bdd.proofs.place_sweep.add.Goals as goal

pub returns-in_ok-insert : goal.returns-in_ok-insert
returns-in_ok-insert c =
    subst (λ o. IsTupleAdded (tuples_of c.args.set.now)
    (option_map (λ (t : SmallVec ℕ). t.items) o) (tuples_of c.insert.new.self)) (sym c.in-Some.is)
    (added_is c.args.set.now.keys c.in-Some.tuple c.insert.new.self.keys
    c.in_ok-insert.ensures.keys)
