use Rattle.std.proofs.Common.{◌≡◌, ◌<◌, List, ℕ, get_or, length, subst}
use Rattle.hv_indexes.specs.declared.rows.RowHead.{RowHead}
use Rattle.hv_indexes.proofs.Mated.{cluster_under, none_under}
use Rattle.hv_indexes.proofs.clusters.Clusters.holds_under.Goals as goal

pub returns-in-None : goal.returns-in-None
returns-in-None c =
    none_under c.args.clauses.now c.args.self.now c.args.state.now c.args.atom
    (subst (λ (hs : List RowHead). (j : ℕ) (d : RowHead) → j < length hs
    → (get_or hs j d).key ≡ c.args.atom → ⊥) c.deref.ensures.value c.in-None.ensures)

pub returns-in-Some : goal.returns-in-Some
returns-in-Some c =
    let found = subst (λ (hs : List RowHead). (c.in-Some.at < length hs)
    × ((d : RowHead) → (get_or hs c.in-Some.at d).key ≡ c.args.atom)) c.deref.ensures.value
    c.in-Some.ensures in
    cluster_under c.args.clauses.now c.args.self.now c.args.state.now c.holds.result c.args.atom
    c.in-Some.at found.0 found.1 c.holds.ensures
