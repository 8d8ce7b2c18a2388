use Rattle.std.proofs.Common.{◌≡◌, ◌↔◌, ◌∙◌, ap, length, subst, sym, true}
use Rattle.hv_task.specs.Strips.{atoms}
use Rattle.hv_reach.specs.Reached.{ReachedPair, has_pair}
use Rattle.hv_reach.specs.Working.Course.{IsSpaceFor}
use Rattle.hv_reach.specs.Working.Table.{IsPairTable}
use Rattle.hv_reach.proofs.pairs.PairSpace.reached.Goals as goal

pub fill_listed-requires-clause-space : goal.fill_listed-requires-clause-space
fill_listed-requires-clause-space c =
    c.self.invariant (atoms c.args.task.now)
    (ap length c.self.view_is ∙ c.requires.index.size)

pub take_pairs-requires-clause-space : goal.take_pairs-requires-clause-space
take_pairs-requires-clause-space c =
    subst (λ n. IsSpaceFor n c.fill_listed.new.search) (sym c.atoms.ensures.atoms)
    c.fill_listed.ensures.space

pub take_pairs-requires-clause-table : goal.take_pairs-requires-clause-table
take_pairs-requires-clause-table c =
    let table = c.in_ok-fill_listed.ensures.table in
    subst (λ n. IsPairTable n c.fill_listed.new.search.rows.items) (sym table.size) table

pub returns-clause-atoms : goal.returns-clause-atoms
returns-clause-atoms c =
    ap length c.in_ok-pairs.ensures.rows ∙ c.in_ok-fill_listed.ensures.table.size

pub returns-clause-reached : goal.returns-clause-reached
returns-clause-reached c = λ p q.
    subst (λ rs. (has_pair rs p q ≡ true) ↔ ReachedPair c.args.task.now c.args.start.now p q)
    (sym c.in_ok-pairs.ensures.rows) (c.in_ok-fill_listed.ensures.reached p q)
