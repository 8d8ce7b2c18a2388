use Rattle.std.proofs.Common.{◌≡◌, ◌↔◌, ◌∙◌, ap, length, refl, subst, sym, true}
use Rattle.hv_task.specs.State.{AreBelow}
use Rattle.hv_task.specs.Strips.{atoms}
use Rattle.hv_reach.specs.Reached.{HasPairsOf, ReachedPair, has_pair}
use Rattle.hv_reach.specs.Working.Course.{IsSpaceFor}
use Rattle.hv_reach.specs.Working.Table.{IsPairTable}
use Rattle.hv_reach.proofs.Deciding.{pairs_exclude, pairs_reached}
use Rattle.hv_reach.proofs.pairs.PairSpace.reason.Goals as goal

pub fill-requires-clause-space : goal.fill-requires-clause-space
fill-requires-clause-space c =
    c.self.invariant (atoms c.args.task.now)
    (ap length c.self.view_is ∙ c.requires.index.size)

pub returns-then-has_pairs-clause-some : goal.returns-then-has_pairs-clause-some
returns-then-has_pairs-clause-some c =
    let r = has_pair c.fill.new.search.rows.items in
    let all = subst (HasPairsOf r) (c.as_slice.ensures.items ∙ c.goal.ensures.goal)
    (c.has_pairs.ensures.yes c.if-has_pairs.true) in (
      λ is. absurd (cc (is)),
      λ out. absurd
          (pairs_reached c.args.task.now c.args.start.now r c.in_ok-fill.ensures.reached all out),
    )

pub returns-clause-some : goal.returns-clause-some
returns-clause-some c =
    let r = has_pair c.fill.new.search.rows.items in
    let out = pairs_exclude c.args.task.now c.args.start.now r c.in_ok-fill.ensures.reached
    (λ all. c.has_pairs.ensures.no c.if-has_pairs.false
    (subst (HasPairsOf r) (sym (c.as_slice.ensures.items ∙ c.goal.ensures.goal)) all)) in
    (λ is. out, λ _. refl)

pub has_pairs-requires-clause-table : goal.has_pairs-requires-clause-table
has_pairs-requires-clause-table c =
    subst (λ n. IsPairTable n c.fill.new.search.rows.items) (sym c.atoms.ensures.atoms)
    c.in_ok-fill.ensures.table

pub has_pairs-requires-clause-below : goal.has_pairs-requires-clause-below
has_pairs-requires-clause-below c =
    subst (λ n. AreBelow n c.as_slice.result.now) (sym c.atoms.ensures.atoms)
    (subst (AreBelow (atoms c.args.task.now)) (sym c.as_slice.ensures.items) c.goal.ensures.below)

pub take_pairs-requires-clause-space : goal.take_pairs-requires-clause-space
take_pairs-requires-clause-space c =
    subst (λ n. IsSpaceFor n c.fill.new.search) (sym c.atoms-2.ensures.atoms) c.fill.ensures.space

pub take_pairs-requires-clause-table : goal.take_pairs-requires-clause-table
take_pairs-requires-clause-table c =
    subst (λ n. IsPairTable n c.fill.new.search.rows.items) (sym c.in_ok-fill.ensures.table.size)
    c.in_ok-fill.ensures.table

pub returns-clause-size : goal.returns-clause-size
returns-clause-size c = ap length c.in_ok-pairs.ensures.rows ∙ c.in_ok-fill.ensures.table.size

pub returns-clause-reached : goal.returns-clause-reached
returns-clause-reached c = λ p q.
    subst (λ rs. (has_pair rs p q ≡ true) ↔ ReachedPair c.args.task.now c.args.start.now p q)
    (sym c.in_ok-pairs.ensures.rows) (c.in_ok-fill.ensures.reached p q)
