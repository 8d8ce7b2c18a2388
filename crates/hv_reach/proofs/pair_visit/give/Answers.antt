use Rattle.std.proofs.Common.{◌≡◌, ℕ, true, subst, sym, get_or}
use Rattle.std.specs.List.{All}
use Rattle.hv_task.specs.State.{has_atom}
use Rattle.hv_reach.proofs.Steps.{ready_visited}
use Rattle.hv_reach.specs.Reached.{ArePaired, has_pair}
use Rattle.hv_reach.specs.Working.Table.{PairsWithin}
use Rattle.hv_reach.proofs.pair_visit.give.Goals as goal

pub returns-clause-ready : goal.returns-clause-ready
returns-clause-ready c =
    let a = c.args.action.now in
    ready_visited c.args.atoms c.mark_all-first.new.rows.items c.join_all.new.rows.items
    c.mark_all-first.new.flags c.join_all.new.flags c.join_all.result a
    c.mark_all-first.ensures.step.table c.join_all.ensures.step
    (subst (λ xs. ArePaired (has_pair c.mark_all-first.new.rows.items) xs xs)
    c.as_slice.ensures.items c.mark_all-first.ensures.set)
    (λ q free joined i d less.
    subst (λ xs. All (λ p. (q : ℕ) → has_atom c.spared.new.mask q ≡ true
    → has_pair c.join_all.new.rows.items p q ≡ true) xs) c.as_slice-2.ensures.items
    c.join_all.ensures.set i d less q (c.spared.ensures.complete q free joined))

pub returns-clause-add : goal.returns-clause-add
returns-clause-add c = λ i d less j e within.
    let a = c.args.action.now in
    c.join_all.ensures.step.grows (get_or a.add i d) (get_or a.add j e)
    (subst (λ xs. ArePaired (has_pair c.mark_all-first.new.rows.items) xs xs)
    c.as_slice.ensures.items c.mark_all-first.ensures.set i d less j e within)

pub returns-clause-other : goal.returns-clause-other
returns-clause-other c = λ q free joined i d less.
    let a = c.args.action.now in
    let grows = c.mark_all-first.ensures.step.grows in
    subst (λ xs. All (λ p. (q : ℕ) → has_atom c.spared.new.mask q ≡ true
    → has_pair c.join_all.new.rows.items p q ≡ true) xs) c.as_slice-2.ensures.items
    c.join_all.ensures.set i d less q (c.spared.ensures.complete q free
    (grows q q joined.0, λ j e below. grows (get_or a.pre j e) q (joined.1 j e below)))

pub returns-clause-least : goal.returns-clause-least
returns-clause-least c = λ r even keeps within.
    let a = c.args.action.now in
    let paired : ArePaired r a.pre a.pre = λ i d less j e below. within (get_or a.pre i d)
    (get_or a.pre j e) (c.requires.pre i d less j e below) in
    let mid : PairsWithin c.mark_all-first.new.rows.items r =
    c.mark_all-first.ensures.least r even (subst
    (λ xs. ArePaired r xs xs) (sym c.as_slice.ensures.items) (keeps.both paired)) within in
    c.join_all.ensures.least r even
    (subst (λ xs. All (λ p. (q : ℕ) → has_atom c.spared.new.mask q ≡ true → r p q ≡ true) xs)
    (sym c.as_slice-2.ensures.items)
    (λ i d less q held.
    let s = c.spared.ensures.sound q held in
    keeps.other q s.0 paired (
      mid q q s.1.0,
      λ j e below. mid (get_or a.pre j e) q
          (s.1.1 j e below),
    ) i d less))
    mid
