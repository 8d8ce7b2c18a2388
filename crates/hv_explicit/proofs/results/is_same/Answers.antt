use Rattle.std.proofs.Common.{◌≡◌, ◌∙◌, ◌+◌, true, false, get_or, sym, subst}
use Rattle.std.proofs.lemmas.Bool.{not-true, not-false}
use Rattle.std.proofs.lemmas.List.{take_more, take_all}
use Rattle.hv_task.specs.Atoms.{IsNext, Lists}
use Rattle.hv_task.proofs.Listing.{lists_next}
use Rattle.hv_explicit.proofs.Coded.{is_other_at, is_some_at, other_next, same_at_end}
use Rattle.hv_explicit.proofs.results.is_same.Goals as goal

pub returns-then-ne : goal.returns-then-ne
returns-then-ne g c = (
  λ e. let f : false ≡ true = e in absurd cc,
  λ same. absurd (other_next (g.A.Atoms.has c.args.held.now) c.loop-atom.from c.args.list.now
      c.loop-atom.atom-index c.next.result c.requires.rises
      c.loop-atom-test.true c.loop-atom.invariant c.next.ensures
      (is_other_at c.next.result (get_or c.args.list.now c.loop-atom.atom-index 0)
      (not-true _ (sym c.ne.ensures ∙ c.if-ne.true))) same),
)

pub loop-atom-preserved : goal.loop-atom-preserved
loop-atom-preserved g c =
    let x = get_or c.args.list.now c.loop-atom.atom-index 0 in
    let is = is_some_at c.next.result x (not-false _ (sym c.ne.ensures ∙ c.if-ne.false)) in
    subst (λ xs. Lists (g.A.Atoms.has c.args.held.now) (x + 1) xs)
    (sym (take_more c.args.list.now c.loop-atom.atom-index 0 c.loop-atom-test.true))
    (lists_next (g.A.Atoms.has c.args.held.now) c.loop-atom.from _ x c.loop-atom.invariant
    (subst (λ o. IsNext (g.A.Atoms.has c.args.held.now) c.loop-atom.from o) is c.next.ensures))

pub returns : goal.returns
returns g c =
    same_at_end (g.A.Atoms.has c.args.held.now) c.loop-atom.from c.args.list.now c.next-2.result
    c.is_none.result
    (subst (λ xs. Lists (g.A.Atoms.has c.args.held.now) c.loop-atom.from xs)
    (take_all c.loop-atom.atom-index c.args.list.now c.loop-atom-test.false)
    c.loop-atom.invariant)
    c.next-2.ensures c.is_none.ensures
