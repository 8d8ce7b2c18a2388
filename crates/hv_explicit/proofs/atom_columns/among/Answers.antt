use Rattle.std.proofs.Common.{◌≡◌, ◌∙◌, arith, below_more, get_or, inl, inr, subst, sym, true}
use Rattle.std.proofs.lemmas.List.{get_or_default}
use Rattle.std.proofs.lemmas.List.Elements.{Contains-get_or}
use Rattle.std.specs.List.{Contains}
use Rattle.hv_task.specs.State.{has_atom}
use Rattle.hv_explicit.proofs.atom_columns.among.Goals as goal

pub loop-place-preserved : goal.loop-place-preserved
loop-place-preserved c =
    let places = c.args.places.now in
    let flags = c.args.flags.now in
    let i = c.loop-place.place-index in
    let inv = c.loop-place.invariant in
    record {
      only = λ p has. elim (c.in_ok-put_if.ensures.only p has) [
        | inl old ↦ inv.only p old
        | inr is ↦ subst (Contains places) (sym is)
            (Contains-get_or places i 0 c.loop-place-test.true)
      ];
      all =
          below_more (λ j. has_atom flags (get_or places j 0) ≡ true
          → Contains c.put_if.new.less.items (get_or places j 0)) i
          (λ j less has. c.in_ok-put_if.ensures.kept (get_or places j 0) (inv.all j less has))
          (λ has. c.in_ok-put_if.ensures.put has);
    }

pub returns-clause-all : goal.returns-clause-all
returns-clause-all c = λ place a b.
    let e = get_or_default c.args.places.now a.0 0 place a.1 ∙ a.2 in
    subst (Contains c.loop-place.less.items) e
    (c.loop-place.invariant.all a.0 (let over = c.loop-place-test.false in omega (arith, a.1))
    (subst (λ p. has_atom c.args.flags.now p ≡ true) (sym e) b))
