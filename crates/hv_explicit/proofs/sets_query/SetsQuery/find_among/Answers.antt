use Rattle.std.proofs.Common.{◌≡◌, ◌∙◌, ℕ, [], get_or, ap, sym, subst, arith, false}
use Rattle.std.proofs.Common.{below_more}
use Rattle.hv_task.specs.State.{AreBelow, state_of}
use Rattle.hv_task.specs.Strips.{atoms}
use Rattle.hv_explicit.specs.Working.Listing.{first_at}
use Rattle.hv_explicit.specs.Working.Search.{clashes_at, clashes_in}
use Rattle.hv_explicit.proofs.Holding.{all_fail}
use Rattle.hv_explicit.proofs.sets_query.SetsQuery.find_among.Goals as goal

pub is_clash_at-requires-clause-anchor : goal.is_clash_at-requires-clause-anchor
is_clash_at-requires-clause-anchor c =
    let place = get_or c.args.places.now c.loop-place.place-index 0 in
    c.requires.anchor place []
    (c.requires.places.within c.loop-place.place-index c.loop-place-test.true)

pub hold-requires : goal.hold-requires
hold-requires c =
    subst (λ (n : ℕ). AreBelow n c.slice.result.now)
    (c.requires.atoms ∙ sym c.loop-place.invariant.state)
    (subst (AreBelow c.args.set.now.atoms) (sym c.slice.ensures.atoms) c.atoms_at.ensures.below)

pub returns-then-is_clash_at : goal.returns-then-is_clash_at
returns-then-is_clash_at c = (
  (let len = c.len.ensures in omega (arith, c.if-len-budget.false)),
  c.hold.ensures.atoms ∙ c.loop-place.invariant.state,
  ap (clashes_in c.args.self.now)
      (c.hold.ensures.held ∙ ap (λ m. state_of m c.slice.result.now)
      c.loop-place.invariant.state
      ∙ ap (state_of (atoms c.args.self.now.task))
      (c.slice.ensures.atoms ∙ c.atoms_at.ensures.atoms))
      ∙ (sym c.is_clash_at.ensures ∙ c.if-is_clash_at.true),
)

pub loop-place-preserved : goal.loop-place-preserved
loop-place-preserved c =
    let s = c.args.self.now in
    record {
      state = c.loop-place.invariant.state;
      none = below_more (λ e. clashes_at s (first_at c.args.set.now.states c.args.places.now e)
          ≡ false)
          c.loop-place.place-index c.loop-place.invariant.none
          (sym c.is_clash_at.ensures ∙ c.if-is_clash_at.false);
    }

pub returns : goal.returns
returns c = (
  (let len = c.len.ensures in omega (arith, c.if-len-budget.false)),
  all_fail (clashes_at c.args.self.now) c.args.set.now.states c.args.places.now c.requires.places
      (λ e less. c.loop-place.invariant.none e (let over = c.loop-place-test.false in omega arith)),
)
