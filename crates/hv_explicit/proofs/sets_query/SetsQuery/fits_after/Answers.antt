use Rattle.std.proofs.Common.{sym, subst}
use Rattle.hv_task.specs.Atoms.{is_after}
use Rattle.hv_task.specs.Strips.{atoms}
use Rattle.hv_explicit.specs.Codes.{IsBelow}
use Rattle.hv_explicit.specs.Working.Search.{HasJust, in_named}
use Rattle.hv_explicit.proofs.Clashes.{below_after, below_list, known_before}
use Rattle.hv_explicit.proofs.Hits.{stays_none}
use Rattle.hv_explicit.proofs.sets_query.SetsQuery.fits_after.Goals as goal

pub fits-requires-clause-before : goal.fits-requires-clause-before
fits-requires-clause-before c = below_list (atoms c.args.self.now.task)
    c.args.held.atoms.now c.requires.held

pub fits-requires-clause-after : goal.fits-requires-clause-after
fits-requires-clause-after c =
    let task = c.args.self.now.task in
    subst (λ xs. IsBelow (atoms task) (is_after c.of-after.result.action.now xs))
    (sym c.of-after.ensures.held)
    (subst (λ a. IsBelow (atoms task) (is_after a c.args.held.atoms.now))
    (sym c.of-after.ensures.action)
    (below_after (atoms task) c.args.action.now c.args.held.atoms.now c.requires.held
    c.requires.over))

pub fits-requires-clause-anchor : goal.fits-requires-clause-anchor
fits-requires-clause-anchor c = known_before c.args.self.now.task
    (in_named c.args.self.now c.args.anchor)
    c.args.held.atoms.now c.requires.held c.requires.anchor

pub returns-then-stays : goal.returns-then-stays
returns-then-stays c = λ b a just_b just_a.
    stays_none c.args.self.now c.args.anchor c.args.action.now c.args.held.atoms.now
    c.requires.held c.requires.anchor (c.stays.ensures.asks c.if-stays.true)
    (c.stays.ensures.left c.if-stays.true) b a just_b just_a

pub returns : goal.returns
returns c = λ b a just_b just_a.
    let task = c.args.self.now.task in
    c.fits.ensures b a just_b
    (subst (λ xs. HasJust task (is_after c.of-after.result.action.now xs) a)
    (sym c.of-after.ensures.held)
    (subst (λ act. HasJust task (is_after act c.args.held.atoms.now) a)
    (sym c.of-after.ensures.action) just_a))
