use Rattle.std.proofs.Common.{◌∙◌, sym, ap}
use Rattle.hv_task.specs.State.{names_atom}
use Rattle.hv_task.specs.Strips.{atoms}
use Rattle.hv_explicit.specs.Working.Search.{in_named}
use Rattle.hv_explicit.specs.Working.Words.{word_atoms}
use Rattle.hv_explicit.proofs.Clashes.{below_after, below_list, known_before}
use Rattle.hv_explicit.proofs.Hits.{stays_none}
use Rattle.hv_explicit.proofs.sets_query.SetsQuery.word_fits_after.Goals as goal

pub fits-requires-clause-before : goal.fits-requires-clause-before
fits-requires-clause-before c = below_list (atoms c.args.self.now.task)
    (word_atoms c.args.held.bits) c.requires.held

pub fits-requires-clause-after : goal.fits-requires-clause-after
fits-requires-clause-after c = λ p past.
    sym (c.result_in-after.ensures p)
    ∙ below_after (atoms c.args.self.now.task) c.args.bits.now.action.now
    (word_atoms c.args.held.bits) c.requires.held c.requires.over p past

pub fits-requires-clause-anchor : goal.fits-requires-clause-anchor
fits-requires-clause-anchor c = known_before c.args.self.now.task
    (in_named c.args.self.now c.args.anchor)
    (word_atoms c.args.held.bits) c.requires.held c.requires.anchor

pub returns-then-denies : goal.returns-then-denies
returns-then-denies c = λ b a just_b just_a.
    stays_none c.args.self.now c.args.anchor c.args.bits.now.action.now
    (word_atoms c.args.held.bits) c.requires.held c.requires.anchor
    (c.denies.ensures.asks.0 c.if-denies.true)
    (λ p. c.result_in-after.ensures p
    ∙ ap (λ word. names_atom (word_atoms word) p) c.if-after-held.true) b a just_b just_a

pub returns : goal.returns
returns c = λ b a just_b just_a.
    c.fits.ensures b a just_b (record {
      of_task = just_a.of_task;
      same = λ p. sym (c.result_in-after.ensures p) ∙ just_a.same p;
    })
