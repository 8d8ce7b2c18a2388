use Rattle.std.proofs.Common.{◌∙◌, [], take, get_or, sym, ap, inl, inr}
use Rattle.std.proofs.lemmas.Bool.{cases_Bool}
use Rattle.std.proofs.lemmas.List.{take_more, take_all}
use Rattle.hv_task.specs.State.{names_atom}
use Rattle.hv_explicit.specs.Working.Codes.{code_sum, without}
use Rattle.hv_explicit.proofs.Totals.{below_named, code_agrees, not_yet, without_kept, without_less}
use Rattle.hv_explicit.proofs.Totals.{without_nothing}
use Rattle.hv_explicit.proofs.codes.code_without.Goals as goal

pub loop-atom-init : goal.loop-atom-init
loop-atom-init c = λ bound below.
    code_agrees c.args.key (names_atom c.args.held.now) (without [] c.args.add.now c.args.held.now)
    bound c.args.code (without_nothing c.args.add.now c.args.held.now)
    (c.requires.code bound below)

pub loop-atom-preserved : goal.loop-atom-preserved
loop-atom-preserved c = λ bound below.
    let i = c.loop-atom.atom-index in
    let xs = c.args.del.now in
    let x = get_or xs i 0 in
    let fresh = not_yet xs i c.requires.del c.loop-atom-test.true in
    let is = c.loop-atom.invariant bound below in
    let e = c.taken_out-less.ensures in
    (elim (cases_Bool (names_atom c.args.held.now x)) [
      | inl there ↦
          elim (cases_Bool (names_atom c.args.add.now x)) [
            | inl added ↦ without_kept c.args.key (take i xs) c.args.add.now c.args.held.now x
                bound c.loop-atom.less c.taken_out-less.result fresh is (e.added added) (inr added)
            | inr not_added ↦
                without_less c.args.key (take i xs) c.args.add.now c.args.held.now x bound
                c.loop-atom.less c.taken_out-less.result fresh is
                (below_named bound c.args.held.now x below there) there not_added e.fits
                (e.out there not_added)
          ]
      | inr none ↦ without_kept c.args.key (take i xs) c.args.add.now c.args.held.now x bound
          c.loop-atom.less c.taken_out-less.result fresh is (e.none none) (inl none)
    ])
    ∙ ap (λ l. code_sum c.args.key (without l c.args.add.now c.args.held.now) bound)
    (sym (take_more xs i 0 c.loop-atom-test.true))

pub returns : goal.returns
returns c = λ bound below.
    c.loop-atom.invariant bound below
    ∙ ap (λ l. code_sum c.args.key (without l c.args.add.now c.args.held.now) bound)
    (take_all c.loop-atom.atom-index c.args.del.now c.loop-atom-test.false)
