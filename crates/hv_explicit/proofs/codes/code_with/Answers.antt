use Rattle.std.proofs.Common.{◌∙◌, take, get_or, sym, ap, inl, inr}
use Rattle.std.proofs.lemmas.Bool.{cases_Bool}
use Rattle.std.proofs.lemmas.List.{take_more, take_all}
use Rattle.std.proofs.lemmas.List.Elements.{Contains-get_or}
use Rattle.hv_task.specs.State.{names_atom}
use Rattle.hv_task.proofs.Places.{names_atom-Decides}
use Rattle.hv_explicit.specs.Working.Codes.{code_sum, with_more, without}
use Rattle.hv_explicit.proofs.Totals.{kept_at, not_yet, with_kept, with_new}
use Rattle.hv_explicit.proofs.codes.code_with.Goals as goal

pub loop-atom-init : goal.loop-atom-init
loop-atom-init c = λ bound below above. c.requires.code bound below

pub loop-atom-preserved : goal.loop-atom-preserved
loop-atom-preserved c = λ bound below above.
    let i = c.loop-atom.atom-index in
    let xs = c.args.add.now in
    let x = get_or xs i 0 in
    let fresh = not_yet xs i c.requires.add c.loop-atom-test.true in
    let is = c.loop-atom.invariant bound below above in
    let e = c.put_in-more.ensures in
    let kept = kept_at c.args.del.now xs c.args.held.now x
    ((names_atom-Decides xs x).1 (Contains-get_or xs i 0 c.loop-atom-test.true)) in
    (elim (cases_Bool (names_atom c.args.held.now x)) [
      | inl there ↦
          with_kept c.args.key (take i xs) (without c.args.del.now xs c.args.held.now) x bound
          c.loop-atom.more c.put_in-more.result fresh is (e.there there) (kept ∙ there)
      | inr none ↦
          with_new c.args.key (take i xs) (without c.args.del.now xs c.args.held.now) x bound
          c.loop-atom.more c.put_in-more.result fresh is
          (above i 0 c.loop-atom-test.true) (kept ∙ none) (e.new none)
    ])
    ∙ ap (λ l. code_sum c.args.key (with_more l (without c.args.del.now xs c.args.held.now)) bound)
    (sym (take_more xs i 0 c.loop-atom-test.true))

pub returns : goal.returns
returns c = λ bound below above.
    c.loop-atom.invariant bound below above
    ∙ ap (λ l. code_sum c.args.key (with_more l (without c.args.del.now c.args.add.now
    c.args.held.now)) bound) (take_all c.loop-atom.atom-index c.args.add.now
    c.loop-atom-test.false)
