use Rattle.std.proofs.Common.{◌∙◌, ◌++◌, ◌∷◌, [], ◌+◌, ◌%◌, ◌^◌, take, get_or, sym, ap}
use Rattle.std.proofs.lemmas.List.{take_more, take_all}
use Rattle.hv_task.specs.State.{names_atom}
use Rattle.hv_explicit.specs.Working.Codes.{code_sum}
use Rattle.hv_explicit.proofs.Totals.{code_more, named_last, named_other, none_total, not_yet}
use Rattle.hv_explicit.proofs.codes.list_code.Goals as goal

pub loop-atom-init : goal.loop-atom-init
loop-atom-init c = λ bound below. none_total c.args.key bound

pub loop-atom-preserved : goal.loop-atom-preserved
loop-atom-preserved c = λ bound below.
    let i = c.loop-atom.atom-index in
    let xs = c.args.list.now in
    let x = get_or xs i 0 in
    ap (λ w. (c.loop-atom.code + w) % 2 ^ 64) c.number-code.ensures
    ∙ code_more c.args.key (names_atom (take i xs)) (names_atom (take i xs ++ x ∷ [])) bound x
    c.loop-atom.code (below i 0 c.loop-atom-test.true)
    (not_yet xs i c.requires c.loop-atom-test.true) (named_last (take i xs) x)
    (λ p other. named_other (take i xs) x p other) (c.loop-atom.invariant bound below)
    ∙ ap (λ l. code_sum c.args.key (names_atom l) bound)
    (sym (take_more xs i 0 c.loop-atom-test.true))

pub returns : goal.returns
returns c = λ bound below.
    c.loop-atom.invariant bound below ∙ ap (λ l. code_sum c.args.key (names_atom l) bound)
    (take_all c.loop-atom.atom-index c.args.list.now c.loop-atom-test.false)
