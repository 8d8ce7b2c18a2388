use Rattle.std.proofs.Common.{◌∙◌, get_or, sym, ap, take}
use Rattle.std.specs.Hash.DefaultHasher as sip
use Rattle.std.proofs.lemmas.List.{take_more}
use Rattle.hv_explicit.specs.Working.Codes.{with_atom, with_atoms}
use Rattle.hv_explicit.proofs.Coded.{with_push}
use Rattle.hv_explicit.proofs.codes.list_sip.Goals as goal

pub loop-atom-preserved : goal.loop-atom-preserved
loop-atom-preserved c =
    let x = get_or c.args.list.now c.loop-atom.atom-index 0 in
    c.put_atom.ensures ∙ ap (λ h. with_atom h x) c.loop-atom.invariant
    ∙ sym (ap (λ xs. with_atoms sip.initial xs)
    (take_more c.args.list.now c.loop-atom.atom-index 0 c.loop-atom-test.true)
    ∙ with_push sip.initial (take c.loop-atom.atom-index c.args.list.now) x)
