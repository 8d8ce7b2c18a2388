use Rattle.std.proofs.Common.{◌≡◌, ◌∙◌, ◌<◌, ap, arith, false, length, not, subst, sym, ℕ}
use Rattle.std.proofs.lemmas.List.{get_or-replicate, length-replicate}
use Rattle.hv_task.specs.State.{has_atom}
use Rattle.hv_indexes.proofs.screens.flags_without.Goals as goal

pub returns-then-sign : goal.returns-then-sign
returns-then-sign c =
    let atoms = c.atoms.result in
    let size = length-replicate atoms false in
    subst (λ s. (q : ℕ) → q < length s → has_atom s q ≡ not c.args.sign)
    (sym c.in_ok-flags.ensures)
    (λ q less. get_or-replicate atoms q false false (omega (arith, less, size))
    ∙ sym (ap not c.if-sign.true))

pub returns : goal.returns
returns c =
    subst (λ s. (q : ℕ) → q < length s → has_atom s q ≡ not c.args.sign)
    (sym c.copy_from.ensures) (λ q less. c.requires q less ∙ sym (ap not c.if-sign.false))
