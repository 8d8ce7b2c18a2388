use Rattle.std.proofs.Common.{sym, ap}
use Rattle.std.proofs.lemmas.Bool.Decides.{Decides-eqb}
use Rattle.std.proofs.lemmas.Slice.Eq.{slice_eq-Decides}
use Rattle.hv_task.specs.State.{names_atom}
use Rattle.hv_explicit.proofs.LookUp.{same_lists}
use Rattle.hv_explicit.proofs.sought.CodedSought.is.Goals as goal

pub returns : goal.returns
returns c =
    let s = c.args.self.now in
    let equal = slice_eq-Decides Decides-eqb c.args.list.now s.atoms.now c.eq.result
    c.eq.ensures in (
      λ e p. ap (λ xs. names_atom xs p) (sym (equal.0 e)),
      λ same. equal.1 (sym (same_lists s.atoms.now c.args.list.now s.rises
          c.requires.rises same)),
    )
