use Rattle.std.proofs.Common.{sym, subst}
use Rattle.hv_task.specs.State.{names_atom}
use Rattle.hv_explicit.specs.Working.Codes.{IsCode}
use Rattle.hv_explicit.proofs.Totals.{is_list_code}
use Rattle.hv_explicit.proofs.sought.CodedSought.code.Goals as goal

pub returns-then-key-self : goal.returns-then-key-self
returns-then-key-self c =
    let s = c.args.self.now in
    subst (λ key. IsCode key (names_atom s.atoms.now) s.code) (sym c.if-key-self.true)
    (is_list_code s.key s.code s.atoms.now s.coded)

pub returns : goal.returns
returns c = is_list_code c.args.key c.list_code.result c.args.self.now.atoms.now c.list_code.ensures
