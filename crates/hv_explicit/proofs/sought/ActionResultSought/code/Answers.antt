use Rattle.std.proofs.Common.{sym, subst}
use Rattle.hv_task.specs.Atoms.{is_after}
use Rattle.hv_explicit.specs.Working.Codes.{IsCode}
use Rattle.hv_explicit.proofs.Totals.{is_after_code}
use Rattle.hv_explicit.proofs.sought.ActionResultSought.code.Goals as goal

pub returns-then-key-self : goal.returns-then-key-self
returns-then-key-self c =
    let s = c.args.self.now in
    subst (λ key. IsCode key (is_after s.action.now s.held.now) s.code) (sym c.if-key-self.true)
    (is_after_code s.key s.code s.action.now s.held.now s.coded)

pub returns : goal.returns
returns c = is_after_code c.args.key c.code_after.result c.args.self.now.action.now
    c.args.self.now.held.now c.code_after.ensures
