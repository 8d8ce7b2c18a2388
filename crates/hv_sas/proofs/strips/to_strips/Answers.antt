use Rattle.std.proofs.Common.{sym, subst, ℕ, List}
use Rattle.std.specs.Prelude.{◌↔◌}
use Rattle.hv_task.specs.Strips.{Strips}
use Rattle.hv_task.specs.Plan.{Solves}
use Rattle.hv_sas.specs.Meaning.{SasSolves}
use Rattle.hv_sas.proofs.Plans.{keeps_plans}
use Rattle.hv_sas.proofs.Making.{if_ok}
use Rattle.hv_sas.proofs.strips.to_strips.Goals as goal

pub returns-clause-keeps : goal.returns-clause-keeps
returns-clause-keeps c =
    if_ok _ _ c.make.result (λ task e.
    subst (λ (t : Strips). (list : List ℕ) → Solves t list ↔ SasSolves c.args.sas.now list) (sym e)
    (keeps_plans c.args.sas.now c.requires)) c.make.ensures
