use Rattle.std.proofs.Common.{subst}
use Rattle.hv_explicit.specs.ListedStates.{AreListsOver}
use Rattle.hv_explicit.proofs.Holding.{map_ok}
use Rattle.hv_replay.proofs.LeadingOn.{part_leads}
use Rattle.hv_replay.proofs.leading.lead_on.Goals as goal

pub all_stay-requires-clause-over : goal.all_stay-requires-clause-over
all_stay-requires-clause-over c =
    subst (AreListsOver c.set_of_part.new.sets) c.requires.atoms c.in_ok-number.ensures.sets.over

pub returns-clause-lead : goal.returns-clause-lead
returns-clause-lead c =
    map_ok _ _ c.all_stay.result (λ all stays yes.
    part_leads c.args.task.now c.args.log.now c.set_of_part.new.sets c.in_ok-number.number
    c.args.part c.requires.atoms c.in_ok-number.ensures.sets c.in_ok-number.ensures.has (stays yes))
    c.all_stay.ensures
