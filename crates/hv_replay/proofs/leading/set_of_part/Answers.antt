use Rattle.std.proofs.Common.{◌∙◌, ap, subst, sym}
use Rattle.hv_task.specs.Strips.{atoms}
use Rattle.hv_explicit.specs.ListedStates.{ListedStates}
use Rattle.hv_replay.specs.Working.Leading.{HasLog}
use Rattle.hv_replay.proofs.LeadingOn.{added_has, first_has_part, has_more}
use Rattle.hv_replay.proofs.leading.set_of_part.Goals as goal

pub returns-then-are_expanded-clause-has : goal.returns-then-are_expanded-clause-has
returns-then-are_expanded-clause-has c =
    first_has_part c.args.log.now c.args.sets.now c.args.part c.requires.sets

pub returns-clause-sets : goal.returns-clause-sets
returns-clause-sets c =
    let log = c.args.log.now in
    let over = ap (λ (s : ListedStates). s.atoms) c.in_ok-set.ensures ∙ sym c.requires.atoms in
    subst (HasLog log) (sym c.in_ok-number.ensures.ok)
    (has_more log c.args.sets.now c.in_ok-set.set c.requires.sets over)

pub returns-clause-has : goal.returns-clause-has
returns-clause-has c =
    added_has c.args.log.now c.args.sets.now c.add.new.self (atoms c.args.task.now)
    c.in_ok-number.number c.in_ok-set.set c.in_ok-states.states c.args.part
    c.in_ok-number.ensures.ok c.in_ok-number.ensures.number c.in_ok-set.ensures c.requires.atoms
    c.in_ok-states.ensures.lists
