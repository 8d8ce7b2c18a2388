use Rattle.std.proofs.Common.{◌∙◌, ap, map, subst, sym}
use Rattle.hv_explicit.specs.ListedStates.{AreStates}
use Rattle.hv_replay.specs.Logs.{LogEntry, SearchLog}
use Rattle.hv_replay.proofs.Kept.{entries_states, states_below}
use Rattle.hv_replay.proofs.log.Log.states.Goals as goal

pub returns-clause-states : goal.returns-clause-states
returns-clause-states c =
    let s = c.self.inside in
    sym (entries_states s.expanded.items s.states c.self.invariant.1)
    ∙ ap (λ (l : SearchLog). map (λ (e : LogEntry). e.state) l.entries) c.self.view_is

pub returns-clause-below : goal.returns-clause-below
returns-clause-below c =
    let s = c.self.inside in
    subst (λ n. AreStates n s.states) (ap (λ (l : SearchLog). l.atoms) c.self.view_is)
    (states_below s.atoms s.expanded.items s.states c.self.invariant.1 c.self.invariant.0)
