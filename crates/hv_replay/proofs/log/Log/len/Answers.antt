use Rattle.std.proofs.Common.{◌∙◌, ap, length, sym}
use Rattle.hv_replay.specs.Logs.{SearchLog}
use Rattle.hv_replay.proofs.Kept.{entries_length}
use Rattle.hv_replay.proofs.log.Log.len.Goals as goal

pub returns : goal.returns
returns c =
    let s = c.self.inside in
    c.len.ensures
    ∙ (s.expanded.ok.0
    ∙ (sym (entries_length s.expanded.items s.states c.self.invariant.1)
    ∙ ap (λ (l : SearchLog). length l.entries) c.self.view_is))
