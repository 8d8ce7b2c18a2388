use Rattle.std.proofs.Common.{◌≡◌, ◌∙◌, Some, ap, arith, length, slice_get, subst, sym}
use Rattle.std.proofs.lemmas.Option.{get_or_from_slice_get}
use Rattle.hv_replay.specs.Logs.{SearchLog}
use Rattle.hv_replay.proofs.Kept.{entries_at, entries_length}
use Rattle.hv_replay.proofs.log.Log.expanded.Goals as goal

pub index-requires : goal.index-requires
index-requires c =
    let s = c.self.inside in
    let size = entries_length s.expanded.items s.states c.self.invariant.1 in
    let view = ap (λ (l : SearchLog). length l.entries) c.self.view_is in
    let many = s.expanded.ok.0 in
    let within = c.requires in
    omega arith

pub returns : goal.returns
returns c = λ entry at.
    let s = c.self.inside in
    let here = subst (λ (l : SearchLog). slice_get l.entries c.args.place ≡ Some entry)
    (sym c.self.view_is) at in
    c.index.ensures
    ∙ get_or_from_slice_get s.expanded.items c.args.place entry.expanded c.index.result.now
    (entries_at s.expanded.items s.states c.args.place entry here).0
