use Rattle.std.proofs.Common.{◌≡◌, ◌∙◌, List, Option, Some, [], ap, arith, length, slice_get, subst}
use Rattle.std.proofs.Common.{sym, ℕ}
use Rattle.std.proofs.lemmas.Option.{get_or_from_slice_get, slice_get_within}
use Rattle.hv_replay.specs.Logs.{IsAtomSet, SearchLog}
use Rattle.hv_replay.proofs.Kept.{atom_sets, entries_at, entries_length}
use Rattle.hv_replay.proofs.log.Log.held.Goals as goal

pub get-requires : goal.get-requires
get-requires c =
    let s = c.self.inside in
    let size = entries_length s.expanded.items s.states c.self.invariant.1 in
    let view = ap (λ (l : SearchLog). length l.entries) c.self.view_is in
    let same = c.self.invariant.1 in
    let within = c.requires in
    omega arith

pub returns-clause-stands : goal.returns-clause-stands
returns-clause-stands c = λ entry at.
    let s = c.self.inside in
    let here = subst (λ (l : SearchLog). slice_get l.entries c.args.place ≡ Some entry)
    (sym c.self.view_is) at in
    let there = c.get.ensures.state in
    let same : ◌≡◌ {A = Option (List ℕ)} (Some c.get.result) (Some entry.state) =
    sym there ∙ (entries_at s.expanded.items s.states c.args.place entry here).1 in
    cc

pub returns-clause-legal : goal.returns-clause-legal
returns-clause-legal c =
    let s = c.self.inside in
    let held = c.get.result in
    let there = c.get.ensures.state in
    let sets = atom_sets s.atoms s.expanded.items s.states c.self.invariant.1
    c.self.invariant.0 in
    subst (λ n. IsAtomSet n held) (ap (λ (l : SearchLog). l.atoms) c.self.view_is)
    (subst (IsAtomSet s.atoms) (get_or_from_slice_get s.states c.args.place held []
    there)
    (sets c.args.place [] (slice_get_within s.states c.args.place held there)))
