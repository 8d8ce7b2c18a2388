use Rattle.std.proofs.Common.{◌∙◌, ◌++◌, ◌∷◌, [], ℕ, Ok, Some, ap, arith, length}
use Rattle.std.proofs.Common.{length-append, refl, subst, sym}
use Rattle.hv_sets.specs.Gathered.{Gathered}
use Rattle.hv_replay.specs.LogFile.{or_limit}
use Rattle.hv_replay.specs.Logs.{IsLog}
use Rattle.hv_replay.specs.Working.Logs.{counts_of}
use Rattle.hv_replay.specs.Working.Reading.{begun_entry, entries_in}
use Rattle.hv_replay.proofs.Passed.{few_pass_none}
use Rattle.hv_replay.proofs.Taken.{log_more, one_more}
use Rattle.hv_replay.proofs.entries.Entries.end_entry.Goals as goal

pub returns-in_ok-end-in-Ok-clause-said : goal.returns-in_ok-end-in-Ok-clause-said
returns-in_ok-end-in-Ok-clause-said c =
    let r = c.args.self.now in
    let holds = c.requires.holds in
    let entry = begun_entry c.args.expanded r in
    let more = c.in-Ok.ensures (entries_in r) entry holds.counts refl holds.legal.few in
    ap (or_limit (entries_in r ++ entry ∷ [])) (few_pass_none (entries_in r ++ entry ∷ []) more.1)
    ∙ ap (λ es. Ok (Some es)) (sym (one_more r.expanded.items c.reserve.new.self.items
    c.push_reserved.new.self.items r.states.whole c.end.new.self.whole c.args.expanded
    r.states.begun holds.size c.reserve.ensures.items c.push_reserved.ensures.items
    (ap (λ (g : Gathered ℕ). g.whole) c.in_ok-end-in-Ok.ensures.ok)))

pub returns-in_ok-end-in-Ok-clause-ready : goal.returns-in_ok-end-in-Ok-clause-ready
returns-in_ok-end-in-Ok-clause-ready c =
    let r = c.args.self.now in
    let holds = c.requires.holds in
    let entry = begun_entry c.args.expanded r in
    let more = c.in-Ok.ensures (entries_in r) entry holds.counts refl holds.legal.few in
    let flags = c.push_reserved.ensures.items in
    let kept = c.reserve.ensures.items in
    let states = ap (λ (g : Gathered ℕ). g.whole) c.in_ok-end-in-Ok.ensures.ok in
    let now = one_more r.expanded.items c.reserve.new.self.items c.push_reserved.new.self.items
    r.states.whole c.end.new.self.whole c.args.expanded r.states.begun holds.size kept flags
    states in
    record {
      holds = record {
        legal = subst (IsLog r.atoms) (sym now) (log_more r.atoms (entries_in r) entry holds.legal
            c.requires.state more.1 c.requires.room);
        counts = more.0 ∙ ap counts_of (sym now);
        few_atoms = holds.few_atoms;
        size = omega (
          arith,
          holds.size,
          ap length kept,
          ap length flags,
          ap length states,
          length-append c.reserve.new.self.items (c.args.expanded ∷ []),
          length-append r.states.whole (r.states.begun ∷ []),
        );
      };
      none = ap (λ (g : Gathered ℕ). g.begun) c.in_ok-end-in-Ok.ensures.ok;
    }
