use Rattle.std.proofs.Common.{◌≡◌, ◌<◌, ◌∙◌, rules, arith, length, sym, true}
use Rattle.std.proofs.lemmas.Bool.Decides.{Decides-eqb}
use Rattle.std.proofs.lemmas.Slice.Eq.{slice_eq-Decides}
use Rattle.hv_replay.proofs.Kept.{entry_there}
use Rattle.hv_replay.proofs.open.has_expanded.Goals as goal

pub returns : goal.returns
returns c = λ same.
    let log = c.args.log.now in
    let many = c.len.ensures in
    let past = c.if-place-len.false in
    let within : c.args.place < length log.entries = omega arith in
    let w = entry_there log c.args.place within in
    let yes : c.expanded.result ≡ true = search rules in (
      w.0,
      w.1,
      sym (c.expanded.ensures w.0 w.1) ∙ yes,
      sym (c.slice.ensures.atoms ∙ c.held.ensures.stands w.0 w.1)
          ∙ (slice_eq-Decides Decides-eqb c.slice.result.now c.args.held.now c.eq.result
          c.eq.ensures).0 same,
    )
