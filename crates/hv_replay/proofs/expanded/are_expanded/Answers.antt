use Rattle.std.proofs.Common.{◌≡◌, ◌∙◌, arith, inl, inr, rules, subst, sym, true}
use Rattle.std.proofs.lemmas.Bool.{cases_lt}
use Rattle.std.proofs.lemmas.Option.{slice_get_within}
use Rattle.hv_replay.specs.Logs.{StandsInLog}
use Rattle.hv_replay.proofs.LeadingOn.{all_expanded}
use Rattle.hv_replay.proofs.expanded.are_expanded.Goals as goal

pub loop-place-preserved : goal.loop-place-preserved
loop-place-preserved c = λ before entry less at.
    let place = c.loop-place.place in
    elim (cases_lt before place) [
      | inl lt ↦ c.loop-place.invariant before entry lt at
      | inr ge ↦
          let same : before ≡ place = omega arith in
          let yes : c.expanded.result ≡ true = search rules in
          sym (c.expanded.ensures entry (subst (λ p. StandsInLog c.args.log.now p entry) same at))
          ∙ yes
    ]

pub returns : goal.returns
returns c = λ _.
    let log = c.args.log.now in
    let past = c.loop-place-test.false in
    let count = c.len-place-end.ensures in
    all_expanded log.entries (λ place entry at.
    let within = slice_get_within log.entries place entry at in
    c.loop-place.invariant place entry (omega arith) at)
