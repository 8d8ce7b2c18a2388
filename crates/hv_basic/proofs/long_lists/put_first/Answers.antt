use Rattle.std.proofs.Common.{◌≡◌, ◌∙◌, arith, get_or}
use Rattle.std.proofs.lemmas.List.{get_or_default}
use Rattle.std.proofs.lemmas.List.Elements.{Contains-get_or}
use Rattle.hv_task.proofs.Rising.{rises_upto}
use Rattle.hv_basic.proofs.long_lists.put_first.Goals as goal

pub returns-clause-some : goal.returns-clause-some
returns-clause-some c = λ k h less.
    let listed = c.args.listed.now in
    let within = h.1 in
    let at : get_or listed h.0 0 ≡ k = get_or_default listed h.0 0 k h.1 ∙ h.2 in
    let least = rises_upto listed 0 h.0 c.requires (omega arith) h.1 in (
      get_or listed 0 0,
      c.in_ok-put_listed.ensures.has (Contains-get_or listed 0 0 (omega (arith, within)))
          (omega (arith, least, at, less)),
    )
