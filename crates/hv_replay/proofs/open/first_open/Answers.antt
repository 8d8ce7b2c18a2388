use Rattle.std.proofs.Common.{◌∙◌, [], ℕ, ap, arith, length, subst, sym}
use Rattle.std.proofs.lemmas.List.Elements.{All-replicate}
use Rattle.hv_task.proofs.Places.{length-state_of}
use Rattle.hv_replay.specs.Closed.{LeadsOn}
use Rattle.hv_replay.specs.Working.Following.{LeadAllOn}
use Rattle.hv_replay.proofs.Followed.{leads_past}
use Rattle.hv_replay.proofs.open.first_open.Goals as goal

pub first_open_by-found-requires-clause-asked : goal.first_open_by-found-requires-clause-asked
first_open_by-found-requires-clause-asked c =
    let l = c.in_ok-asked.asked.ok.0 in
    let e = c.in_ok-asked.ensures.len in
    let f = c.len-2.ensures in omega arith

pub first_open_by-found-requires-clause-lead : goal.first_open_by-found-requires-clause-lead
first_open_by-found-requires-clause-lead c =
    let task = c.args.task.now in
    let log = c.args.log.now in
    let P : ℕ → Type 0 = λ place. (action : ℕ) → LeadsOn task log place action in
    subst (LeadAllOn task log)
    (sym (c.in_ok-asked.ensures.items_if_clones_equal (λ y same. same)))
    (All-replicate P c.len-2.result c.len.result
    (leads_past task log c.len.result (let e = c.len.ensures in omega arith)))

pub first_open_by-found-requires-clause-state : goal.first_open_by-found-requires-clause-state
first_open_by-found-requires-clause-state c =
    ap length c.in_ok-state.ensures ∙ (length-state_of c.atoms.result [] ∙ c.atoms.ensures.atoms)

pub returns : goal.returns
returns c = c.first_open_by-found.ensures
