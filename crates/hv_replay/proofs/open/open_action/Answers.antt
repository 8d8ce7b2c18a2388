use Rattle.std.proofs.Common.{◌≡◌, ◌<◌, ◌∙◌, ℕ, rules, ap, arith, false, length, sym, subst, true}
use Rattle.std.proofs.lemmas.List.Elements.{All-set}
use Rattle.hv_task.specs.State.{state_of}
use Rattle.hv_task.specs.Strips.{atoms}
use Rattle.hv_replay.specs.Closed.{IsFirstWithout, LeadsOn, state_in}
use Rattle.hv_replay.specs.Working.Following.{HasExpanded, StaysListed}
use Rattle.hv_replay.proofs.Followed.{all_from, first_from, leads_again}
use Rattle.hv_replay.proofs.Kept.{entry_there}
use Rattle.hv_replay.proofs.open.open_action.Goals as goal

pub returns-then-not-expanded-clause-open : goal.returns-then-not-expanded-clause-open
returns-then-not-expanded-clause-open c =
    let no : c.expanded.result ≡ false = search rules in
    λ number e a at holds is can. let f : false ≡ true = sym no
    ∙ (c.expanded.ensures e at ∙ holds) in absurd cc

pub returns-then-has_expanded-clause-open : goal.returns-then-has_expanded-clause-open
returns-then-has_expanded-clause-open c =
    let log = c.args.log.now in
    let yes : c.has_expanded.result ≡ true = search rules in
    let w = entry_there log c.args.place c.requires.place in
    let slot = c.slot_of-slot.result in
    let less : slot < length c.args.asked.now.items = let e = c.slot_of-slot.ensures in
    let f = c.len.ensures in omega arith in
    let found : HasExpanded log c.index.result.now c.slice-held.result.now =
    c.has_expanded.ensures yes in
    leads_again c.args.task.now log c.index.result.now c.args.place c.slice-held.result.now w.0
    found (subst (λ p. (action : ℕ) → LeadsOn c.args.task.now log p action)
    (sym c.index.ensures) (c.requires.lead slot c.index.result.now less)) w.1
    (c.slice-held.ensures.atoms ∙ c.held.ensures.stands w.0 w.1)

pub returns-in-Some-clause-open : goal.returns-in-Some-clause-open
returns-in-Some-clause-open c =
    let task = c.args.task.now in
    let log = c.args.log.now in
    let held = c.slice-held.result.now in
    let yes : c.expanded.result ≡ true = search rules in
    let w = entry_there log c.args.place c.requires.place in
    let same : state_of (atoms task) held ≡ state_in log w.0 =
    ap (λ n. state_of n held) (sym c.requires.atoms)
    ∙ ap (state_of log.atoms) (c.slice-held.ensures.atoms ∙ c.held.ensures.stands w.0 w.1) in
    first_from task log c.args.place w.0 w.1 c.args.index.now.listed.now c.requires.listed
    (sym (c.expanded.ensures w.0 w.1) ∙ yes) c.in-Some.action
    (subst (λ s. IsFirstWithout (StaysListed task c.args.index.now.listed.now s) c.in-Some.action) same
    c.in-Some.ensures.first)

pub returns-in-None-clause-open : goal.returns-in-None-clause-open
returns-in-None-clause-open c =
    let task = c.args.task.now in
    let log = c.args.log.now in
    let held = c.slice-held.result.now in
    let yes : c.expanded.result ≡ true = search rules in
    let w = entry_there log c.args.place c.requires.place in
    let same : state_of (atoms task) held ≡ state_in log w.0 =
    ap (λ n. state_of n held) (sym c.requires.atoms)
    ∙ ap (state_of log.atoms) (c.slice-held.ensures.atoms ∙ c.held.ensures.stands w.0 w.1) in
    all_from task log c.args.place w.0 w.1 c.args.index.now.listed.now c.requires.listed
    (sym (c.expanded.ensures w.0 w.1) ∙ yes)
    (subst (λ s. (number : ℕ) → number < length task.actions
    → StaysListed task c.args.index.now.listed.now s number) same
    c.in-None.ensures.first)

pub returns-in-None-clause-lead : goal.returns-in-None-clause-lead
returns-in-None-clause-lead c =
    let task = c.args.task.now in
    let log = c.args.log.now in
    let held = c.slice-held.result.now in
    let yes : c.expanded.result ≡ true = search rules in
    let w = entry_there log c.args.place c.requires.place in
    let same : state_of (atoms task) held ≡ state_in log w.0 =
    ap (λ n. state_of n held) (sym c.requires.atoms)
    ∙ ap (state_of log.atoms) (c.slice-held.ensures.atoms ∙ c.held.ensures.stands w.0 w.1) in
    let all = all_from task log c.args.place w.0 w.1 c.args.index.now.listed.now c.requires.listed
    (sym (c.expanded.ensures w.0 w.1) ∙ yes)
    (subst (λ s. (number : ℕ) → number < length task.actions
    → StaysListed task c.args.index.now.listed.now s number) same
    c.in-None.ensures.first) in
    All-set (λ place. (action : ℕ) → LeadsOn task log place action) c.args.asked.now.items
    c.slot_of-slot.result c.args.place all c.requires.lead
