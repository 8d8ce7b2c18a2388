use Rattle.std.proofs.Common.{◌≡◌, ◌≤◌, ◌∙◌, rules, false, subst, sym, true}
use Rattle.hv_task.specs.Strips.{atoms, start_state}
use Rattle.hv_explicit.proofs.Clashes.{below_list}
use Rattle.hv_replay.specs.Working.Following.{IsOpen}
use Rattle.hv_replay.proofs.Exits.{start_found}
use Rattle.hv_replay.proofs.Followed.{free_all, leads_all, not_listed, to_listed}
use Rattle.hv_replay.proofs.hole.follow.Goals as goal

pub lists-requires : goal.lists-requires
lists-requires c = λ p past.
    below_list (atoms c.args.task.now) c.start.result.now c.start.ensures.below p
    (subst (λ n. n ≤ p) ((c.in_ok-sets.ensures.first c.get.result.now c.get.ensures).over ∙ c.requires) past)

pub returns-then-not-lists : goal.returns-then-not-lists
returns-then-not-lists c =
    let none : c.lists.result ≡ false = search rules in
    let start = start_found c.args.task.now c.start.result.now c.get.result.now
    c.start.ensures.below c.start.ensures.start
    ((c.in_ok-sets.ensures.first c.get.result.now c.get.ensures).over ∙ c.requires) c.lists.result c.lists.ensures in
    not_listed c.args.task.now c.args.log.now c.get.result.now (start_state c.args.task.now)
    (c.in_ok-sets.ensures.first c.get.result.now c.get.ensures) (sym start ∙ none)

pub returns-in-Some : goal.returns-in-Some
returns-in-Some c =
    let some : c.lists.result ≡ true = search rules in
    let start = start_found c.args.task.now c.start.result.now c.get.result.now
    c.start.ensures.below c.start.ensures.start
    ((c.in_ok-sets.ensures.first c.get.result.now c.get.ensures).over ∙ c.requires) c.lists.result c.lists.ensures in
    let listed = to_listed c.args.log.now c.get.result.now (c.in_ok-sets.ensures.first c.get.result.now c.get.ensures)
    (start_state c.args.task.now) (sym start ∙ some) in
    (listed, c.in-Some.place, c.line_of.ensures, c.in-Some.ensures.1)

pub returns-in-Some-2 : goal.returns-in-Some-2
returns-in-Some-2 c =
    let task = c.args.task.now in
    let log = c.args.log.now in
    let some : c.lists.result ≡ true = search rules in
    let start = start_found task c.start.result.now c.get.result.now
    c.start.ensures.below c.start.ensures.start
    ((c.in_ok-sets.ensures.first c.get.result.now c.get.ensures).over ∙ c.requires) c.lists.result c.lists.ensures in
    let listed = to_listed log c.get.result.now (c.in_ok-sets.ensures.first c.get.result.now c.get.ensures)
    (start_state task) (sym start ∙ some) in
    let first = subst (IsOpen task log) c.in-Some-2.is c.in_ok-found.ensures in (
      listed,
      free_all task log c.in_default.ensures,
      c.in-Some-2.found.0,
      c.line_of-in-Some-2.ensures,
      first.1,
      first.2,
    )

pub returns : goal.returns
returns c =
    let task = c.args.task.now in
    let log = c.args.log.now in
    let some : c.lists.result ≡ true = search rules in
    let start = start_found task c.start.result.now c.get.result.now
    c.start.ensures.below c.start.ensures.start
    ((c.in_ok-sets.ensures.first c.get.result.now c.get.ensures).over ∙ c.requires) c.lists.result c.lists.ensures in
    record {
      initial = to_listed log c.get.result.now (c.in_ok-sets.ensures.first c.get.result.now c.get.ensures)
          (start_state task) (sym start ∙ some);
      goalless = free_all task log c.in_default.ensures;
      leads = leads_all task log
          (subst (IsOpen task log) c.in-None.is c.in_ok-found.ensures);
    }
