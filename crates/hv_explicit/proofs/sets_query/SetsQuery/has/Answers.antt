use Rattle.std.proofs.Common.{◌≡◌, ◌↔◌, ◌∙◌, IsTrue, true, get_or, sym, ap, subst}
use Rattle.std.specs.List.{All}
use Rattle.hv_task.specs.State.{AreBelow, has_all, has_atom}
use Rattle.hv_task.specs.Strips.{Strips, atoms, start_state}
use Rattle.hv_task.proofs.Places.{has_all-Decides}
use Rattle.hv_sets.specs.Truth.{is_same}
use Rattle.hv_explicit.specs.Working.Codes.{IsSame}
use Rattle.hv_explicit.specs.Working.Search.{ListedSearch, in_named}
use Rattle.hv_explicit.proofs.LookUp.{same_decides, same_tests}
use Rattle.hv_explicit.proofs.sets_query.SetsQuery.has.Goals as goal

pub returns-in-Start : goal.returns-in-Start
returns-in-Start g c = λ state stands.
    let task = c.args.self.now.task in
    let held = g.A.Sought.has c.args.held.now in
    let is = ap (λ (s : ListedSearch). s.task) c.self.view_is in
    subst (λ w. c.is_start.result ≡ in_named c.args.self.now w state) (sym c.in-Start.is)
    (same_tests {P = IsSame held task.start} c.is_start.result (is_same (start_state task) state)
    (subst (λ (t : Strips). IsTrue c.is_start.result ↔ IsSame held t.start) is
    c.is_start.ensures.same)
    (same_decides (atoms task) held state stands.of_task c.requires.below stands.same task.start
    (subst (λ (t : Strips). AreBelow (atoms t) t.start) is c.is_start.ensures.below)))

pub returns-in-Goal : goal.returns-in-Goal
returns-in-Goal g c = λ state stands.
    let task = c.args.self.now.task in
    let held = g.A.Sought.has c.args.held.now in
    let is = ap (λ (s : ListedSearch). s.task) c.self.view_is in
    let all = subst (λ (t : Strips). IsTrue c.has_goal.result ↔ All (λ p. IsTrue (held p)) t.goal)
    is c.has_goal.ensures in
    let decides = has_all-Decides task.goal state in
    subst (λ w. c.has_goal.result ≡ in_named c.args.self.now w state) (sym c.in-Goal.is)
    (same_tests {P = All (λ p. has_atom state p ≡ true) task.goal} c.has_goal.result
    (has_all task.goal state) (
      λ e k d within. sym (stands.same (get_or task.goal k d)) ∙ all.0 e k d within,
      λ has. all.1 (λ k d within. stands.same (get_or task.goal k d) ∙ has k d within),
    )
    (decides.0, decides.1))
