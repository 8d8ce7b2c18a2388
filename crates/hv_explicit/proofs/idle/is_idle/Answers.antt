use Rattle.std.proofs.Common.{◌≤◌, ◌∙◌, length, ap, subst}
use Rattle.std.specs.List.{All, Contains}
use Rattle.hv_sets.specs.Query.{IsAnchor, IsNamed, action_of}
use Rattle.hv_explicit.specs.Working.Search.{ListedSearch}
use Rattle.hv_explicit.proofs.Anchored.{names_anchor}
use Rattle.hv_explicit.proofs.NoneApplies.{answer_idle}
use Rattle.hv_explicit.proofs.idle.is_idle.Goals as goal

pub get-requires : goal.get-requires
get-requires c =
    let s : ListedSearch =
    record { task = c.args.task.now; sets = c.args.sets.now; query = c.args.query.now } in
    let o = c.in-Some-anchor_of.anchor in
    subst (IsNamed (length s.sets)) c.in-Set.is
    (names_anchor s c.requires.ready o
    (subst (λ operands. IsAnchor operands o) c.as_slice.ensures c.in-Some-anchor_of.ensures)).named

pub returns-in-Set : goal.returns-in-Set
returns-in-Set c = λ yes last.
    let s : ListedSearch =
    record { task = c.args.task.now; sets = c.args.sets.now; query = c.args.query.now } in
    let o = c.in-Some-anchor_of.anchor in
    answer_idle s c.requires o
    (subst (λ operands. IsAnchor operands o) c.as_slice.ensures c.in-Some-anchor_of.ensures)
    c.in-Set.set c.in-Set.is c.get.result.now c.get.ensures c.action.result.now
    (ap (action_of s.task) c.in-Some.is ∙ c.action.ensures.named) c.action.ensures.over
    c.args.budget
    (subst (λ xs. length xs ≤ c.args.budget) c.states-states.ensures.states
    (c.applies_nowhere.ensures.few yes))
    (subst (λ xs. All (λ held. All (λ p. Contains held p) c.action.result.now.pre → ⊥) xs)
    c.states-states.ensures.states (c.applies_nowhere.ensures.none yes)) last
