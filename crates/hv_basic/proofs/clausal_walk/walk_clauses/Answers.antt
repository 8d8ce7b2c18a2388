use Rattle.std.proofs.Common.{◌≡◌, ◌++◌, ℕ, Bool, List, Option, Some, false, true, length}
use Rattle.std.proofs.Common.{refl, arith, sym, get_or, ◌∙◌, ◌==◌, [], ◌∷◌}
use Rattle.std.proofs.lemmas.List.Elements.{All-contains, Contains-append_left}
use Rattle.std.proofs.lemmas.List.Elements.{Contains-get_or}
use Rattle.std.proofs.lemmas.Bool.{eqb-true}
use Rattle.std.specs.List.{All, slice_get}
use Rattle.hv_task.specs.Strips.{atoms}
use Rattle.hv_clauses.specs.Store.{formula_at, sizes_of, tests_of}
use Rattle.hv_sets.specs.declared.operand.Operand.{Operand}
use Rattle.hv_sets.specs.declared.query.Query.{Query}
use Rattle.hv_sets.specs.Cost.{ClausesPass}
use Rattle.hv_sets.specs.Query.{IsNamed, is_clash}
use Rattle.hv_basic.specs.Working.Deciding.{AreAllReady}
use Rattle.hv_basic.proofs.Walking.{all_settled}
use Rattle.hv_basic.proofs.clausal_walk.walk_clauses.Goals as goal

no_actions : (xs : List (Option ℕ)) (b : Bool) → b ≡ (length xs == 0) → b ≡ true → length xs ≡ 0
no_actions xs b e f = eqb-true (length xs) 0 (sym e ∙ f)

empty_not : (b : Bool) → b ≡ true → b ≡ false → ⊥
empty_not b e f = cc (e, f)

first_action : (xs : List (Option ℕ)) (b : Bool) → b ≡ (length xs == 0) → b ≡ false
    → (a : Option ℕ) × (slice_get xs 0 ≡ Some a)
first_action [] b e f = absurd (empty_not b e f)
first_action (x ∷ xs) b e f = (x, refl)

-- queries that are ready for some action name sets of the store
named_then : (count actions : ℕ) (query : Query) (asked : List (Option ℕ))
    → AreAllReady count actions query asked → (b : Bool) → b ≡ (length asked == 0) → b ≡ false
    → All (λ o. IsNamed count o.which) (query.positive ++ query.negative)
named_then count actions query asked ready b e f =
    let first = first_action asked b e f in
    (ready.ready 0 first.0 first.1).named

named_left : (count : ℕ) (xs ys : List Operand) → All (λ o. IsNamed count o.which) (xs ++ ys)
    → All (λ o. IsNamed count o.which) xs
named_left count xs ys all = λ k d within.
    All-contains (λ o. IsNamed count o.which) (xs ++ ys) (get_or xs k d) all
    (Contains-append_left xs ys (get_or xs k d) (Contains-get_or xs k d within))

pub returns-then-is_empty-clause-answer : goal.returns-then-is_empty-clause-answer
returns-then-is_empty-clause-answer g c =
    let none = no_actions c.args.actions.now c.is_empty.result c.is_empty.ensures
    c.if-is_empty.true in
    all_settled (λ q. ClausesPass c.args.case.now.task.now
    (sizes_of (formula_at c.args.sets.now)) q c.args.case.now.budget)
    (is_clash c.args.case.now.task.now (tests_of (formula_at c.args.sets.now)))
    (atoms c.args.case.now.task.now) c.args.query.now c.args.actions.now 0 (omega (arith, none))
    (λ place action less found. absurd (omega (arith, less)))

pub make_room-requires : goal.make_room-requires
make_room-requires g c =
    named_left (length c.args.sets.now) c.args.query.now.positive c.args.query.now.negative
    (named_then (length c.args.sets.now) (length c.args.case.now.task.now.actions)
    c.args.query.now c.args.actions.now c.requires.ready c.is_empty.result c.is_empty.ensures
    c.if-is_empty.false)

pub ask_all-requires-clause-named : goal.ask_all-requires-clause-named
ask_all-requires-clause-named g c =
    named_then (length c.args.sets.now) (length c.args.case.now.task.now.actions)
    c.args.query.now c.args.actions.now c.requires.ready c.is_empty.result c.is_empty.ensures
    c.if-is_empty.false
