use Rattle.std.proofs.Common.{rules, tests, ◌≡◌, Some}
use Rattle.std.proofs.lemmas.Iterator.{YieldsList-from_slice, first_from_find}
use Rattle.std.proofs.lemmas.Iterator.Search.{all_from_yields_List}
use Rattle.std.proofs.lemmas.List.Elements.{Contains-from_at}
use Rattle.hv_sets.specs.declared.literal.Literal.{Literal}
use Rattle.hv_horn.proofs.HeadedClauses.{fits, headed_with}
use Rattle.hv_horn.proofs.headed.is_headed.Goals as goal

pub returns-in-Some : goal.returns-in-Some
returns-in-Some c =
    let clause = c.args.clause.now in
    let head = c.in-Some.head.now in
    let found = first_from_find c.find.new.self _ (Some c.in-Some.head)
    (λ (l : Literal). l.positive ≡ c.args.sign)
    (λ (l : Literal). l.positive ≡ c.args.sign → ⊥) c.in-Some.ensures.ran
    (YieldsList-from_slice clause cc) (λ x q k. search (rules, tests))
    (λ x q k. search (rules, tests)) in
    let all = all_from_yields_List (fits c.args.sign head) _ _ c.all.result c.all.ensures.ran
    (YieldsList-from_slice clause cc)
    (λ x b q k. search (rules, tests)) in
    headed_with c.args.sign clause head (Contains-from_at clause head (found.1, found.2, found.3))
    found.0 c.all.result all
