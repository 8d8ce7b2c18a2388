use Rattle.std.proofs.Common.{◌≡◌, ◌≢◌, ℕ, ◌<◌, ◌∙◌, List, arith, get_or, length, refl, subst, sym}
use Rattle.hv_bdd.proofs.Noted.{all_below, all_noted, inverse, is_one, missing, not_order}
use Rattle.hv_bdd.proofs.atom_order.Order.of.Goals as goal

pub returns-then-not-has_all : goal.returns-then-not-has_all
returns-then-not-has_all c =
    let order = c.args.order.items in
    let places = c.args.places.items in
    let filled = c.requires.noted in
    let some = subst (λ (ps : List ℕ). (a : ℕ) × (a < length ps) × (get_or ps a 0 ≡ c.args.atoms))
    c.as_slice.ensures.value (c.if-not-has_all.ensures.some refl) in
    let less : some.0 < length order =
    (let within = some.1 in let size = filled.size in omega arith) in
    not_order c.args.atoms order c.requires.size
    (missing order places filled some.0 less (some.2 ∙ sym c.requires.size))

pub invariant_of-result : goal.invariant_of-result
invariant_of-result c =
    let order = c.args.order.items in
    let places = c.args.places.items in
    let filled = c.requires.noted in
    let all = subst (λ (ps : List ℕ). (a : ℕ) → a < length ps → get_or ps a 0 ≢ c.args.atoms)
    c.as_slice.ensures.value (c.if-not-has_all.ensures.all refl) in
    inverse order places
    (all_noted order places filled (λ a less e. all a less (e ∙ c.requires.size)))
    filled.size (all_below order places filled)

pub returns : goal.returns
returns c =
    let order = c.args.order.items in
    let places = c.args.places.items in
    let filled = c.requires.noted in
    let all = subst (λ (ps : List ℕ). (a : ℕ) → a < length ps → get_or ps a 0 ≢ c.args.atoms)
    c.as_slice.ensures.value (c.if-not-has_all.ensures.all refl) in
    is_one order places
    (all_noted order places filled (λ a less e. all a less (e ∙ c.requires.size)))
    c.args.atoms c.requires.size
