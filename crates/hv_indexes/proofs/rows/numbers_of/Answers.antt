use Rattle.std.proofs.Common.{◌∙◌, ◌++◌, ◌∷◌, [], ap, arith, map, sym, take, ℕ, List}
use Rattle.std.proofs.lemmas.List.{map_more, take_all}
use Rattle.hv_indexes.specs.Rows.{place_of_code}
use Rattle.hv_indexes.proofs.rows.numbers_of.Goals as goal

pub loop-code-preserved : goal.loop-code-preserved
loop-code-preserved c =
    let codes = c.args.codes.now in
    let index = c.loop-code.code-index in
    c.in_ok-push.ensures.items
    ∙ (ap (λ (xs : List ℕ). xs ++ c.number_in.result ∷ []) c.loop-code.invariant
    ∙ (ap (λ x. map place_of_code (take index codes) ++ x ∷ []) c.number_in.ensures
    ∙ sym (map_more place_of_code codes index 0 c.loop-code-test.true)))

pub returns : goal.returns
returns c =
    c.loop-code.invariant
    ∙ ap (λ (xs : List ℕ). map place_of_code xs)
    (take_all c.loop-code.code-index c.args.codes.now (omega (arith, c.loop-code-test.false)))
