use Rattle.std.proofs.Common.{◌∙◌, ◌&&◌, ◌∷◌, [], true, take, sym, ap, ap₂}
use Rattle.std.proofs.lemmas.List.{take_all, take_more}
use Rattle.std.proofs.lemmas.List.Folds.{list_all-append, list_all_at}
use Rattle.std.specs.List.{list_all}
use Rattle.hv_explicit.specs.Working.Search.{in_either}
use Rattle.hv_explicit.proofs.sets_query.SetsQuery.are_all.Goals as goal

pub returns-then-not-is_in : goal.returns-then-not-is_in
returns-then-not-is_in g c = λ b a stands_b stands_a.
    let e = c.is_in.ensures b a stands_b stands_a in
    sym (list_all_at _ _ _ _ c.loop-operand-test.true (sym e ∙ c.if-not-is_in.true))

pub loop-operand-preserved : goal.loop-operand-preserved
loop-operand-preserved g c = λ b a stands_b stands_a.
    let p = in_either c.args.self.now b a in
    let xs = c.args.operands.now in
    let i = c.loop-operand.operand-index in
    ap (list_all p) (take_more xs i _ c.loop-operand-test.true)
    ∙ (list_all-append p (take i xs) (_ ∷ [])
    ∙ ap₂ (λ u v. u && (v && true)) (c.loop-operand.invariant b a stands_b stands_a)
    (sym (c.is_in.ensures b a stands_b stands_a) ∙ c.if-not-is_in.false))

pub returns : goal.returns
returns g c = λ b a stands_b stands_a.
    let p = in_either c.args.self.now b a in
    sym (ap (list_all p) (sym (take_all c.loop-operand.operand-index c.args.operands.now
    c.loop-operand-test.false))
    ∙ c.loop-operand.invariant b a stands_b stands_a)
