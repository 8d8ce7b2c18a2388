use Rattle.std.proofs.Common.{◌∙◌, List, refl, subst, sym}
use Rattle.hv_basic.specs.Cases.{lines_in, setting_in}
use Rattle.hv_basic.specs.Working.Gathered.{HaveTheirFamilies}
use Rattle.hv_basic.specs.Working.Told.{IsToldTrue}
use Rattle.hv_basic.specs.declared.signed_sets.Asking.{Asking}
use Rattle.hv_basic.proofs.Telling.{kept_of, left_families, told_within}
use Rattle.hv_basic.proofs.shared_verdicts.verdict_by_kept.Goals as goal

pub is_told-requires-clause-families : goal.is_told-requires-clause-families
is_told-requires-clause-families c =
    subst (λ (xs : List Asking). HaveTheirFamilies (lines_in c.args.case.now) xs)
    (sym c.deref.ensures.value)
    (left_families (lines_in c.args.case.now) c.args.claim.word c.args.claim.left
    c.args.sides.askings.items c.requires.left.askings)

pub returns-then-is_told-clause-answer : goal.returns-then-is_told-clause-answer
returns-then-is_told-clause-answer c =
    let lines = lines_in c.args.case.now in
    let kept = c.keep_right.new.kept in
    told_within (setting_in c.args.case.now) lines c.args.claim.word c.args.claim.left
    c.args.claim.right kept c.args.sides
    (kept_of lines kept c.args.claim.right c.keep_right.ensures.kept
    (c.in_ok-keep_right.ensures.root c.if-not-branch.false))
    (c.in_ok-keep_right.ensures.after c.if-not-branch.false ∙ c.asks_sides_after.ensures)
    c.requires.left
    (subst (λ (xs : List Asking). IsToldTrue lines kept xs c.args.case.now.budget)
    c.deref.ensures.value (c.if-is_told.ensures refl))
