use Rattle.std.proofs.Common.{◌≡◌, ◌∙◌, ◌<◌, ◌∷◌, [], Some, ap, false, refl, subst}
use Rattle.std.proofs.lemmas.List.Elements.{All-contains}
use Rattle.std.specs.List.{Contains}
use Rattle.hv_lines.specs.Numbering.{expr_count}
use Rattle.hv_lines.specs.Shapes.{Askings}
use Rattle.hv_basic.specs.Cases.{lines_in}
use Rattle.hv_basic.proofs.shared_verdicts.is_list_within_its.Goals as goal

pub expr-requires : goal.expr-requires
expr-requires c =
    All-contains (λ a. a.0 < expr_count (lines_in c.args.case.now))
    c.args.kept.now.question.negative.items (c.in-Some.own, false) c.requires.below
    (subst (λ (xs : Askings). Contains xs (c.in-Some.own, false)) c.deref-2.ensures.value
    (c.if-not-is_among.ensures refl))

pub returns : goal.returns
returns c = λ yes.
    let lists = c.lists_upto.ensures yes in
    record {
      family = c.if-not-is_listed.ensures.0 refl;
      own = c.in-Some.own;
      only = subst (λ (xs : Askings). xs ≡ (c.in-Some.own, false) ∷ []) c.deref.ensures.value
          c.in-Some.ensures;
      has = subst (λ (xs : Askings). Contains xs (c.in-Some.own, false)) c.deref-2.ensures.value
          (c.if-not-is_among.ensures refl);
      states = lists.0;
      at = c.expr.ensures.says ∙ ap Some lists.1;
      few = lists.2;
    }
