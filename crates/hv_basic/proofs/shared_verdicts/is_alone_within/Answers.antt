use Rattle.std.proofs.Common.{◌<◌, ◌∙◌, [], ℕ, Bool, refl, subst, sym}
use Rattle.std.proofs.lemmas.List.Elements.{All-contains}
use Rattle.std.specs.List.{Contains}
use Rattle.hv_lines.proofs.Elements.{head_in}
use Rattle.hv_lines.specs.Numbering.{expr_count}
use Rattle.hv_lines.specs.Shapes.{Askings, AskingsRise}
use Rattle.hv_basic.specs.Cases.{lines_in}
use Rattle.hv_basic.specs.Working.Views.{question_of}
use Rattle.hv_basic.proofs.Within.{negative_below}
use Rattle.hv_basic.proofs.shared_verdicts.is_alone_within.Goals as goal

pub is_among-requires : goal.is_among-requires
is_among-requires c =
    subst AskingsRise (sym c.deref-2.ensures.value) c.requires.question.is.positive_rises

pub expr-requires : goal.expr-requires
expr-requires c =
    All-contains (λ (a : ℕ × Bool). a.0 < expr_count (lines_in c.args.case.now))
    c.args.question.now.negative.items c.in-Some.own
    (negative_below (lines_in c.args.case.now) c.requires.table (question_of c.args.question.now)
    c.requires.question)
    (subst (λ (xs : Askings). Contains xs c.in-Some.own)
    (sym (sym c.deref.ensures.value ∙ c.in-Some.ensures)) (head_in c.in-Some.own []))

pub returns : goal.returns
returns c = λ yes.
    let counted = c.chooses_upto.ensures yes in
    record {
      family = c.if-not-is_in_clauses.ensures refl;
      own = c.in-Some.own;
      only = sym c.deref.ensures.value ∙ c.in-Some.ensures;
      asked_for = subst (λ (xs : Askings). Contains xs c.in-Some.own) c.deref-2.ensures.value
          (c.if-not-is_among.ensures refl);
      ways = counted.0;
      told = (c.expr.result.now, c.expr.ensures.says, counted.1);
      few = counted.2;
    }
