use Rattle.std.proofs.Common.{◌∙◌, map, ap, refl, sym}
use Rattle.hv_lines.specs.Queries.{operand_of}
use Rattle.hv_basic.specs.Cases.{lines_in, setting_in}
use Rattle.hv_basic.specs.Working.Views.{question_of}
use Rattle.hv_basic.proofs.Sharing.{shared_asked}
use Rattle.hv_basic.proofs.Within.{list_within, negative_below, own_within}
use Rattle.hv_basic.proofs.shared_verdicts.decide_kept.Goals as goal

pub returns-then-is_within_its-clause-answer : goal.returns-then-is_within_its-clause-answer
returns-then-is_within_its-clause-answer c =
    own_within (setting_in c.args.case.now) (lines_in c.args.case.now) c.args.kept.now
    c.requires.question c.requires.ways (c.if-is_within_its.ensures refl)

pub returns-then-is_list_within_its-clause-answer : goal.returns-then-is_list_within_its-clause-answer
returns-then-is_list_within_its-clause-answer c =
    list_within (setting_in c.args.case.now) (lines_in c.args.case.now) c.args.kept.now
    (c.if-is_list_within_its.ensures refl)

pub is_list_within_its-requires-clause-below : goal.is_list_within_its-requires-clause-below
is_list_within_its-requires-clause-below c = λ k d below.
    negative_below (lines_in c.args.case.now) c.requires.table
    (question_of c.args.kept.now.question) c.requires.question k d below

pub name_all-requires-clause-below : goal.name_all-requires-clause-below
name_all-requires-clause-below c = λ k d below.
    negative_below (lines_in c.args.case.now) c.requires.table
    (question_of c.args.kept.now.question) c.requires.question k d below

pub returns-clause-kept : goal.returns-clause-kept
returns-clause-kept c = λ shared.
    shared_asked (lines_in c.args.case.now) c.name_all.new.kept c.decide_sets.new.query
    c.name_all.new.kept.named
    (λ _. c.decide_sets.ensures.kept
    ∙ (c.in_ok-name_all.ensures.named
    ∙ ap (λ q. map (λ a. operand_of (lines_in c.args.case.now) a) q.negative.items)
    (sym c.name_all.ensures.question)))
    (c.name_all.ensures.kept shared)
