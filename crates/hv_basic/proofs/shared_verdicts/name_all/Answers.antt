use Rattle.std.proofs.Common.{◌<◌, true, subst, sym}
use Rattle.std.specs.List.{All}
use Rattle.hv_lines.specs.Numbering.{expr_count}
use Rattle.hv_lines.specs.Shapes.{Askings}
use Rattle.hv_basic.specs.Cases.{lines_in}
use Rattle.hv_basic.specs.Working.Asked.{AreOperands}
use Rattle.hv_basic.proofs.Sharing.{shared_asked}
use Rattle.hv_basic.proofs.shared_verdicts.name_all.Goals as goal

pub operands_of-requires : goal.operands_of-requires
operands_of-requires c =
    subst (λ (xs : Askings). All (λ a. a.0 < expr_count (lines_in c.args.case.now)) xs)
    (sym c.deref.ensures.value) c.requires.below

pub returns-clause-named : goal.returns-clause-named
returns-clause-named c =
    subst (λ (xs : Askings). AreOperands (lines_in c.args.case.now) xs c.in_ok-negative.negative)
    c.deref.ensures.value c.in_ok-negative.ensures

pub returns-clause-kept : goal.returns-clause-kept
returns-clause-kept c = λ shared.
    shared_asked (lines_in c.args.case.now) c.args.kept.now
    (record c.args.kept.now.query { negative = c.in_ok-negative.negative }) true
    (λ _. subst (λ (xs : Askings). AreOperands (lines_in c.args.case.now) xs
    c.in_ok-negative.negative) c.deref.ensures.value c.in_ok-negative.ensures) shared
