use Rattle.std.proofs.Common.{◌∙◌, subst, sym}
use Rattle.std.specs.Option.{IfSome}
use Rattle.hv_lines.specs.Queries.{duals_of, has_of, horns_of, twos_of}
use Rattle.hv_basic.specs.Cases.{lines_in, setting_in}
use Rattle.hv_basic.specs.Working.Framed.{AreCrossing}
use Rattle.hv_basic.proofs.Crossing.{some_crossing}
use Rattle.hv_basic.proofs.framed.crossing_at.Goals as goal

pub returns-in_ok-numbers-in-Horn : goal.returns-in_ok-numbers-in-Horn
returns-in_ok-numbers-in-Horn c =
    let lines = lines_in c.args.case.now in
    let task = c.args.case.now.task.now in
    let into = c.args.frame.into in
    subst (λ f. IfSome c.in_ok-numbers-in-Horn.numbers (AreCrossing task
    (has_of (setting_in c.args.case.now) lines f c.args.frame.number) into)) (sym c.in-Horn.is)
    (some_crossing task c.horns-sets.result.now (horns_of lines) c.args.frame.number into
    c.in_ok-numbers-in-Horn.numbers
    (c.horns-sets.ensures ∙ c.args.case.now.stored.horns) c.in_ok-numbers-in-Horn.ensures)

pub returns-in_ok-numbers-in-Dual : goal.returns-in_ok-numbers-in-Dual
returns-in_ok-numbers-in-Dual c =
    let lines = lines_in c.args.case.now in
    let task = c.args.case.now.task.now in
    let into = c.args.frame.into in
    subst (λ f. IfSome c.in_ok-numbers-in-Dual.numbers (AreCrossing task
    (has_of (setting_in c.args.case.now) lines f c.args.frame.number) into)) (sym c.in-Dual.is)
    (some_crossing task c.duals-sets.result.now (duals_of lines) c.args.frame.number into
    c.in_ok-numbers-in-Dual.numbers
    (c.duals-sets.ensures ∙ c.args.case.now.stored.duals) c.in_ok-numbers-in-Dual.ensures)

pub returns-in_ok-numbers-in-Two : goal.returns-in_ok-numbers-in-Two
returns-in_ok-numbers-in-Two c =
    let lines = lines_in c.args.case.now in
    let task = c.args.case.now.task.now in
    let into = c.args.frame.into in
    subst (λ f. IfSome c.in_ok-numbers-in-Two.numbers (AreCrossing task
    (has_of (setting_in c.args.case.now) lines f c.args.frame.number) into)) (sym c.in-Two.is)
    (some_crossing task c.twos-sets.result.now (twos_of lines) c.args.frame.number into
    c.in_ok-numbers-in-Two.numbers
    (c.twos-sets.ensures ∙ c.args.case.now.stored.twos) c.in_ok-numbers-in-Two.ensures)
