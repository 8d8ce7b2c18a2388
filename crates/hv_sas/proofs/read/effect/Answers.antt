use Rattle.std.proofs.Common.{◌++◌, ◌∷◌, [], subst, sym, Bool, List, arith}
use Rattle.hv_grammar.proofs.Going.{done, filled_err, go, no_memory, start, stops}
use Rattle.hv_sas.specs.declared.sas_task.Effect.{Effect}
use Rattle.hv_sas.specs.Text as text
use Rattle.hv_sas.specs.Working.Reading.{AreMarked}
use Rattle.hv_sas.proofs.Atoms.{range_within}
use Rattle.hv_sas.proofs.Marks.{marked_push}
use Rattle.hv_sas.proofs.read.effect.Goals as goal

pub set-requires : goal.set-requires
set-requires g c =
    let e = c.in_ok-effect.effect in
    let within = range_within c.args.variables.now e.var e.after
    c.in_ok-effect.ensures.effect.after in
    let size = c.requires.marked.count in omega arith

pub returns-in_err-effect-clause-reads : goal.returns-in_err-effect-clause-reads
returns-in_err-effect-clause-reads g c =
    stops _ (start (text.effect c.args.variables.now c.args.effects.now) _)
    c.in_err-effect.ensures.reads (filled_err _ _ _ c.from_residual.ensures.1)

pub returns-in_err-push-clause-reads : goal.returns-in_err-push-clause-reads
returns-in_err-push-clause-reads g c =
    no_memory _ _ _ _ _ (go _ (start (text.effect c.args.variables.now c.args.effects.now) _)
    c.in_ok-effect.ensures.reads)
    (filled_err _ _ _ c.from_residual-in_err-push.ensures.1)

pub returns-clause-reads : goal.returns-clause-reads
returns-clause-reads g c =
    done _ _ _ _ _ (go _ (start (text.effect c.args.variables.now c.args.effects.now) _)
    c.in_ok-effect.ensures.reads)
    c.in_ok-effect.ensures.reads.can c.in_ok-push.ensures.ok

pub returns-clause-marked : goal.returns-clause-marked
returns-clause-marked g c =
    let vs = c.args.variables.now in
    let e = c.in_ok-effect.effect in
    subst (λ (es : List Effect). AreMarked vs es c.set.new.self) (sym c.in_ok-push.ensures.ok)
    (subst (λ (marks : List Bool). AreMarked vs (c.args.effects.now ++ e ∷ []) marks)
    (sym c.set.ensures)
    (marked_push vs c.args.effects.now e c.args.marks.now c.requires.marked))
