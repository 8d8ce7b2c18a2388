use Rattle.std.proofs.Common.{◌≡◌, ◌∙◌, Some, ap, arith, false, refl, subst, sym}
use Rattle.std.proofs.lemmas.List.Elements.{Contains-get_or}
use Rattle.std.proofs.lemmas.Option.{slice_get-get_or}
use Rattle.std.proofs.lemmas.Result.{IfOk-weaker}
use Rattle.std.specs.List.{All}
use Rattle.hv_task.specs.Strips.{atoms}
use Rattle.hv_sets.specs.Cubes.{SpeakBelow}
use Rattle.hv_propagation.specs.Clauses.{AreClauses}
use Rattle.hv_formula.specs.Clausal.{FormulaState}
use Rattle.hv_basic.specs.Cases.{lines_in}
use Rattle.hv_basic.specs.Sharing.{AreJointClauses}
use Rattle.hv_basic.proofs.JointClauses.{all_none, all_put, found_of, joint_none, joint_put, joint_whole}
use Rattle.hv_basic.proofs.Mixing.{found_is, found_within}
use Rattle.hv_basic.proofs.joint.clauses_of_all.Goals as goal

pub loop-set-init : goal.loop-set-init
loop-set-init g c = record {
  clauses = joint_none (lines_in c.args.case.now) c.new-all.result c.new-all.ensures;
  below =
      all_none (λ clause. SpeakBelow (atoms c.args.case.now.task.now) clause)
      c.new-all.result c.new-all.ensures;
  kind = all_none g.K.ClauseKind.is_of c.new-all.result c.new-all.ensures;
}

pub number_of-requires : goal.number_of-requires
number_of-requires g c =
    let stored = c.requires _
    (Contains-get_or c.args.asked.now c.loop-set.set-index (0, false) c.loop-set-test.true) in
    (stored.number, stored.named)

pub get-requires : goal.get-requires
get-requires g c =
    let stored = c.requires _
    (Contains-get_or c.args.asked.now c.loop-set.set-index (0, false) c.loop-set-test.true) in
    found_within _ _ _ _ (found_of _ _ _ _ _ stored) c.args.store.now refl c.number_of.result
    c.number_of.ensures

pub loop-set-preserved : goal.loop-set-preserved
loop-set-preserved g c =
    let i = c.loop-set.set-index in
    let asked = c.args.asked.now in
    let within = c.loop-set-test.true in
    let stored = c.requires _ (Contains-get_or asked i (0, false) within) in
    let same = found_is _ _ _ _ (found_of _ _ _ _ _ stored) c.args.store.now refl
    c.number_of.result c.number_of.ensures c.get.result.now c.get.ensures in
    let own = c.clauses.ensures.clauses in record {
      clauses =
          joint_put (lines_in c.args.case.now) asked i _ c.loop-set.all c.clauses.result.now _
          stored.expr (slice_get-get_or asked i (0, false) within) stored.at
          (stored.of ∙ ap Some (ap (λ (f : FormulaState). f.clauses) (sym same) ∙ sym own))
          c.in_ok-put_clauses.ensures c.loop-set.invariant.clauses;
      below =
          all_put (λ clause. SpeakBelow (atoms c.args.case.now.task.now) clause)
          c.loop-set.all c.clauses.result.now _ c.in_ok-put_clauses.ensures
          c.loop-set.invariant.below
          (subst (λ n. AreClauses n c.clauses.result.now)
          (ap (λ (f : FormulaState). f.atoms) same ∙ stored.wide) c.clauses.ensures.below);
      kind =
          all_put g.K.ClauseKind.is_of c.loop-set.all c.clauses.result.now _
          c.in_ok-put_clauses.ensures
          c.loop-set.invariant.kind c.clauses.ensures.kind;
    }

pub returns-clause-clauses : goal.returns-clause-clauses
returns-clause-clauses g c =
    IfOk-weaker c.share.result (λ shared. shared ≡ c.loop-set.all)
    (AreJointClauses (lines_in c.args.case.now) c.args.asked.now)
    (λ shared same. subst (AreJointClauses (lines_in c.args.case.now) c.args.asked.now) (sym same)
    (joint_whole (lines_in c.args.case.now) c.args.asked.now c.loop-set.set-index c.loop-set.all
    (omega (arith, c.loop-set-test.false)) c.loop-set.invariant.clauses)) c.share.ensures

pub returns-clause-below : goal.returns-clause-below
returns-clause-below g c =
    IfOk-weaker c.share.result (λ shared. shared ≡ c.loop-set.all)
    (AreClauses (atoms c.args.case.now.task.now))
    (λ shared same. subst (AreClauses (atoms c.args.case.now.task.now)) (sym same)
    c.loop-set.invariant.below) c.share.ensures

pub returns-clause-kind : goal.returns-clause-kind
returns-clause-kind g c =
    IfOk-weaker c.share.result (λ shared. shared ≡ c.loop-set.all) (All g.K.ClauseKind.is_of)
    (λ shared same. subst (All g.K.ClauseKind.is_of) (sym same) c.loop-set.invariant.kind)
    c.share.ensures
