use Rattle.std.proofs.Common.{◌∙◌, length, subst, sym}
use Rattle.hv_sets.specs.Query.{IsNamed}
use Rattle.hv_propagation.specs.Clauses.{AreClauses}
use Rattle.hv_propagation.specs.Trail.{Knowledge}
use Rattle.hv_clauses.specs.Working.Found.{AreFollowedRoots}
use Rattle.hv_indexes.specs.Occurrences.{IsIndexOf}
use Rattle.hv_clauses.specs.Working.Posed.{formulas}
use Rattle.hv_clauses.proofs.AffectedChoices.{met_from_touched}
use Rattle.hv_clauses.proofs.affected.choose_affected.Goals as goal

pub try_value-requires-clause-touched : goal.try_value-requires-clause-touched
try_value-requires-clause-touched g c =
    let p = c.args.problem.now in
    record {
      asked_twice = c.requires.asked_twice;
      which = c.in-Set.is;
      below = subst (λ n. AreClauses n (formulas p c.in-Set.number)) c.set-set.ensures.atoms
          (subst (λ cs. AreClauses c.set-set.result.now.atoms cs)
          (c.clauses.ensures.clauses ∙ c.set-set.ensures.clauses)
          c.clauses.ensures.below);
      clauses = c.clauses.ensures.clauses ∙ c.set-set.ensures.clauses;
      index = subst (λ cs. IsIndexOf cs c.occurs.result.now) c.set-set.ensures.clauses
          c.occurs.ensures;
    }

pub try_value-requires-2-clause-touched : goal.try_value-requires-2-clause-touched
try_value-requires-2-clause-touched g c =
    let p = c.args.problem.now in
    record {
      asked_twice = c.requires.asked_twice;
      which = c.in-Set.is;
      below = subst (λ n. AreClauses n (formulas p c.in-Set.number)) c.set-set.ensures.atoms
          (subst (λ cs. AreClauses c.set-set.result.now.atoms cs)
          (c.clauses.ensures.clauses ∙ c.set-set.ensures.clauses)
          c.clauses.ensures.below);
      clauses = c.clauses.ensures.clauses ∙ c.set-set.ensures.clauses;
      index = subst (λ cs. IsIndexOf cs c.occurs.result.now) c.set-set.ensures.clauses
          c.occurs.ensures;
    }

pub returns-clause-met : goal.returns-clause-met
returns-clause-met g c =
    let p = c.args.problem.now in
    met_from_touched p c.args.operand c.in-Set.number c.requires.asked_twice c.in-Set.is
    c.try_value.new.state c.try_value-2.new.state
    c.if-try_value.ensures.met c.try_value-2.result c.try_value-2.ensures.met

pub set-set-requires : goal.set-set-requires
set-set-requires g c =
    subst (λ w. IsNamed (length c.args.problem.now.store) w) c.in-Set.is
    c.requires.asked_twice.stored

pub try_value-requires-2-clause-rooted : goal.try_value-requires-2-clause-rooted
try_value-requires-2-clause-rooted g c =
    subst (λ (k : Knowledge). AreFollowedRoots c.args.problem.now k)
    (sym c.if-try_value.ensures.same) c.requires.rooted

pub returns-then-try_value-clause-met : goal.returns-then-try_value-clause-met
returns-then-try_value-clause-met g c = c.if-try_value.ensures.met

pub returns-then-try_value-clause-same : goal.returns-then-try_value-clause-same
returns-then-try_value-clause-same g c = c.if-try_value.ensures.same

pub returns-clause-same : goal.returns-clause-same
returns-clause-same g c = c.try_value-2.ensures.same ∙ c.if-try_value.ensures.same
