use Rattle.std.proofs.Common.{◌≡◌, ◌∙◌, length, arith, inl, inr, refl, subst}
use Rattle.std.proofs.lemmas.Bool.{cases_lt}
use Rattle.hv_propagation.specs.Marks.{known}
use Rattle.hv_propagation.specs.Trail.{marked, marks_of}
use Rattle.hv_formula.proofs.Forced.{said_everywhere}
use Rattle.hv_formula.proofs.closure.list.Goals as goal

pub loop-atom-preserved : goal.loop-atom-preserved
loop-atom-preserved c =
    let k = c.args.marks.now in
    let n = length k.roots in
    let end = c.atoms-atom-end.ensures.atoms in
    let test = c.loop-atom-test.true in
    record {
      listed = c.in_ok-put.ensures.below;
      same = λ p less.
          elim (cases_lt p c.loop-atom.atom) [
            | inl before ↦ c.in_ok-put.ensures.others n p (λ e. omega arith)
                ∙ c.loop-atom.invariant.same p before
            | inr last ↦
                let at : c.loop-atom.atom ≡ p = omega arith in
                subst (λ q. known (marked n c.put.new.forced.items) q ≡ known (marks_of k) q) at
                (c.in_ok-put.ensures.here n (omega arith) ∙ c.read.ensures)
          ];
    }

pub returns-clause-same : goal.returns-clause-same
returns-clause-same c =
    let k = c.args.marks.now in
    let end = c.atoms-atom-end.ensures.atoms in
    let few = c.atoms-atom-end.ensures.few in
    let past = c.loop-atom-test.false in
    said_everywhere k c.loop-atom.forced.items (length k.roots) refl
    (λ p less. c.loop-atom.invariant.same p (omega arith))
