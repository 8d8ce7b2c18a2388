use Rattle.std.proofs.Common.{◌∙◌, length, refl, sym, ap, subst}
use Rattle.hv_propagation.specs.Trail.{Grows, Knowledge, marks_of}
use Rattle.hv_propagation.proofs.Chasing.{grown_by}
use Rattle.hv_propagation.proofs.Marked.{agrees_extends}
use Rattle.hv_propagation.proofs.Trailed.{length-marks}
use Rattle.hv_clauses.proofs.find.search_on.Goals as goal

pub returns-then-not-close-clause-met : goal.returns-then-not-close-clause-met
returns-then-not-close-clause-met g c = λ number less state size fits.
    let begun = c.requires.begun in
    c.if-not-close.ensures.followed.broken refl state (size ∙ sym begun.wide) fits.inside
    (begun.roots.follows state (size ∙ sym (length-marks c.args.marks.now ∙ begun.wide))
    fits.applies fits.inside)

pub choose-requires-clause-rooted : goal.choose-requires-clause-rooted
choose-requires-clause-rooted g c =
    let k = c.args.marks.now in
    let begun = c.requires.begun in
    let last = c.if-not-close.ensures.followed in
    let wide = ap length last.roots ∙ begun.wide in
    record {
      wide = wide;
      roots = record {
        follows = λ state long applies inside.
            let size = long ∙ (length-marks c.close.new.marks ∙ wide) in
            last.follows state (size ∙ sym begun.wide) inside
            (begun.roots.follows state (size ∙ sym (length-marks k ∙ begun.wide)) applies inside);
        enabled = λ state agrees. begun.roots.enabled state
            (agrees_extends (marks_of k) (marks_of c.close.new.marks) state last.grows agrees);
      };
      left = c.if-not-close.ensures.left refl;
    }

pub close-requires-clause-over : goal.close-requires-clause-over
close-requires-clause-over g c = c.requires.begun.wide

pub close-requires-clause-left : goal.close-requires-clause-left
close-requires-clause-left g c = c.requires.begun.left

pub returns-then-not-close-clause-grown : goal.returns-then-not-close-clause-grown
returns-then-not-close-clause-grown g c = grown_by _ _ _ _ c.if-not-close.ensures.followed

pub choose-requires-clause-means : goal.choose-requires-clause-means
choose-requires-clause-means g c = c.requires.means

pub returns-clause-met : goal.returns-clause-met
returns-clause-met g c = c.choose.ensures.met

pub returns-clause-grown : goal.returns-clause-grown
returns-clause-grown g c =
    subst (λ (k : Knowledge). Grows c.args.marks.now k) (sym c.choose.ensures.same)
    (grown_by _ _ _ _ c.if-not-close.ensures.followed)

pub returns-clause-state : goal.returns-clause-state
returns-clause-state g c = c.choose.ensures.state
