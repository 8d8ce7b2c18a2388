use Rattle.std.proofs.Common.{◌≡◌, ℕ, ◌≤◌, ◌∙◌, false, Option, None, Some, IfSome, length, refl, sym, ap}
use Rattle.std.proofs.Common.{arith, subst}
use Rattle.std.proofs.lemmas.List.{length-append}
use Rattle.std.specs.Option.{MatchOption}
use Rattle.std.specs.Prelude.{is_some}
use Rattle.hv_clauses.specs.Working.Found.{IsSearchBegun}
use Rattle.hv_clauses.specs.Working.Problem.{AreLeft}
use Rattle.hv_propagation.specs.Trail.{marks_of}
use Rattle.hv_propagation.proofs.Chasing.{grown_by, grows_then, longer}
use Rattle.hv_propagation.proofs.Marked.{agrees_extends, extends_then}
use Rattle.hv_propagation.proofs.Trailed.{length-marks}
use Rattle.hv_clauses.proofs.EarlyParts.{begun_grown}
use Rattle.hv_clauses.proofs.find.mark_base.Goals as goal

-- what holds of a place, if there is one, and else
match_from : (r : Option ℕ) (L : ℕ → Type 0) (N : Type 0) (B : ℕ → Type 0)
    → (is_some r ≡ false → N) → ((place : ℕ) → L place → B place) → IfSome r L
    → MatchOption r N B
match_from None L N B none some holds = none refl
match_from (Some place) L N B none some holds = some place holds

pub returns-then-not-mark_pre-clause-begun : goal.returns-then-not-mark_pre-clause-begun
returns-then-not-mark_pre-clause-begun g c = λ state size applies inside.
    let k = c.args.marks.now in
    c.if-not-mark_pre.ensures.marked.broken refl state
    (size ∙ sym (length-marks k ∙ c.requires.begun.wide)) applies
    (c.requires.begun.follows state size inside)

pub start_on-requires-clause-wide : goal.start_on-requires-clause-wide
start_on-requires-clause-wide g c = ap length c.if-not-mark_pre.ensures.grown.roots
    ∙ c.requires.begun.wide

pub start_on-requires-clause-begun : goal.start_on-requires-clause-begun
start_on-requires-clause-begun g c = (
  length c.args.marks.now.trail,
  begun_grown c.args.problem.now c.args.begun c.args.marks.now c.mark_pre.new.marks
      (length c.args.marks.now.trail) c.if-not-mark_pre.ensures.grown (omega arith)
      c.requires.begun.from,
)

pub returns-then-not-start_on-clause-begun : goal.returns-then-not-start_on-clause-begun
returns-then-not-start_on-clause-begun g c = λ state size applies inside.
    let k = c.args.marks.now in
    c.if-not-start_on.ensures.followed.broken refl state
    (size ∙ sym (ap length c.if-not-mark_pre.ensures.grown.roots ∙ c.requires.begun.wide)) inside
    (c.if-not-mark_pre.ensures.marked.follows state
    (size ∙ sym (length-marks k ∙ c.requires.begun.wide))
    applies (c.requires.begun.follows state size inside))

pub returns-then-not-start_on-clause-grown : goal.returns-then-not-start_on-clause-grown
returns-then-not-start_on-clause-grown g c =
    grows_then _ _ _ c.if-not-mark_pre.ensures.grown
    (grown_by _ _ _ _ c.if-not-start_on.ensures.followed)

pub close_upto-requires-clause-over : goal.close_upto-requires-clause-over
close_upto-requires-clause-over g c = ap length c.if-not-start_on.ensures.followed.roots
    ∙ (ap length c.if-not-mark_pre.ensures.grown.roots ∙ c.requires.begun.wide)

pub close_upto-requires-clause-from : goal.close_upto-requires-clause-from
close_upto-requires-clause-from g c =
    let grown = c.if-not-mark_pre.ensures.grown in
    omega (
      arith,
      c.len-point.ensures.len,
      ap length grown.more.1,
      length-append c.args.marks.now.trail grown.more.0,
      longer _ _ _ _ c.if-not-start_on.ensures.followed,
    )

pub close_upto-requires-clause-left : goal.close_upto-requires-clause-left
close_upto-requires-clause-left g c =
    let grown = c.if-not-mark_pre.ensures.grown in
    subst (λ n. AreLeft c.args.problem.now c.start_on.new.marks n) (sym c.len-point.ensures.len)
    (c.if-not-start_on.ensures.left refl (length c.args.marks.now.trail)
    (omega (arith, ap length grown.more.1, length-append c.args.marks.now.trail grown.more.0))
    (begun_grown c.args.problem.now c.args.begun c.args.marks.now c.mark_pre.new.marks
    (length c.args.marks.now.trail) grown (omega arith) c.requires.begun.from))

pub returns-clause-begun : goal.returns-clause-begun
returns-clause-begun g c =
    let k = c.args.marks.now in
    let p = c.args.problem.now in
    let new = c.close_upto.new.marks in
    let pre = c.if-not-mark_pre.ensures in
    let all = c.if-not-start_on.ensures.followed in
    let last = c.close_upto.ensures.followed in
    let begun = c.requires.begun in
    let wide_pre = ap length pre.grown.roots ∙ begun.wide in
    let wide_all = ap length all.roots ∙ wide_pre in
    let wide = ap length last.roots ∙ wide_all in
    match_from c.close_upto.result
    (λ place. (place ≤ length new.trail) × AreLeft p new place) _ (λ place. IsSearchBegun p place new)
    (λ none state size applies inside. last.broken none state (size ∙ sym wide_all) inside
    (all.follows state (size ∙ sym wide_pre) inside
    (pre.marked.follows state (size ∙ sym (length-marks k ∙ begun.wide)) applies
    (begun.follows state size inside))))
    (λ place left. record {
      wide = wide;
      roots = record {
        follows = λ state long applies inside.
            let size = long ∙ (length-marks new ∙ wide) in
            last.follows state (size ∙ sym wide_all) inside
            (all.follows state (size ∙ sym wide_pre) inside
            (pre.marked.follows state (size ∙ sym (length-marks k ∙ begun.wide)) applies
            (begun.follows state size inside)));
        enabled = λ state agrees. pre.marked.done refl state
            (agrees_extends (marks_of c.mark_pre.new.marks) (marks_of new) state
            (extends_then (marks_of c.mark_pre.new.marks) (marks_of c.start_on.new.marks)
            (marks_of new) all.grows last.grows) agrees);
      };
      within = left.0;
      left = left.1;
    })
    c.close_upto.ensures.left

pub returns-clause-grown : goal.returns-clause-grown
returns-clause-grown g c =
    grows_then _ _ _ c.if-not-mark_pre.ensures.grown
    (grows_then _ _ _ (grown_by _ _ _ _ c.if-not-start_on.ensures.followed)
    (grown_by _ _ _ _ c.close_upto.ensures.followed))
