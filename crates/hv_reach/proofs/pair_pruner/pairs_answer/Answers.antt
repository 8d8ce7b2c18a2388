use Rattle.std.proofs.Common.{◌∙◌, ◌++◌, ◌∷◌, [], Bool, List, Some}
use Rattle.std.proofs.Common.{ap, refl, sym, subst}
use Rattle.hv_task.specs.Strips.{atoms}
use Rattle.hv_lines.specs.Drafts.{IsGoodTable}
use Rattle.hv_lines.specs.Numbering.{expr_count, known_count}
use Rattle.hv_lines.specs.Working.Pruning.{IsOutcome}
use Rattle.hv_lines.proofs.Outcomes.{none_told, outcome_told}
use Rattle.hv_reach.specs.Pruners.{HoldsPairsOf, IsDenied, IsPairsBlock, PairsCover}
use Rattle.hv_reach.specs.Reached.{has_pair}
use Rattle.hv_reach.specs.Working.Pruners.{AreDiagonals}
use Rattle.hv_reach.specs.Written.{pairs_formula}
use Rattle.hv_reach.proofs.Described.{diagonals_over, diagonals_pushed}
use Rattle.hv_reach.proofs.Found.{pairs_found_formula, pairs_found_holds, pairs_found_reason}
use Rattle.hv_reach.proofs.Writing.{horn_outcome, written_described}
use Rattle.hv_reach.proofs.pair_pruner.pairs_answer.Goals as goal

pub returns-then-is_some-clause-outcome : goal.returns-then-is_some-clause-outcome
returns-then-is_some-clause-outcome c =
    outcome_told c.args.task.now (PairsCover c.args.task.now) (IsDenied (atoms c.args.task.now))
    (IsPairsBlock c.args.task.now c.args.state.now c.args.draft.now.lines)
    c.args.state.now c.args.kept.now.noted.notes.items c.args.draft.now c.requires.state
    c.requires.good c.requires.fits
    c.in_ok-noted.noted (sym c.is_some.ensures ∙ c.if-is_some.true) c.in_ok-noted.ensures

pub write_pairs-requires-clause-size : goal.write_pairs-requires-clause-size
write_pairs-requires-clause-size c = rw c.in-Some.is at c.in_ok-pairs.ensures.size

pub write_pairs-requires-clause-dead : goal.write_pairs-requires-clause-dead
write_pairs-requires-clause-dead c =
    let task = c.args.task.now in
    let each = rw c.in-Some.is at c.in_ok-pairs.ensures.reached in
    let out = (rw c.in-Some.is at c.in_ok-pairs.ensures.some).0 refl in
    (pairs_found_reason task c.in-Some.pairs c.args.state.now each
    (pairs_formula (atoms task) (has_pair c.in-Some.pairs)) (atoms task) refl refl
    c.requires.few c.requires.state out).dead

pub write_pairs-requires-clause-over : goal.write_pairs-requires-clause-over
write_pairs-requires-clause-over c = λ k less.
    let task = c.args.task.now in
    let size = rw c.in-Some.is at c.in_ok-pairs.ensures.size in
    diagonals_over task c.args.draft.now.lines c.args.kept.now.noted.notes.items
    c.args.kept.now.reached.items
    c.requires.described c.args.kept.now.noted.rows.rows c.requires.diagonals k less
    ∙ sym size

pub returns-in_ok-line-in-Some-clause-outcome : goal.returns-in_ok-line-in-Some-clause-outcome
returns-in_ok-line-in-Some-clause-outcome c =
    let task = c.args.task.now in
    let state = c.args.state.now in
    let each = rw c.in-Some.is at c.in_ok-pairs.ensures.reached in
    let out = (rw c.in-Some.is at c.in_ok-pairs.ensures.some).0 refl in
    let lines = c.args.draft.now.lines in
    let notes = c.args.kept.now.noted.notes.items in
    let clauses = pairs_formula (atoms task) (has_pair c.in-Some.pairs) in
    let none = none_told task lines notes state c.in_ok-noted.noted
    (sym c.is_some.ensures ∙ c.if-is_some.false)
    c.in_ok-noted.ensures in
    let wrote = c.in_ok-line-in-Some.ensures in
    subst (λ n. IsOutcome task (PairsCover task) (IsDenied (atoms task))
    (IsPairsBlock task state lines) state (Some n) notes c.args.draft.now
    c.write_pairs.new.noted.notes.items c.write_pairs.new.draft) (sym wrote.line)
    (horn_outcome task lines clauses (expr_count lines) (known_count lines)
    (subst (IsGoodTable task) wrote.lines wrote.good)
    (PairsCover task) state (pairs_found_reason task c.in-Some.pairs state each
    clauses (atoms task) refl refl c.requires.few c.requires.state out)
    (IsPairsBlock task state lines) notes c.requires.state
    c.requires.fits (
      clauses,
      pairs_found_formula task c.in-Some.pairs state each clauses (atoms task) refl refl,
      (refl, refl, refl),
    )
    none c.args.draft.now c.write_pairs.new.draft c.write_pairs.new.noted.notes.items refl
    wrote.lines wrote.notes)

pub returns-in_ok-line-in-Some-clause-described : goal.returns-in_ok-line-in-Some-clause-described
returns-in_ok-line-in-Some-clause-described c =
    let task = c.args.task.now in
    let state = c.args.state.now in
    let size = rw c.in-Some.is at c.in_ok-pairs.ensures.size in
    let each = rw c.in-Some.is at c.in_ok-pairs.ensures.reached in
    let lines = c.args.draft.now.lines in
    let clauses = pairs_formula (atoms task) (has_pair c.in-Some.pairs) in
    let wrote = c.in_ok-line-in-Some.ensures in
    written_described task lines clauses (expr_count lines) (known_count lines)
    (subst (IsGoodTable task) wrote.lines wrote.good)
    HoldsPairsOf (PairsCover task) c.args.kept.now.noted.notes.items c.args.kept.now.reached.items
    c.in-Some.pairs c.requires.fits c.requires.described size
    (pairs_found_holds task c.in-Some.pairs state each clauses (atoms task) refl refl)
    c.write_pairs.new.draft.lines c.write_pairs.new.noted.notes.items
    c.push_reserved.new.self.items
    wrote.lines wrote.notes
    (c.push_reserved.ensures.items ∙ ap (λ (xs : List (List (List Bool))). xs ++ c.in-Some.pairs
    ∷ []) c.reserve.ensures.items)

pub returns-in_ok-line-in-Some-clause-diagonals : goal.returns-in_ok-line-in-Some-clause-diagonals
returns-in_ok-line-in-Some-clause-diagonals c =
    let wrote = c.in_ok-line-in-Some.ensures.rows in
    subst (λ rs. AreDiagonals rs c.push_reserved.new.self.items) (sym wrote.2)
    (subst (AreDiagonals (c.args.kept.now.noted.rows.rows ++ wrote.0 ∷ []))
    (sym (c.push_reserved.ensures.items ∙ ap
    (λ (xs : List (List (List Bool))). xs ++ c.in-Some.pairs ∷ []) c.reserve.ensures.items))
    (diagonals_pushed c.args.kept.now.noted.rows.rows c.args.kept.now.reached.items
    wrote.0 c.in-Some.pairs c.requires.diagonals wrote.1))
