use Rattle.std.proofs.Common.{◌≡◌, ◌∙◌, ◌<◌, [], true, length, refl, sym, ap, arith, below_more}
use Rattle.std.proofs.Common.{subst}
use Rattle.std.proofs.lemmas.List.{get_or_default}
use Rattle.std.proofs.lemmas.Option.{get_or_from_slice_get}
use Rattle.hv_sets.specs.Truth.{in_clause}
use Rattle.hv_indexes.specs.Places.{clause_at}
use Rattle.hv_propagation.specs.Marks.{Agrees, KeepsKnown}
use Rattle.hv_propagation.specs.Trail.{Knowledge, marks_of}
use Rattle.hv_propagation.proofs.Chasing.{clause_below}
use Rattle.hv_propagation.proofs.Covered.{all_true, cube_agrees, cube_empty, forced_cube}
use Rattle.hv_propagation.proofs.Covered.{outside_found}
use Rattle.hv_propagation.proofs.Marked.{length-low}
use Rattle.hv_propagation.proofs.Trailed.{length-marks}
use Rattle.hv_propagation.proofs.cover.cover_from.Goals as goal

pub returns-then-not-force_all-clause-covers : goal.returns-then-not-force_all-clause-covers
returns-then-not-force_all-clause-covers c = λ state size inside.
    absurd (cube_empty c.args.cube.now (marks_of c.args.marks.now) (marks_of c.force_all.new.marks)
    _ c.requires.none
    (forced_cube c.none-none.result c.args.cube.now _ _ _ c.none-none.ensures
    c.if-not-force_all.ensures.forced) refl state
    (size ∙ sym (length-marks c.args.marks.now ∙ c.requires.marks)) inside)

pub breaks-requires : goal.breaks-requires
breaks-requires c =
    let wide = ap (λ (k : Knowledge). length k.roots) c.loop-place.invariant.same
    ∙ (ap length c.if-not-force_all.ensures.grown.roots ∙ c.requires.marks) in
    let less : c.loop-place.place < length c.args.clauses.now =
    (let h = c.loop-place-test.true in let end = c.len-place-end.ensures in omega arith) in
    clause_below [] c.args.clauses.now c.loop-place.place c.get.result.now less c.get.ensures _ _
    c.requires.clauses wide

pub fill-requires : goal.fill-requires
fill-requires c =
    let wide = ap (λ (k : Knowledge). length k.roots) c.loop-place.invariant.same
    ∙ (ap length c.if-not-force_all.ensures.grown.roots ∙ c.requires.marks) in
    c.loop-place.invariant.state ∙ sym (ap length (c.if-breaks.ensures.broken refl).1.roots ∙ wide)

pub returns-then-breaks-clause-covers : goal.returns-then-breaks-clause-covers
returns-then-breaks-clause-covers c =
    let lies = c.if-breaks.ensures.broken refl in
    let same = c.loop-place.invariant.same in
    let wide = ap (λ (k : Knowledge). length k.roots) same
    ∙ (ap length c.if-not-force_all.ensures.grown.roots ∙ c.requires.marks) in
    let less : c.loop-place.place < length c.args.clauses.now =
    (let h = c.loop-place-test.true in let end = c.len-place-end.ensures in omega arith) in
    outside_found (length c.args.state.now) c.args.clauses.now c.args.cube.now
    (marks_of c.args.marks.now) (marks_of c.force_all.new.marks)
    (marks_of c.breaks.new.marks) c.loop-place.place c.get.result.now c.get.result.now
    c.fill.new.state c.requires.none
    (forced_cube c.none-none.result c.args.cube.now _ _ _ c.none-none.ensures
    c.if-not-force_all.ensures.forced)
    (length-marks c.args.marks.now ∙ c.requires.marks)
    (length-marks c.breaks.new.marks ∙ (ap length lies.1.roots ∙ wide))
    c.requires.clauses c.requires.cube less
    (sym (get_or_from_slice_get c.args.clauses.now c.loop-place.place c.get.result.now
    c.get.result.now c.get.ensures)) refl lies.0
    (subst (λ (k : Knowledge). KeepsKnown (marks_of k) (marks_of c.breaks.new.marks)) same
    lies.1.grows) c.fill.ensures

pub returns-then-breaks-clause-state : goal.returns-then-breaks-clause-state
returns-then-breaks-clause-state c =
    let wide = ap (λ (k : Knowledge). length k.roots) c.loop-place.invariant.same
    ∙ (ap length c.if-not-force_all.ensures.grown.roots ∙ c.requires.marks) in
    ap length c.fill.ensures ∙ (length-low (marks_of c.breaks.new.marks)
    ∙ (length-marks c.breaks.new.marks ∙
    (ap length (c.if-breaks.ensures.broken refl).1.roots ∙ wide)))

pub loop-place-preserved : goal.loop-place-preserved
loop-place-preserved c = record {
  same = c.if-breaks.ensures.same refl ∙ c.loop-place.invariant.same;
  holds = λ state size agrees.
      below_more (λ k. in_clause (clause_at c.args.clauses.now k) state ≡ true) c.loop-place.place
      (c.loop-place.invariant.holds state size agrees)
      (ap (λ x. in_clause x state) (get_or_from_slice_get c.args.clauses.now c.loop-place.place
      c.get.result.now [] c.get.ensures)
      ∙ c.if-breaks.ensures.true_in refl state
      (size ∙ sym (ap (λ (k : Knowledge). length k.roots) c.loop-place.invariant.same))
      (subst (λ (k : Knowledge). Agrees (marks_of k) state) (sym c.loop-place.invariant.same)
      agrees));
  state = c.loop-place.invariant.state;
}

pub returns-clause-covers : goal.returns-clause-covers
returns-clause-covers c = λ state size inside.
    let clear_size = size ∙ sym (length-marks c.args.marks.now ∙ c.requires.marks) in
    let agrees = cube_agrees c.args.cube.now (marks_of c.args.marks.now)
    (marks_of c.force_all.new.marks) _ c.requires.none
    (forced_cube c.none-none.result c.args.cube.now _ _ _ c.none-none.ensures
    c.if-not-force_all.ensures.forced) state clear_size inside in
    all_true c.args.clauses.now state
    (λ k d within. ap (λ x. in_clause x state) (get_or_default c.args.clauses.now k d [] within)
    ∙ c.loop-place.invariant.holds state (size
    ∙ sym (ap length c.if-not-force_all.ensures.grown.roots ∙ c.requires.marks)) agrees k
    (let last = c.loop-place-test.false in let end = c.len-place-end.ensures in omega arith))
