use Rattle.std.proofs.Common.{◌≡◌, ◌<◌, ◌∙◌, ◌+◌, ◌-◌, ◌/◌, ℕ, List, Some, length, get_or}
use Rattle.std.proofs.Common.{slice_get, sym, ap, ap₂, arith, subst}
use Rattle.std.proofs.lemmas.Option.{slice_get-get_or}
use Rattle.hv_sets.specs.declared.operand.Operand.{Operand}
use Rattle.hv_clauses.specs.Working.Front.{AreRefuted, IsAdvanced, IsFront, block_end}
use Rattle.hv_clauses.specs.Working.Front.{block_length}
use Rattle.hv_clauses.specs.Working.Posed.{sizes}
use Rattle.hv_clauses.proofs.Blocks.{below_end}
use Rattle.hv_propagation.proofs.Chasing.{grows_same, grows_then}
use Rattle.hv_clauses.proofs.Digits.{advanced_start, advanced_then, block_some, block_whole}
use Rattle.hv_clauses.proofs.Digits.{block_within, count_some, part_is, refuted_then}
use Rattle.hv_clauses.proofs.fronts.explore_on.Goals as goal

here_is : (xs ys : List Operand) (k : ℕ) (d : Operand) → xs ≡ ys → k < length xs
    → slice_get ys k ≡ Some (get_or xs k d)
here_is xs ys k d same less = subst (λ os. slice_get os k ≡ Some (get_or xs k d)) same
    (slice_get-get_or xs k d less)

before : (count fixed : ℕ) → fixed < count → count - 1 - fixed < count
before count fixed less = omega arith

behind : (count fixed : ℕ) → fixed < count → count - fixed ≡ count - 1 - fixed + 1
behind count fixed less = omega arith

next_is : (count fixed : ℕ) → fixed < count → count - 1 - fixed ≡ count - (fixed + 1)
next_is count fixed less = omega arith

some_of : (cost total number : ℕ) → cost ≡ total → number < cost → 0 < total
some_of cost total number is less = omega arith

pub loop-fixed-init : goal.loop-fixed-init
loop-fixed-init g c =
    let p = c.args.problem.now in
    let whole = ap length c.negative-negative.ensures.list in
    let upto : length c.negative-negative.result.now - 0
    ≡ length p.query.negative = omega (arith, whole) in
    record {
      block = c.requires.cost ∙ block_whole p
          (length c.negative-negative.result.now - 0) (omega (arith, upto));
      advanced = advanced_start p c.args.number c.args.cost _ c.args.marks.now upto c.requires.cost
          c.requires.number c.requires.rooted;
      grown = grows_same c.args.marks.now;
    }

pub count_of-requires : goal.count_of-requires
count_of-requires g c = c.negative-negative.ensures.named _ _
    (before (length c.negative-negative.result.now) c.loop-fixed.fixed c.loop-fixed-test.true)

pub nonzero_div-part : goal.nonzero_div-part
nonzero_div-part g c =
    let p = c.args.problem.now in
    let at = before (length c.negative-negative.result.now) c.loop-fixed.fixed
    c.loop-fixed-test.true in
    subst (λ n. 0 < n) (sym c.count_of.ensures)
    (count_some p.task (sizes p) p.query.negative _ _
    (here_is c.negative-negative.result.now p.query.negative _ _
    c.negative-negative.ensures.list at) (some_of _ _ _ c.requires.cost c.requires.number))

pub first_open-requires-clause-here : goal.first_open-requires-clause-here
first_open-requires-clause-here g c =
    let p = c.args.problem.now in
    let at = before (length c.negative-negative.result.now) c.loop-fixed.fixed
    c.loop-fixed-test.true in
    here_is c.negative-negative.result.now p.query.negative _ _ c.negative-negative.ensures.list at

pub first_open-requires-clause-part : goal.first_open-requires-clause-part
first_open-requires-clause-part g c =
    let p = c.args.problem.now in
    let count = length c.negative-negative.result.now in
    let at = before count c.loop-fixed.fixed c.loop-fixed-test.true in
    let size : c.loop-fixed.block ≡ block_length p (count - 1 - c.loop-fixed.fixed + 1) =
    c.loop-fixed.invariant.block ∙ ap (block_length p)
    (behind count c.loop-fixed.fixed c.loop-fixed-test.true) in
    ap₂ (λ a b. a / b) size c.count_of.ensures ∙ part_is p.task (sizes p) p.query.negative
    (count - 1 - c.loop-fixed.fixed) _
    (here_is c.negative-negative.result.now p.query.negative _ _
    c.negative-negative.ensures.list at) (some_of _ _ _ c.requires.cost c.requires.number)

pub nonzero_div-result : goal.nonzero_div-result
nonzero_div-result g c =
    let p = c.args.problem.now in
    subst (λ n. 0 < n) (sym c.loop-fixed.invariant.block)
    (block_some p _ (some_of _ _ _ c.requires.cost c.requires.number))

pub overflow_mul-result : goal.overflow_mul-result
overflow_mul-result g c =
    let p = c.args.problem.now in
    let within = block_within p (length c.negative-negative.result.now - c.loop-fixed.fixed)
    c.loop-fixed.next c.loop-fixed.invariant.advanced.below in
    let same = ap (λ n. block_end c.loop-fixed.next n) c.loop-fixed.invariant.block in
    omega (arith, within, same, c.requires.cost, c.ranges.cost.fits)

pub returns-in-None-clause-tried : goal.returns-in-None-clause-tried
returns-in-None-clause-tried g c =
    let p = c.args.problem.now in
    let count = length c.negative-negative.result.now in
    let size : c.loop-fixed.block ≡ block_length p (count - 1 - c.loop-fixed.fixed + 1) =
    c.loop-fixed.invariant.block ∙ ap (block_length p)
    (behind count c.loop-fixed.fixed c.loop-fixed-test.true) in
    let some : 0 < c.loop-fixed.block = subst (λ n. 0 < n) (sym c.loop-fixed.invariant.block)
    (block_some p _ (some_of _ _ _ c.requires.cost c.requires.number)) in (
      (let low = c.loop-fixed.invariant.advanced.ahead in
          let high = below_end c.loop-fixed.next c.loop-fixed.block some in omega arith),
      refuted_then p c.args.number
          c.loop-fixed.next (block_end c.loop-fixed.next c.loop-fixed.block)
          c.loop-fixed.invariant.advanced.refuted
          (subst (λ n. AreRefuted p c.loop-fixed.next (block_end c.loop-fixed.next n)) (sym size)
          c.in-None.ensures.open),
    )

pub returns-in-None-clause-grown : goal.returns-in-None-clause-grown
returns-in-None-clause-grown g c = grows_then _ _ _ c.loop-fixed.invariant.grown
    c.in-None.ensures.grown

pub loop-fixed-preserved : goal.loop-fixed-preserved
loop-fixed-preserved g c =
    let p = c.args.problem.now in
    let count = length c.negative-negative.result.now in
    let at = before count c.loop-fixed.fixed c.loop-fixed-test.true in
    let next = next_is count c.loop-fixed.fixed c.loop-fixed-test.true in
    let size : c.loop-fixed.block ≡ block_length p (count - 1 - c.loop-fixed.fixed + 1) =
    c.loop-fixed.invariant.block ∙ ap (block_length p)
    (behind count c.loop-fixed.fixed c.loop-fixed-test.true) in
    record {
      block = ap₂ (λ a b. a / b) size c.count_of.ensures
          ∙ (part_is p.task (sizes p) p.query.negative (count - 1 - c.loop-fixed.fixed) _
          (here_is c.negative-negative.result.now p.query.negative _ _
          c.negative-negative.ensures.list at) (some_of _ _ _ c.requires.cost c.requires.number)
          ∙ ap (block_length p) next);
      advanced = subst (λ n. IsAdvanced p
          n c.args.number c.in-Some.found c.first_open.new.marks) next
          (advanced_then p _ _ _ _ _ _ _ c.loop-fixed.invariant.advanced c.in-Some.ensures.open);
      grown = grows_then _ _ _ c.loop-fixed.invariant.grown c.in-Some.ensures.grown;
    }

pub returns-then-finish-clause-grown : goal.returns-then-finish-clause-grown
returns-then-finish-clause-grown g c = grows_then _ _ _ c.loop-fixed.invariant.grown
    c.if-finish.ensures.grown

pub returns-clause-grown : goal.returns-clause-grown
returns-clause-grown g c = grows_then _ _ _ c.loop-fixed.invariant.grown c.if-finish.ensures.grown

pub first_open-requires-clause-next : goal.first_open-requires-clause-next
first_open-requires-clause-next g c = c.loop-fixed.invariant.advanced.below

pub first_open-requires-clause-few : goal.first_open-requires-clause-few
first_open-requires-clause-few g c = omega (arith, c.requires.cost, c.ranges.cost.fits)

pub first_open-requires-clause-front : goal.first_open-requires-clause-front
first_open-requires-clause-front g c =
    let p = c.args.problem.now in
    let count = length c.negative-negative.result.now in
    subst (λ n. IsFront p n (c.loop-fixed.next / block_length p n) c.loop-fixed.marks)
    (behind count c.loop-fixed.fixed c.loop-fixed-test.true) c.loop-fixed.invariant.advanced.front

pub returns-then-finish-clause-state : goal.returns-then-finish-clause-state
returns-then-finish-clause-state g c = c.if-finish.ensures.state

pub returns-clause-state : goal.returns-clause-state
returns-clause-state g c = c.if-finish.ensures.state
