use Rattle.std.proofs.Common.{◌<◌, ◌∙◌, ◌+◌, ℕ, Bool, List, ap, arith, get_or, length, subst, sym}
use Rattle.std.proofs.Common.{take, true}
use Rattle.std.proofs.lemmas.List.{length-set, take_all}
use Rattle.std.specs.List.{All}
use Rattle.smallvec.specs.SmallVec.{SmallVec}
use Rattle.hv_bdd.specs.Live.{moves}
use Rattle.hv_bdd.specs.Tuples.{least}
use Rattle.hv_bdd.specs.Working.Untouched.{AsksAmong}
use Rattle.hv_bdd.proofs.Alike.{asked_more}
use Rattle.hv_bdd.proofs.Found.{tuple_read}
use Rattle.hv_bdd.proofs.tuple_search.Search.note.Goals as goal

pub least-place-requires : goal.least-place-requires
least-place-requires c =
    let explored = c.requires.explored in
    let keys = c.as_slice-tuple-items.ensures.keys in
    let less = c.loop-tuple-test.true in
    tuple_read c.args.self.now explored.0 c.args.reached.now explored.1 c.loop-tuple.tuple-index
    c.tuple-item.result c.as_slice.result.now
    (subst (λ (xs : List (SmallVec ℕ)). c.loop-tuple.tuple-index < length xs) keys less)
    (ap (λ xs. get_or xs c.loop-tuple.tuple-index c.tuple-item.result) (sym keys)
    ∙ sym c.tuple-item.is)
    c.as_slice.ensures

pub loop-tuple-preserved : goal.loop-tuple-preserved
loop-tuple-preserved c =
    let s = c.args.self.now in
    let places = c.loop-tuple.places in
    let place = c.least-place.result in
    let items = c.as_slice-tuple-items.result.now in
    let atoms = c.atoms.ensures.atoms in
    let less = c.if-place-atoms.false in
    record {
      size = ap length c.set.ensures ∙ (length-set places place true ∙ c.loop-tuple.invariant.size);
      asks =
          subst (λ (new : List Bool). All (λ (t : SmallVec ℕ). AsksAmong s new t.items)
          (take (c.loop-tuple.tuple-index + 1) items)) (sym c.set.ensures)
          (asked_more s places items c.loop-tuple.tuple-index place c.tuple-item.result
          c.loop-tuple.invariant.size c.loop-tuple.invariant.asks c.loop-tuple-test.true
          (sym c.tuple-item.is)
          (c.least-place.ensures ∙ ap (least (moves s.setting) s.asked) c.as_slice.ensures)
          (omega arith));
    }

pub returns-clause-noted : goal.returns-clause-noted
returns-clause-noted c = λ _.
    let s = c.args.self.now in
    let places = c.loop-tuple.places in
    subst (All (λ (t : SmallVec ℕ). AsksAmong s places t.items))
    (take_all c.loop-tuple.tuple-index c.as_slice-tuple-items.result.now c.loop-tuple-test.false
    ∙ c.as_slice-tuple-items.ensures.keys)
    c.loop-tuple.invariant.asks
