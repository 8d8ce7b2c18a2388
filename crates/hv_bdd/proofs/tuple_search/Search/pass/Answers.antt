use Rattle.std.proofs.Common.{◌++◌, ◌∷◌, [], ◌∙◌, List, ℕ, ap, arith, subst, sym, take}
use Rattle.std.proofs.lemmas.List.{length-map}
use Rattle.smallvec.specs.SmallVec.{SmallVec}
use Rattle.hv_bdd.specs.Live.{moves, roots}
use Rattle.hv_bdd.specs.Tuples.{IsReached}
use Rattle.hv_bdd.specs.Working.Search.{tuples_of}
use Rattle.hv_bdd.specs.Working.Sweeping.{IsSweptPlace}
use Rattle.hv_bdd.proofs.Explored.{items, taken_more}
use Rattle.hv_bdd.proofs.tuple_search.Search.pass.Goals as goal

pub pass_on-requires-clause-reached : goal.pass_on-requires-clause-reached
pass_on-requires-clause-reached c =
    let s = c.args.self.now in
    subst (IsReached (moves s.setting) s.asked (roots s.setting s.asked))
    (ap (λ (t : SmallVec ℕ). t.items) (sym c.index-tuples-k.is) ∙ sym c.as_slice.ensures)
    (c.requires.reached c.loop-k.k c.index-tuples-k.result c.loop-k-test.true)

pub loop-k-preserved : goal.loop-k-preserved
loop-k-preserved c =
    let s = c.args.self.now in
    let k = c.loop-k.k in
    let ts = items c.args.tuples.now in
    let t = c.as_slice.result.now in
    let is = c.marks_at-marks.ensures.place in
    subst (λ (l : List (List ℕ)). IsSweptPlace (moves s.setting) s.asked (roots s.setting s.asked)
    c.args.place l (tuples_of c.pass_on.new.later))
    (sym (taken_more c.args.tuples.now k c.index-tuples-k.result t c.loop-k-test.true
    (sym c.index-tuples-k.is) c.as_slice.ensures))
    (subst (λ (v : ℕ). IsSweptPlace (moves s.setting) s.asked (roots s.setting s.asked) v
    (take k ts ++ t ∷ []) (tuples_of c.pass_on.new.later)) is
    (c.in_ok-pass_on.ensures (take k ts)
    (subst (λ (v : ℕ). IsSweptPlace (moves s.setting) s.asked (roots s.setting s.asked) v
    (take k ts) (tuples_of c.loop-k.later)) (sym is) c.loop-k.invariant)))

pub returns-then-len-most-clause-many : goal.returns-then-len-most-clause-many
returns-then-len-most-clause-many c = λ all.
    let passed = c.loop-k.invariant in
    let len = c.len.ensures.len in
    let size = length-map c.loop-k.later.keys (λ (v : SmallVec ℕ). v.items) in
    let more = c.if-len-most.true in
    record {
      reached = passed.reached;
      differ = passed.differ;
      after = passed.after;
      many = omega arith;
    }
