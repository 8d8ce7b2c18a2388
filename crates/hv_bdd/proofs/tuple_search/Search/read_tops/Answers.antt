use Rattle.std.proofs.Common.{◌≤◌, ◌∙◌, ◌++◌, ◌∷◌, [], List, ℕ, ap, arith, map}
use Rattle.std.proofs.Common.{subst, sym, take}
use Rattle.std.proofs.lemmas.List.Elements.{All-nil, All-push, All-weaker}
use Rattle.std.specs.List.{All}
use Rattle.smallvec.specs.SmallVec.{SmallVec}
use Rattle.hv_bdd.specs.Live.{moves}
use Rattle.hv_bdd.specs.Tuples.{least}
use Rattle.hv_bdd.proofs.Explored.{first_and_second}
use Rattle.hv_bdd.proofs.Swept.{map_more}
use Rattle.hv_bdd.proofs.tuple_search.Search.read_tops.Goals as goal

pub loop-tuple-init : goal.loop-tuple-init
loop-tuple-init c = record {
  tops = c.clear.ensures.items;
  least = subst (All (λ v. c.atoms-least.result ≤ v)) (sym c.clear.ensures.items)
      (All-nil (λ v. c.atoms-least.result ≤ v));
  great = λ w upto all. let is = c.atoms-least.ensures.atoms in omega arith;
}

pub loop-tuple-preserved : goal.loop-tuple-preserved
loop-tuple-preserved c =
    let s = c.args.self.now in
    let i = c.loop-tuple.invariant in
    let old = c.loop-tuple.tops.items in
    let top = c.least-top.result in
    let pushed = c.in_ok-push.ensures.items in
    let more = c.min-least.ensures in
    record {
      tops = pushed ∙ (ap (λ (xs : List ℕ). xs ++ top ∷ []) i.tops
          ∙ (ap (λ (n : ℕ). map (λ (t : SmallVec ℕ). least (moves s.setting) s.asked t.items)
          (take c.loop-tuple.tuple-index c.args.tuples.now) ++ n ∷ [])
          (c.least-top.ensures ∙ ap (least (moves s.setting) s.asked) c.as_slice.ensures)
          ∙ sym (map_more (λ (t : SmallVec ℕ). least (moves s.setting) s.asked t.items)
          c.args.tuples.now c.loop-tuple.tuple-index c.tuple-item.result c.loop-tuple-test.true
          (sym c.tuple-item.is))));
      least = subst (All (λ v. c.min-least.result ≤ v)) (sym pushed)
          (All-push (λ v. c.min-least.result ≤ v) old top
          (All-weaker (λ v. c.loop-tuple.least ≤ v) (λ v. c.min-least.result ≤ v)
          (λ v less. omega arith) old i.least) (omega arith));
      great = λ w upto all.
          let parts = first_and_second (λ v. w ≤ v) old (top ∷ [])
          (subst (All (λ v. w ≤ v)) pushed all) in
          let before = i.great w upto parts.0 in
          let last = parts.1 0 0 (omega arith) in
          omega arith;
    }
