use Rattle.std.proofs.Common.{◌+◌, ◌∙◌, List, ℕ, ap, arith, eqb, length, map, subst, sym}
use Rattle.std.proofs.lemmas.List.{length-map}
use Rattle.std.proofs.lemmas.List.Elements.{All-weaker}
use Rattle.std.specs.List.{All, filter}
use Rattle.indexmap.specs.IndexSet.{IndexSet}
use Rattle.smallvec.specs.SmallVec.{SmallVec}
use Rattle.hv_bdd.specs.Live.{moves, roots}
use Rattle.hv_bdd.specs.Tuples.{IsReached, least}
use Rattle.hv_bdd.specs.Working.Search.{IsTuple, TupleSearch, tuples_of}
use Rattle.hv_bdd.specs.Working.Sweeping.{AreMany, IsSweptPlace, SweptSoFar}
use Rattle.hv_bdd.proofs.Explored.{all_items, items}
use Rattle.hv_bdd.proofs.Gone.{few_ask, place_done, place_many}
use Rattle.hv_bdd.proofs.Tupled.{reached_tuple}
use Rattle.hv_bdd.proofs.tuple_search.Search.pass_place.Goals as goal

pub read_tops-requires : goal.read_tops-requires
read_tops-requires c =
    let s = c.args.self.now in
    let so = c.requires.swept.1 in
    let keys = c.args.waiting.now.here.keys in
    subst (All (λ (t : SmallVec ℕ). IsTuple s t.items)) (sym c.as_slice.ensures.keys)
    (all_items (IsTuple s) keys
    (All-weaker (IsReached (moves s.setting) s.asked (roots s.setting s.asked)) (IsTuple s)
    (λ t reached. reached_tuple s so.search t reached) (items keys) so.swept.waiting_reached))

pub pass-requires-clause-reached : goal.pass-requires-clause-reached
pass-requires-clause-reached c =
    let s = c.args.self.now in
    let so = c.requires.swept.1 in
    let keys = c.args.waiting.now.here.keys in
    subst (λ (x : TupleSearch). All (λ (t : SmallVec ℕ). IsReached (moves x.setting) x.asked
    (roots x.setting x.asked) t.items) c.as_slice-here.result.now) (sym c.count_all.ensures)
    (subst (All (λ (t : SmallVec ℕ). IsReached (moves s.setting) s.asked
    (roots s.setting s.asked) t.items)) (sym c.as_slice-here.ensures.keys)
    (all_items (IsReached (moves s.setting) s.asked (roots s.setting s.asked)) keys
    so.swept.waiting_reached))

pub returns-clause-passed : goal.returns-clause-passed
returns-clause-passed c =
    let s = c.args.self.now in
    let moved = c.count_all.new.self in
    let keys = c.args.waiting.now.here.keys in
    let place = c.in_ok-place.place in
    let later = tuples_of c.pass.new.later in
    let atoms = c.atoms.ensures.atoms in
    let less = c.if-place-atoms.false in
    let size = length-map keys (λ (v : SmallVec ℕ). v.items) in
    let few =
    few_ask s keys c.read_tops.new.tops.items c.in_ok-place.place
    c.count_of-moved.result
    (c.in_ok-place.ensures.tops
    ∙ ap (map (λ (t : SmallVec ℕ). least (moves s.setting) s.asked t.items))
    c.as_slice.ensures.keys)
    (c.count_of-moved.ensures
    ∙ ap (λ (l : List ℕ). length (filter (λ x. eqb x c.in_ok-place.place) l))
    c.as_slice-2.ensures.value) in (
      omega arith,
      λ count so.
          subst (λ (set : IndexSet (SmallVec ℕ) _). SweptSoFar s (count + c.count_of-moved.result)
          c.push.new.self.items (tuples_of set)) (sym c.swap.ensures.x_after)
          (place_done s count c.args.waiting.now.places.items c.push.new.self.items keys later
          c.read_tops.new.tops.items place c.count_of-moved.result so (omega arith)
          (c.in_ok-place.ensures.tops
          ∙ ap (map (λ (t : SmallVec ℕ). least (moves s.setting) s.asked t.items))
          c.as_slice.ensures.keys)
          c.in_ok-place.ensures.least c.in_ok-place.ensures.great
          (subst (λ (x : TupleSearch). IsSweptPlace (moves x.setting) x.asked
          (roots x.setting x.asked) place (items keys) later) c.count_all.ensures
          (subst (λ (ks : List (SmallVec ℕ)). IsSweptPlace (moves moved.setting) moved.asked
          (roots moved.setting moved.asked) place (items ks) later) c.as_slice-here.ensures.keys
          (c.in_ok-pass.ensures.all c.if-not-branch.false)))
          c.in_ok-push.ensures.items
          (c.count_of-moved.ensures
          ∙ ap (λ (l : List ℕ). length (filter (λ x. eqb x place) l)) c.as_slice-2.ensures.value)),
    )

pub returns-then-not-branch-clause-passed : goal.returns-then-not-branch-clause-passed
returns-then-not-branch-clause-passed c = λ count so.
    let s = c.args.self.now in
    let keys = c.args.waiting.now.here.keys in
    let place = c.in_ok-place.place in
    place_many s count c.args.left c.args.waiting.now.places.items keys
    (tuples_of c.pass.new.later) c.read_tops.new.tops.items place so
    (c.in_ok-place.ensures.tops
    ∙ ap (map (λ (t : SmallVec ℕ). least (moves s.setting) s.asked t.items))
    c.as_slice.ensures.keys)
    c.in_ok-place.ensures.great
    (subst (λ (x : TupleSearch). AreMany (moves x.setting) x.asked (roots x.setting x.asked)
    place c.args.left (tuples_of c.pass.new.later)) c.count_all.ensures
    (c.in_ok-pass.ensures.many c.if-not-branch.true))
