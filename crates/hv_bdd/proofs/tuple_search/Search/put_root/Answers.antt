use Rattle.std.proofs.Common.{[], List, option_map, subst, false, ℕ}
use Rattle.smallvec.specs.SmallVec.{SmallVec}
use Rattle.hv_bdd.specs.Live.{moves, roots}
use Rattle.hv_bdd.specs.Working.Search.{IsPutSome}
use Rattle.hv_bdd.specs.declared.tuple_search.Link.{Link}
use Rattle.hv_bdd.proofs.Explored.{first_put, items}
use Rattle.hv_bdd.proofs.tuple_search.Search.put_root.Goals as goal

pub returns-clause-explored : goal.returns-clause-explored
returns-clause-explored c =
    let s = c.args.self.now in
    let old = c.args.reached.now in
    let new = c.put.new.self in
    let tuples = items new.tuples.keys in
    let links = new.links.items in
    let root = option_map (λ (t : SmallVec ℕ). t.items) c.in_ok-root.root in
    let link : Link = record { parent = 0; bit = false } in
    record {
      search = c.live_root.ensures.search;
      known = first_put (moves s.setting) s.asked (roots s.setting s.asked) tuples links root link
          c.in_ok-root.ensures.root
          (subst (λ (keys : List (SmallVec ℕ)). IsPutSome (items keys) [] root link tuples links)
          c.requires.tuples
          (subst (λ (ls : List Link). IsPutSome (items old.tuples.keys) ls root link tuples links)
          c.requires.links c.in_ok-put.ensures));
    }
