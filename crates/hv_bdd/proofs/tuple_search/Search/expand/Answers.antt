use Rattle.std.proofs.Common.{◌∙◌, ℕ, ap, sym, arith, false, true, get_or, option_map}
use Rattle.std.proofs.lemmas.List.{length-map}
use Rattle.smallvec.specs.SmallVec.{SmallVec}
use Rattle.hv_bdd.specs.Live.{moves, roots}
use Rattle.hv_bdd.specs.Tuples.{next}
use Rattle.hv_bdd.proofs.Explored.{expanded, item_at, items}
use Rattle.hv_bdd.proofs.Found.{live_read, tuple_read}
use Rattle.hv_bdd.proofs.tuple_search.Search.expand.Goals as goal

pub least-requires : goal.least-requires
least-requires c =
    tuple_read c.args.self.now c.args.done c.args.reached.now c.requires.explored c.args.done
    c.index-as_slice-done.result c.as_slice-tuple.result.now c.requires.done
    (ap (λ keys. get_or keys c.args.done c.index-as_slice-done.result) (sym c.as_slice.ensures.keys)
    ∙ sym c.index-as_slice-done.is)
    c.as_slice-tuple.ensures

pub next-requires-clause-tuple : goal.next-requires-clause-tuple
next-requires-clause-tuple c =
    tuple_read c.args.self.now c.args.done c.args.reached.now c.requires.explored c.args.done
    c.index-as_slice-done.result c.as_slice-tuple.result.now c.requires.done
    (ap (λ keys. get_or keys c.args.done c.index-as_slice-done.result) (sym c.as_slice.ensures.keys)
    ∙ sym c.index-as_slice-done.is)
    c.as_slice-tuple.ensures

pub next-requires-2-clause-tuple : goal.next-requires-2-clause-tuple
next-requires-2-clause-tuple c =
    tuple_read c.args.self.now c.args.done c.args.reached.now c.requires.explored c.args.done
    c.index-as_slice-done.result c.as_slice-tuple.result.now c.requires.done
    (ap (λ keys. get_or keys c.args.done c.index-as_slice-done.result) (sym c.as_slice.ensures.keys)
    ∙ sym c.index-as_slice-done.is)
    c.as_slice-tuple.ensures

pub returns-clause-explored : goal.returns-clause-explored
returns-clause-explored c =
    let keys = c.args.reached.now.tuples.keys in
    let read = ap (λ keys. get_or keys c.args.done c.index-as_slice-done.result)
    (sym c.as_slice.ensures.keys) ∙ sym c.index-as_slice-done.is in
    let at = c.as_slice-tuple.ensures ∙ sym
    (item_at c.args.reached.now.tuples.keys c.args.done c.index-as_slice-done.result
    c.requires.done read) in
    let size = length-map c.args.reached.now.tuples.keys (λ (v : SmallVec ℕ). v.items) in
    let within = c.requires.done in
    record {
      search = c.requires.explored.search;
      known = expanded (moves c.args.self.now.setting) c.args.self.now.asked
          (roots c.args.self.now.setting c.args.self.now.asked) c.args.done
          (items c.args.reached.now.tuples.keys) (items c.put.new.self.tuples.keys)
          (items c.put-2.new.self.tuples.keys)
          c.args.reached.now.links.items c.put.new.self.links.items c.put-2.new.self.links.items
          (option_map (λ (t : SmallVec ℕ). t.items) c.in_ok-low.low)
          (option_map (λ (t : SmallVec ℕ). t.items) c.in_ok-high.high)
          c.requires.explored.known (omega arith)
          (c.in_ok-low.ensures ∙ ap (λ ts. next (moves c.args.self.now.setting)
          c.args.self.now.asked ts false) at)
          (c.in_ok-high.ensures ∙ ap (λ ts. next (moves c.args.self.now.setting)
          c.args.self.now.asked ts true) at)
          c.in_ok-put.ensures c.in_ok-put-2.ensures;
    }

pub next-requires-clause-live : goal.next-requires-clause-live
next-requires-clause-live c =
    live_read c.args.self.now c.args.done c.args.reached.now c.requires.explored c.args.done
    c.index-as_slice-done.result c.as_slice-tuple.result.now c.requires.done
    (ap (λ keys. get_or keys c.args.done c.index-as_slice-done.result) (sym c.as_slice.ensures.keys)
    ∙ sym c.index-as_slice-done.is)
    c.as_slice-tuple.ensures

pub next-requires-2-clause-live : goal.next-requires-2-clause-live
next-requires-2-clause-live c =
    live_read c.args.self.now c.args.done c.args.reached.now c.requires.explored c.args.done
    c.index-as_slice-done.result c.as_slice-tuple.result.now c.requires.done
    (ap (λ keys. get_or keys c.args.done c.index-as_slice-done.result) (sym c.as_slice.ensures.keys)
    ∙ sym c.index-as_slice-done.is)
    c.as_slice-tuple.ensures
