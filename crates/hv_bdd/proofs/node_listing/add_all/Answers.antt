use Rattle.std.proofs.Common.{◌≡◌, ◌+◌, ◌∙◌, None, Some, Ok, Err, List, ap, arith, drop, get_or}
use Rattle.std.proofs.Common.{length, map, subst, sym}
use Rattle.std.specs.Prelude.{IfSome}
use Rattle.std.proofs.lemmas.List.{drop_more, length_push}
use Rattle.hv_bdd.specs.declared.numbers.Triple.{Triple}
use Rattle.hv_bdd.specs.declared.fault.NodeRefusal.TheVariants as R
use Rattle.hv_bdd.specs.Building.{fault_of}
use Rattle.hv_bdd.specs.Nodes.{NodeList}
use Rattle.hv_bdd.specs.Working.Building.{as_node, with_node}
use Rattle.hv_bdd.specs.Working.Listing.{next_line_of, tried}
use Rattle.hv_bdd.specs.Working.NodeText.{node_start}
use Rattle.hv_bdd.proofs.Deferred.{tried_bad, tried_next}
use Rattle.hv_bdd.proofs.node_listing.add_all.Goals as goal

pub returns-in-Some-clause-lists : goal.returns-in-Some-clause-lists
returns-in-Some-clause-lists c =
    let list = c.loop-triple.list in
    let triples = c.args.triples.now in
    let k = c.loop-triple.triple-index in
    let d : Triple = record { atom = 0; low = 0; high = 0 } in
    let t : Triple = get_or triples k d in
    let same : c.add.new.list ≡ list = subst
    (λ o. IfSome o (λ _. c.add.new.list ≡ list)) c.in-Some.is
    c.in_ok-kind.ensures.refused in
    let bad : fault_of list (as_node t) ≡ Some c.in-Some.kind = sym c.in_ok-kind.ensures.fault
    ∙ c.in-Some.is in
    let nodes = ap (λ (l : NodeList). length l.nodes) same in
    let start = ap (λ (l : NodeList). node_start l.order) same in
    let count = ap length c.listed.ensures in
    let from = c.node_start.ensures in
    c.loop-triple.invariant.lists
    ∙ ap (λ (ts : List Triple). tried (Ok list) (map as_node ts))
    (drop_more triples k d c.loop-triple-test.true)
    ∙ tried_bad list (as_node t) (map as_node (drop (k + 1) triples)) c.in-Some.kind bad
    ∙ ap (λ n. Err (n, R.Place c.in-Some.kind))
    (let e : next_line_of list ≡ length c.listed.result.now + c.node_start.result =
    omega arith in e)

pub loop-triple-preserved : goal.loop-triple-preserved
loop-triple-preserved c =
    let list = c.loop-triple.list in
    let triples = c.args.triples.now in
    let k = c.loop-triple.triple-index in
    let d : Triple = record { atom = 0; low = 0; high = 0 } in
    let t : Triple = get_or triples k d in
    let added : c.add.new.list ≡ with_node list (as_node t) =
    c.in_ok-kind.ensures.added c.in_default.is in
    let good : fault_of list (as_node t) ≡ None = sym c.in_ok-kind.ensures.fault
    ∙ c.in_default.is in
    let more = ap (λ (l : NodeList). length l.nodes) added in
    let longer = length_push list.nodes (as_node t) in
    let size = c.loop-triple.invariant.size in
    record {
      lists = c.loop-triple.invariant.lists
          ∙ ap (λ (ts : List Triple). tried (Ok list) (map as_node ts))
          (drop_more triples k d c.loop-triple-test.true)
          ∙ tried_next list c.add.new.list (as_node t) (map as_node (drop (k + 1) triples)) good
          added;
      seen = c.in_ok-kind.ensures.seen;
      size = omega arith;
    }
