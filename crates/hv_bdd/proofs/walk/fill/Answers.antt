use Rattle.std.proofs.Common.{◌≡◌, ◌<◌, ◌≤◌, ◌-◌, ◌+◌, ◌∙◌, ◌++◌, ◌∷◌, [], eqb, get_or, sym, ap}
use Rattle.std.proofs.Common.{subst, take, arith}
use Rattle.std.proofs.lemmas.List.{length-take}
use Rattle.std.proofs.lemmas.List.Elements.{All-nil}
use Rattle.std.proofs.lemmas.List.Sums.{fold-append}
use Rattle.hv_sets.specs.Cubes.{SpeakBelow, cube_of, put_in}
use Rattle.hv_sets.specs.declared.literal.Literal.{Literal}
use Rattle.hv_bdd.specs.declared.node.Node.{Node}
use Rattle.hv_bdd.specs.Working.Cubed.{All-put}
use Rattle.hv_bdd.specs.Paths.{is_high}
use Rattle.hv_bdd.specs.Working.Paths.{literals_of}
use Rattle.hv_bdd.specs.Reduced.{node_at}
use Rattle.hv_bdd.proofs.Stacked.{last_one, last_two, literals_few, literals_push}
use Rattle.hv_bdd.proofs.walk.fill.Goals as goal

pub loop-at-init : goal.loop-at-init
loop-at-init c =
    let size = length-take 1 c.args.path.now in record {
      cube = c.clear.ensures ∙ sym
          (ap cube_of (literals_few c.args.nodes.now (take 1 c.args.path.now) (omega arith)));
      below = subst (SpeakBelow c.args.nodes.now.atoms) (sym c.clear.ensures)
          (All-nil (λ (l : Literal). l.atom < c.args.nodes.now.atoms));
    }

pub loop-at-preserved : goal.loop-at-preserved
loop-at-preserved c =
    let list = c.args.nodes.now in
    let path = c.args.path.now in
    let at = c.loop-at.at in
    let k = at - 1 in
    let from : 1 ≤ at = c.loop-at.auto.at in
    let within = c.loop-at-test.true in
    let n = get_or path k 0 in
    let m = get_or path at 0 in
    let literal : Literal = record { atom = (node_at list n).atom; positive = is_high list n m } in
    let two = last_two path k at (at + 1) (omega arith) (omega arith) (omega arith) in
    let one = last_one path k at (omega arith) (omega arith) in
    let placed : c.add.new.self ≡ put_in literal c.loop-at.cube =
    c.in_ok-add.ensures.placed
    ∙ ap (λ (x : Node). put_in (record { atom = x.atom; positive = eqb m x.high }) c.loop-at.cube)
    c.node-node.ensures.node in
    let longer : literals_of list (take (at + 1) path)
    ≡ literals_of list (take at path) ++ literal ∷ [] =
    ap (literals_of list) two
    ∙ (literals_push list (take k path) n m
    ∙ ap (λ p. literals_of list p ++ literal ∷ []) (sym one)) in
    let cube : cube_of (literals_of list (take (at + 1) path))
    ≡ put_in literal (cube_of (literals_of list (take at path))) =
    ap cube_of longer
    ∙ fold-append (λ cube l. put_in l cube) [] (literals_of list (take at path)) (literal ∷ [])
    in
    record {
      cube = placed ∙ (ap (put_in literal) c.loop-at.invariant.cube ∙ sym cube);
      below = subst (SpeakBelow list.atoms) (sym placed)
          (All-put literal (λ (l : Literal). l.atom < list.atoms) c.loop-at.cube
          (c.node-node.ensures.reduced.atom n (c.requires.inner k (omega arith))
          (c.requires.node k (omega arith)))
          c.loop-at.invariant.below);
    }
