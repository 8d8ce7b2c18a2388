use Rattle.std.proofs.Common.{◌≡◌, ◌∙◌, ◌<◌, Bool, List, true, false, [], get_or, length, arith}
use Rattle.std.proofs.Common.{below_more, rules, subst, sym}
use Rattle.std.specs.List.{All}
use Rattle.std.proofs.lemmas.Bool.{both_ways}
use Rattle.std.proofs.lemmas.List.{get_or_default}
use Rattle.hv_task.specs.State.{has_atom}
use Rattle.hv_reach.specs.Reached.{has_pair}
use Rattle.hv_reach.proofs.Sets.{All-from_zero}
use Rattle.hv_reach.proofs.mask.has_pairs.Goals as goal

pub loop-atom-preserved : goal.loop-atom-preserved
loop-atom-preserved c =
    let rows = c.args.rows.now.items in
    let list = c.args.list.now in
    let k = c.loop-atom.atom-index in
    let p = get_or list k 0 in
    let below = c.requires.below k 0 (omega arith) in
    let size = c.requires.table.size in
    let less : p < length rows = omega arith in
    let row : get_or rows p [] ≡ c.index.result.now =
    get_or_default rows p [] c.index.result.now less ∙ sym c.index.ensures in
    let yes : c.row_has.result ≡ true = search rules in
    below_more (λ j. All (λ q. has_pair rows (get_or list j 0) q ≡ true) list) k
    c.loop-atom.invariant
    (subst (λ (s : List Bool). All (λ q. has_atom s q ≡ true) list) (sym row)
    (c.row_has.ensures.0 yes))

pub returns-then-not-row_has-clause-no : goal.returns-then-not-row_has-clause-no
returns-then-not-row_has-clause-no c = λ _ all.
    let rows = c.args.rows.now.items in
    let list = c.args.list.now in
    let k = c.loop-atom.atom-index in
    let p = get_or list k 0 in
    let below = c.requires.below k 0 (omega arith) in
    let size = c.requires.table.size in
    let less : p < length rows = omega arith in
    let row : get_or rows p [] ≡ c.index.result.now =
    get_or_default rows p [] c.index.result.now less ∙ sym c.index.ensures in
    let no : c.row_has.result ≡ false = search rules in
    both_ways c.row_has.result no
    (c.row_has.ensures.1 (subst (λ (s : List Bool). All (λ q. has_atom s q ≡ true) list) row
    (all k 0 (omega arith))))

pub returns-clause-yes : goal.returns-clause-yes
returns-clause-yes c = λ _.
    let list = c.args.list.now in
    All-from_zero (λ p. All (λ q. has_pair c.args.rows.now.items p q ≡ true) list) list
    (λ k less. c.loop-atom.invariant k (omega arith))
