use Rattle.std.proofs.Common.{◌+◌, ◌∙◌, ap, length, subst, sym}
use Rattle.std.proofs.lemmas.List.{length_push}
use Rattle.hv_bdd.specs.Exclusions.{AreExclusions, IsBatch}
use Rattle.hv_bdd.proofs.Excluded.{table_more}
use Rattle.hv_bdd.proofs.node_exclusions.words_of.Goals as goal

pub loop-batch-preserved : goal.loop-batch-preserved
loop-batch-preserved c =
    let i = c.loop-batch.invariant in
    let list = c.args.side.now.nodes.now in
    let inside = c.args.side.now.inside in
    let table = c.loop-batch.table.items in
    let words = c.in_ok-words.words in
    let more = c.in_ok-push.ensures.items in (
      ap length more ∙ (length_push table words ∙ ap (λ n. n + 1) i.0),
      subst (AreExclusions list inside c.args.node) (sym more)
          (table_more list inside c.args.node table words i.1
          (subst (λ b. IsBatch list inside c.args.node b words.items) (sym i.0)
          c.in_ok-words.ensures)),
    )
