use Rattle.std.proofs.Common.{◌≡◌, ◌<◌, ◌*◌, ◌∙◌, ℕ, List, ap, sym, subst, length, slice_index, set}
use Rattle.std.proofs.lemmas.List.{length-replicate, length-set}
use Rattle.std.specs.Int.{bit_at}
use Rattle.hv_bdd.specs.Exclusions.{IsBatch}
use Rattle.hv_bdd.specs.Working.Excluding.{IsLanding}
use Rattle.hv_bdd.proofs.Excluded.{words_more, words_none}
use Rattle.hv_bdd.proofs.node_exclusions.batch_of.Goals as goal

pub loop-k-init : goal.loop-k-init
loop-k-init c =
    let list = c.args.side.now.nodes.now in
    let inside = c.args.side.now.inside in
    let count = c.atoms.result * 2 in
    let items = c.in_ok-words.ensures.items_if_clones_equal (λ y same. same) in (
      ap length items
          ∙ (length-replicate count 18446744073709551615 ∙ ap (λ n. n * 2) c.atoms.ensures.atoms),
      subst (IsBatch list inside c.args.node c.args.batch) (sym items)
          (words_none list inside c.args.node c.args.batch count),
    )

pub loop-k-preserved : goal.loop-k-preserved
loop-k-preserved c =
    let i = c.loop-k.invariant in
    let list = c.args.side.now.nodes.now in
    let inside = c.args.side.now.inside in
    let words = c.loop-k.words.items in
    let word = c.together.result in
    let masks = c.sweep.new.masks.items in
    let landing = c.index-landings-k.result in (
      length-set words c.word_place.result word ∙ i.0,
      subst (λ n. IsBatch list inside c.args.node c.args.batch (set words n word))
          (sym c.word_place.ensures)
          (words_more list inside c.args.node c.args.batch words masks landing word
          c.in_ok-sweep.ensures.masks c.in_ok-sweep.ensures.size
          (subst (IsLanding list inside c.args.node) (sym c.index-landings-k.is)
          (c.requires.landings c.loop-k.k landing c.loop-k-test.true))
          (λ k j less bit. c.together.ensures k j
          (subst (λ (xs : List ℕ). k < length xs) (sym c.as_slice-in-loop-k.ensures.value) less)
          (subst (λ (xs : List ℕ).
          bit_at (slice_index xs (slice_index c.as_slice-in-loop-k.result.now k)) j ≡ 1)
          (sym c.as_slice.ensures.value)
          (subst (λ (xs : List ℕ). bit_at (slice_index masks (slice_index xs k)) j ≡ 1)
          (sym c.as_slice-in-loop-k.ensures.value) bit)))
          i.1),
    )
