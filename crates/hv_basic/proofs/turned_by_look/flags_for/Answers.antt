use Rattle.std.proofs.Common.{◌≡◌, ◌∙◌, ◌<◌, [], ap, arith, false, get_or, inl, inr, length}
use Rattle.std.proofs.Common.{subst, sym}
use Rattle.std.proofs.lemmas.Bool.{cases_lt}
use Rattle.std.proofs.lemmas.List.{get_or_default, length-replicate}
use Rattle.std.proofs.lemmas.Option.{get_or_from_slice_get}
use Rattle.std.specs.List.{All}
use Rattle.hv_basic.specs.Working.Framed.{IsFlagged}
use Rattle.hv_basic.proofs.turned_by_look.flags_for.Goals as goal

pub returns : goal.returns
returns c =
    let i = c.loop-place.invariant in (
      i.size,
      λ k d less. subst
          (λ clause. All (IsFlagged c.args.value c.args.adds c.loop-place.flags.items) clause)
          (get_or_default c.args.clauses.now k [] d less)
          (i.each k (omega (arith, less, c.loop-place-test.false, c.len-place-end.ensures))),
    )

pub loop-place-init : goal.loop-place-init
loop-place-init c = record {
  size =
      ap length (c.in_ok-flags.ensures.items_if_clones_equal (λ y same. same))
      ∙ length-replicate c.args.atoms false;
  each = λ place below. absurd (omega (arith, below));
}

pub loop-place-preserved : goal.loop-place-preserved
loop-place-preserved c =
    let i = c.loop-place.invariant in let set = c.flag_clause.ensures in record {
      size = set.size ∙ i.size;
      each = λ place less. elim (cases_lt place c.loop-place.place) [
        | inl before ↦ λ k d within sign inside. set.kept _
            (i.each place before k d within sign
            (subst (λ n. (get_or (get_or c.args.clauses.now place []) k d).atom < n) set.size
            inside))
        | inr upto ↦ let same : c.loop-place.place ≡ place = omega (arith, less, upto) in
            subst
            (λ clause. All (IsFlagged c.args.value c.args.adds c.flag_clause.new.flags.items)
            clause)
            (sym (get_or_from_slice_get c.args.clauses.now c.loop-place.place c.get.result.now []
            c.get.ensures) ∙ ap (λ n. get_or c.args.clauses.now n []) same) set.has
      ];
    }
