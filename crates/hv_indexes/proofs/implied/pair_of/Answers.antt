use Rattle.std.proofs.Common.{◌≡◌, ◌∙◌, true, false, sym, arith}
use Rattle.std.proofs.lemmas.Option.{get_or_from_slice_get}
use Rattle.hv_indexes.proofs.Implying.{pair_none}
use Rattle.hv_indexes.proofs.implied.pair_of.Goals as goal

pub returns-else-has_only : goal.returns-else-has_only
returns-else-has_only c =
    let first = c.in-Some.first.now in
    pair_none c.args.clause.now first c.other_of-second.result (
      0,
      omega arith,
      get_or_from_slice_get c.args.clause.now 0 first first (sym c.in-Some.ensures.value),
    )
    c.other_of-second.ensures.has c.other_of-second.ensures.only
    (λ all. let no : false ≡ true = sym c.if-has_only.false ∙ c.has_only.ensures.1 all in absurd cc)
