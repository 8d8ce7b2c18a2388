use Rattle.std.proofs.Common.{◌∙◌, ap, arith, length, refl, sym}
use Rattle.std.proofs.lemmas.List.{length-map}
use Rattle.hv_indexes.specs.Occurrences.{lent_rows}
use Rattle.hv_indexes.specs.Rows.{place_of_code}
use Rattle.hv_indexes.proofs.Standings.{part_ends, part_rises, part_starts, standing_parts}
use Rattle.hv_indexes.proofs.occurrences.SignedOccurrences.standing.Goals as goal

pub part_of-own-requires : goal.part_of-own-requires
part_of-own-requires c =
    let are = c.requires.1 in (
      are.codes,
      are.heads,
      sym (ap length are.coded.numbers_are ∙ length-map are.codes place_of_code),
    )

pub slice_bounds-result-count : goal.slice_bounds-result-count
slice_bounds-result-count c =
    part_rises c.requires.0 c.args.literal (lent_rows c.args.self.now) c.requires.1 _
    c.part_of-own.result.from c.part_of-own.result.upto refl c.part_of-own.ensures.from
    c.part_of-own.ensures.upto

pub slice_bounds-result-start : goal.slice_bounds-result-start
slice_bounds-result-start c =
    part_rises c.requires.0 c.args.literal (lent_rows c.args.self.now) c.requires.1 _
    c.part_of-own.result.from c.part_of-own.result.upto refl c.part_of-own.ensures.from
    c.part_of-own.ensures.upto

pub slice_bounds-result-end : goal.slice_bounds-result-end
slice_bounds-result-end c =
    let are = c.requires.1 in
    let same = ap length are.coded.numbers_are ∙ length-map are.codes place_of_code in
    let ends = part_ends c.requires.0 c.args.literal (lent_rows c.args.self.now) are _
    c.part_of-own.result.from c.part_of-own.result.upto refl c.part_of-own.ensures.from
    c.part_of-own.ensures.upto in
    let within = ends.within in
    omega (arith, same, within)

pub part-requires : goal.part-requires
part-requires c =
    part_rises c.requires.0 c.args.literal (lent_rows c.args.self.now) c.requires.1 _
    c.part_of-own.result.from c.part_of-own.result.upto refl c.part_of-own.ensures.from
    c.part_of-own.ensures.upto

pub returns-clause-standing : goal.returns-clause-standing
returns-clause-standing c = λ clauses are.
    let literal = c.args.literal in
    let listed = lent_rows c.args.self.now in
    let starts = part_starts clauses literal listed are _ c.part_of-own.result.from
    c.part_of-own.result.upto refl c.part_of-own.ensures.from c.part_of-own.ensures.upto in
    let ends = part_ends clauses literal listed are _ c.part_of-own.result.from
    c.part_of-own.result.upto refl c.part_of-own.ensures.from c.part_of-own.ensures.upto in
    let parts = standing_parts literal.positive clauses are.codes listed.places listed.partners
    are.coded are.partners literal.atom c.part_of-own.result.from c.part_of-own.result.upto starts
    ends _ c.part.result.now refl c.part.ensures in
    record { row = parts.0; partners = parts.1 }
