use Rattle.std.proofs.Common.{◌≡◌, ◌↔◌, ◌∙◌, Some, ap, subst, sym, true}
use Rattle.std.specs.List.{Contains}
use Rattle.hv_lines.specs.Meaning.{acts_of}
use Rattle.hv_lines.specs.declared.line.Acts.TheVariants as A
use Rattle.hv_lines.proofs.Laws.{acts_law}
use Rattle.hv_basic.proofs.Listed.{listed_are}
use Rattle.hv_basic.proofs.long_lists.long_list.Goals as goal

pub returns : goal.returns
returns c =
    let lines = c.args.table.now.lines in
    let acts = c.in-Some.acts in (
      acts,
      c.in-Some.is,
      λ number. subst (λ xs. (acts_of lines acts number ≡ true) ↔ Contains xs number)
          (sym c.as_slice-listed.ensures)
          (listed_are lines acts c.in-List.listed
          (acts_law lines acts (A.List c.in-List.listed) c.acts.ensures.table
          (c.acts.ensures.says ∙ ap Some c.in-List.is)) number),
      c.is_rising.ensures c.if-not-is_rising.false,
    )
