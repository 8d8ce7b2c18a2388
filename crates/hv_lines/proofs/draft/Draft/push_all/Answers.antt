use Rattle.std.proofs.Common.{subst, ◌∷◌}
use Rattle.hv_lines.specs.Drafts.{IsGoodTable, onto}
use Rattle.hv_lines.proofs.Drafting.{good_before}
use Rattle.hv_lines.proofs.draft.Draft.push_all.Goals as goal

pub push-requires-clause-draft : goal.push-requires-clause-draft
push-requires-clause-draft c =
    good_before c.args.task.now c.loop-line.line-iterator.rest.items c.loop-line.self.lines
    c.loop-line.invariant.3

pub push-requires-clause-line : goal.push-requires-clause-line
push-requires-clause-line c =
    (good_before c.args.task.now c.next.new.self.rest.items
    (c.in-Some.line ∷ c.loop-line.self.lines)
    (subst (λ lines. IsGoodTable c.args.task.now (onto lines c.loop-line.self.lines))
    c.in-Some.ensures.steps.0
    c.loop-line.invariant.3)).0
