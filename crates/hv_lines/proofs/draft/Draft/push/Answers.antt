use Rattle.std.proofs.Common.{◌≡◌, ◌<◌, suc, [], ap, arith, length, subst, sym}
use Rattle.hv_lines.specs.Drafts.{DraftState, draft_setting, onto, prelude}
use Rattle.hv_lines.specs.Numbering.{MayFollow}
use Rattle.hv_lines.specs.Pruning.{BeginsAsDraft}
use Rattle.hv_lines.proofs.Extended.{goes_on_push}
use Rattle.hv_lines.proofs.Reasons.{good_next}
use Rattle.hv_lines.proofs.draft.Draft.push.Goals as goal

pub push-requires : goal.push-requires
push-requires c =
    subst (λ lines. MayFollow lines c.args.line)
    (sym (ap (λ (d : DraftState). d.lines) c.self.view_is))
    (good_next (draft_setting c.args.task.now) c.args.self.now.lines c.args.line
    c.requires.line.good)

pub invariant_of-self : goal.invariant_of-self
invariant_of-self c =
    let held = c.self.invariant in
    let put = c.in-Ok.ensures.ok in
    let some : 0 < c.self.inside.spare = subst
    (λ n. 0 < n) (sym (ap (λ (d : DraftState). d.spare) c.self.view_is)) c.requires.spare in
    let size : length c.push.new.self.lines
    ≡ suc (length c.self.inside.table.lines) = ap length put in (
      omega (arith, held.0, some, c.in-Ok.ensures.room),
      omega (arith, held.1, some, size),
      subst BeginsAsDraft (sym put) (goes_on_push (onto prelude []) c.self.inside.table.lines
          c.args.line held.2),
    )
