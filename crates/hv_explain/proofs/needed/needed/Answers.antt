use Rattle.std.proofs.Common.{◌≡◌, ℕ, arith, subst}
use Rattle.hv_explain.specs.Working.Marks.{AreMarkedFrom}
use Rattle.hv_explain.proofs.Marking.{all_needed}
use Rattle.hv_explain.proofs.needed.needed.Goals as goal

pub returns : goal.returns
returns c =
    let none : c.loop-id.id ≡ 0 = omega arith in
    all_needed c.args.table.now.lines c.loop-id.marks.items
    (subst (λ (n : ℕ). AreMarkedFrom n c.args.table.now.lines c.loop-id.marks.items) none
    c.loop-id.invariant)
