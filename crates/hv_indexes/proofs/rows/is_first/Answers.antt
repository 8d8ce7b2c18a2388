use Rattle.std.proofs.Common.{◌-◌, ltb-true, arith}
use Rattle.hv_indexes.proofs.Keyed.{first_here, less_before}
use Rattle.hv_indexes.proofs.rows.is_first.Goals as goal

pub returns-then-place-eq0 : goal.returns-then-place-eq0
returns-then-place-eq0 c =
    let none = c.if-place-eq0.true in
    λ yes. first_here c.args.heads.now c.args.key c.args.place _ c.requires c.if-place-heads.false
    c.if-heads-place.false (λ k d below. omega arith)

pub returns-else-place-eq0 : goal.returns-else-place-eq0
returns-else-place-eq0 c =
    let some = c.if-place-eq0.false in
    let less = c.if-place-heads.false in
    λ yes. first_here c.args.heads.now c.args.key c.args.place _ c.requires less
    c.if-heads-place.false
    (λ k d below. less_before c.args.heads.now c.args.key (c.args.place - 1) _ c.requires
    (omega arith) (ltb-true _ _ yes) k d (omega arith))
