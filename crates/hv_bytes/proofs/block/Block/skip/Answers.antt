use Rattle.std.proofs.Common.{◌-◌, ◌≤◌, length-take, drop, ap, ◌∙◌, arith, length}
use Rattle.hv_bytes.proofs.HeldBytes.{window-skip}
use Rattle.hv_bytes.proofs.block.Block.skip.Goals as goal

pub returns : goal.returns
returns c =
    let h = c.self.inside in
    let held = ap (λ b. b.held) c.self.view_is in
    let fits : c.args.count ≤ h.end - h.at = omega (
      arith,
      length-take (h.end - h.at) (drop h.at h.piece.items),
      ap length held,
      c.requires,
    ) in
    window-skip h.piece.items h.at h.end c.args.count fits ∙ ap (drop c.args.count) held
