use Rattle.std.proofs.Common.{◌+◌, ◌-◌, ◌≤◌, length-take, drop, ap, ◌∙◌, arith, length}
use Rattle.hv_bytes.proofs.HeldBytes.{window-skip}
use Rattle.hv_bytes.proofs.block.Block.lend.Goals as goal

pub returns-clause-held : goal.returns-clause-held
returns-clause-held c =
    let h = c.self.inside in
    let held = ap (λ b. b.held) c.self.view_is in
    let count = c.args.count + 1 in
    let fits : count ≤ h.end - h.at = omega (
      arith,
      length-take (h.end - h.at) (drop h.at h.piece.items),
      ap length held,
      c.requires,
    ) in
    window-skip h.piece.items h.at h.end count fits ∙ ap (drop count) held
