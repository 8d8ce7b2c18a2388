use Rattle.std.proofs.Common.{◌∙◌, ap, get_or, sym, subst}
use Rattle.hv_bdd.specs.Jumps.{IsJump}
use Rattle.hv_bdd.proofs.Jumped.{jump_far, jump_low, jump_none}
use Rattle.hv_bdd.proofs.jumps.jump_of.Goals as goal
use Rattle.hv_bdd.proofs.jumps.jump_of.Goals.{then-is_even, else-is_even}

pub returns-then-node-lt2 : goal.returns-then-node-lt2
returns-then-node-lt2 c = jump_none c.args.nodes.now c.args.node c.if-node-lt2.true

pub returns : goal.returns
returns c =
    let list = c.args.nodes.now in
    let reduced = c.child-low.ensures.reduced in
    let node = c.args.node in
    let low = c.child-low.ensures.child in
    let inner = c.if-node-lt2.false in
    elim c.if-is_even.branch [
      | then-is_even w ↦
          subst (IsJump list node) (ap (λ n. get_or c.args.to.now (get_or c.args.to.now n 0) 0)
          (sym low) ∙ sym w.result-is)
          (jump_far list reduced node c.args.to.now inner c.requires.node c.requires.size
          c.requires.jumps)
      | else-is_even w ↦
          subst (IsJump list node) (sym low ∙ sym w.result-is)
          (jump_low list reduced node inner c.requires.node)
    ]
