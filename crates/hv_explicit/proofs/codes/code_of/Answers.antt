use Rattle.std.proofs.Common.{◌∙◌, ◌+◌, ◌%◌, ◌^◌, arith, ap, sym}
use Rattle.hv_explicit.proofs.Coded.{below_from_next}
use Rattle.hv_explicit.proofs.Totals.{code_next, total_gap}
use Rattle.hv_explicit.proofs.codes.code_of.Goals as goal

pub loop-atom-preserved : goal.loop-atom-preserved
loop-atom-preserved g c = record {
  upto = let less = below_from_next (g.A.Atoms.has c.args.held.now) c.args.atoms c.loop-atom.from
      c.in-Some.atom c.requires c.in-Some.ensures in omega arith;
  so_far = ap (λ w. (c.loop-atom.code + w) % 2 ^ 64) c.number-code.ensures
      ∙ code_next c.args.key (g.A.Atoms.has c.args.held.now) c.loop-atom.from c.in-Some.atom
      c.loop-atom.code c.in-Some.ensures c.loop-atom.invariant.so_far;
}

pub returns : goal.returns
returns g c = (
  c.args.atoms,
  c.requires,
  c.loop-atom.invariant.so_far
      ∙ ap (λ t. t % 2 ^ 64) (sym (total_gap c.args.key (g.A.Atoms.has c.args.held.now)
      c.loop-atom.from c.args.atoms c.loop-atom.invariant.upto
      (λ p from less. c.in_default.ensures p from))),
)
