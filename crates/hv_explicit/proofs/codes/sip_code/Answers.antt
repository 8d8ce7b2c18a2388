use Rattle.std.proofs.Common.{◌∙◌, ◌++◌, ◌∷◌, [], arith, ap, sym}
use Rattle.std.specs.Hash.DefaultHasher as sip
use Rattle.hv_task.proofs.Listing.{lists_all, lists_next, lists_none}
use Rattle.hv_explicit.specs.Working.Codes.{with_atom}
use Rattle.hv_explicit.proofs.Coded.{with_push, below_from_next}
use Rattle.hv_explicit.proofs.codes.sip_code.Goals as goal

pub loop-atom-init : goal.loop-atom-init
loop-atom-init g c = record {
  upto = omega arith;
  so_far = ([], lists_none (g.A.Atoms.has c.args.held.now), c.new-hasher.ensures);
}

pub loop-atom-preserved : goal.loop-atom-preserved
loop-atom-preserved g c =
    let so_far = c.loop-atom.invariant.so_far in
    record {
      upto = let less = below_from_next (g.A.Atoms.has c.args.held.now) c.args.atoms
          c.loop-atom.from c.in-Some.atom c.requires c.in-Some.ensures in omega arith;
      so_far = (
        so_far.0 ++ c.in-Some.atom ∷ [],
        lists_next (g.A.Atoms.has c.args.held.now) c.loop-atom.from so_far.0 c.in-Some.atom so_far.1
            c.in-Some.ensures,
        c.put_atom.ensures ∙ ap (λ h. with_atom h c.in-Some.atom) so_far.2
            ∙ sym (with_push sip.initial so_far.0 c.in-Some.atom),
      );
    }

pub returns : goal.returns
returns g c =
    let so_far = c.loop-atom.invariant.so_far in (
      so_far.0,
      so_far.1.rises,
      lists_all (g.A.Atoms.has c.args.held.now) c.loop-atom.from so_far.0 so_far.1
          c.in_default.ensures,
      c.finish.ensures ∙ ap (λ h. sip.finish h) so_far.2,
    )
