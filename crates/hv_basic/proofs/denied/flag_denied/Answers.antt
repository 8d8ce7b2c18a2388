use Rattle.std.proofs.Common.{◌∙◌, inl, inr, subst}
use Rattle.std.specs.List.{Contains}
use Rattle.hv_lines.proofs.Elements.{got_in}
use Rattle.hv_basic.proofs.denied.flag_denied.Goals as goal

pub loop-place-preserved : goal.loop-place-preserved
loop-place-preserved c =
    let i = c.loop-place.invariant in
    let e = c.flag_one.ensures in
    record {
      size = e.size ∙ i.size;
      denied = λ atom on. elim (e.denied atom on) [
        | inl was ↦ i.denied atom was
        | inr own ↦ inr (subst (Contains c.args.clauses.now) own
            (got_in c.args.clauses.now c.loop-place.place c.get.result.now c.get.ensures))
      ];
    }
