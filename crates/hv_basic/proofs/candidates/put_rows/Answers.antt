use Rattle.std.proofs.Common.{◌≡◌, ◌∙◌, arith, get_or, inr, inl, subst, sym}
use Rattle.std.proofs.lemmas.List.{get_or_default}
use Rattle.hv_rows.specs.Rows.{IsInRow}
use Rattle.hv_basic.proofs.Applicable.{put_row_more, row_at}
use Rattle.hv_basic.proofs.candidates.put_rows.Goals as goal

pub loop-atom-preserved : goal.loop-atom-preserved
loop-atom-preserved c =
    let i = c.loop-atom.invariant in
    let e = c.in_ok-put_row.ensures in
    let atom = get_or c.args.atoms.now c.loop-atom.atom-index 0 in
    record {
      kept = λ k h. e.kept k (i.kept k h);
      has = put_row_more c.args.rows.now c.args.atoms.now c.args.actions c.loop-atom.atom-index
          c.loop-atom.found c.put_row.new.found e.kept
          (λ k inside. e.has k
          (row_at c.args.rows.now atom c.index-rows-atom.result c.deref.result.now
          (c.requires c.loop-atom.atom-index 0 c.loop-atom-test.true) c.index-rows-atom.is
          c.deref.ensures.value k inside))
          i.has;
      below = λ k h. elim (e.below k h) [ inl old ↦ i.below k old | inr less ↦ inr less ];
    }

pub returns-clause-has : goal.returns-clause-has
returns-clause-has c = λ p k h inside below.
    let at : get_or c.args.atoms.now h.0 0 ≡ p =
    get_or_default c.args.atoms.now h.0 0 p h.1 ∙ h.2 in
    let less = h.1 in
    c.loop-atom.invariant.has h.0 (omega (arith, less, c.loop-atom-test.false)) k
    (subst (λ n. IsInRow c.args.rows.now n k) (sym at) inside) below
