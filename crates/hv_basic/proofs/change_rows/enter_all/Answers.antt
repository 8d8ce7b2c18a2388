use Rattle.std.proofs.Common.{◌≡◌, ◌∙◌, arith, get_or, inl, inr, subst}
use Rattle.std.proofs.lemmas.Bool.{cases_lt}
use Rattle.std.proofs.lemmas.List.{get_or_default}
use Rattle.hv_rows.specs.Rows.{IsInRow}
use Rattle.hv_rows.proofs.Entered.{entered_has, entered_keeps}
use Rattle.hv_basic.proofs.change_rows.enter_all.Goals as goal

pub enter-requires : goal.enter-requires
enter-requires c =
    let below = c.requires c.loop-atom.atom-index 0 c.loop-atom-test.true in
    omega (arith, below, c.loop-atom.invariant.size)

pub loop-atom-preserved : goal.loop-atom-preserved
loop-atom-preserved c =
    let i = c.loop-atom.invariant in
    let atoms = c.args.atoms.now in
    let place = get_or atoms c.loop-atom.atom-index 0 in
    let old = c.loop-atom.rows.items in
    let new = c.enter.new.rows.items in
    let e = c.in_ok-enter.ensures.entered in
    record {
      size = c.enter.ensures.size ∙ i.size;
      keeps = λ p k inside. entered_keeps place c.args.number old new e p k (i.keeps p k inside);
      has = λ j less. elim (cases_lt j c.loop-atom.atom-index) [
        | inl earlier ↦ entered_keeps place c.args.number old new e (get_or atoms j 0) c.args.number
            (i.has j earlier)
        | inr upto ↦
            let same : c.loop-atom.atom-index ≡ j = omega (arith, less, upto) in
            subst (λ n. IsInRow new (get_or atoms n 0) c.args.number) same
            (entered_has place c.args.number old new e)
      ];
    }

pub returns-clause-has : goal.returns-clause-has
returns-clause-has c = λ p h.
    let at : get_or c.args.atoms.now h.0 0 ≡ p =
    get_or_default c.args.atoms.now h.0 0 p h.1 ∙ h.2 in
    let less = h.1 in
    subst (λ q. IsInRow c.loop-atom.rows.items q c.args.number) at
    (c.loop-atom.invariant.has h.0 (omega (arith, less, c.loop-atom-test.false)))
