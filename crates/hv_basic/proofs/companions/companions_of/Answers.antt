use Rattle.std.proofs.Common.{◌≡◌, ◌∙◌, [], ap, arith, get_or, inl, inr, subst, sym}
use Rattle.std.proofs.lemmas.Bool.{cases_lt}
use Rattle.std.proofs.lemmas.List.{get_or_default}
use Rattle.std.proofs.lemmas.List.Elements.{All-contains}
use Rattle.std.proofs.lemmas.Option.{get_or_from_slice_get}
use Rattle.hv_lines.proofs.Elements.{got_in}
use Rattle.hv_basic.specs.Working.Excluded.{HaveStrangers, IsExclusion}
use Rattle.hv_basic.proofs.companions.companions_of.Goals as goal

pub loop-place-preserved : goal.loop-place-preserved
loop-place-preserved c =
    let i = c.loop-place.invariant in
    let e = c.part_all.ensures in
    let clauses = c.args.clauses.now in
    record {
      size = e.size ∙ i.size;
      square = e.square;
      apart = λ k less. elim (cases_lt k c.loop-place.place) [
        | inl earlier ↦ λ l among.
            let w = i.apart k earlier l among in
            (w.0, w.1, e.kept l.atom w.0.atom w.2)
        | inr upto ↦
            let same : k ≡ c.loop-place.place = omega (arith, less, upto) in
            let is = ap (λ n. get_or clauses n []) same
            ∙ get_or_from_slice_get clauses c.loop-place.place c.get.result.now [] c.get.ensures in
            subst (HaveStrangers c.part_all.new.rows.items) (sym is) e.apart
      ];
      only = λ p q p_in q_in off. elim (e.only p q off) [
        | inl old ↦ i.only p q p_in q_in old
        | inr own ↦ (
          c.get.result.now,
          got_in clauses c.loop-place.place c.get.result.now c.get.ensures,
          own,
        )
      ];
    }

pub returns-clause-are : goal.returns-clause-are
returns-clause-are c =
    let i = c.loop-place.invariant in
    let clauses = c.args.clauses.now in
    record {
      all = c.in_ok-all.ensures;
      rows = i.size;
      square = i.square;
      against = λ clause among.
          (All-contains (IsExclusion c.args.atoms c.args.value) clauses clause c.requires among).1;
      apart = λ clause among.
          let within = among.1 in
          subst (HaveStrangers c.loop-place.rows.items)
          (get_or_default clauses among.0 [] clause among.1 ∙ among.2)
          (i.apart among.0
          (omega (arith, within, c.loop-place-test.false, c.len-place-end.ensures)));
      only = i.only;
    }
