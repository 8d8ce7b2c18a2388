use Rattle.std.proofs.Common.{List, sym, subst}
use Rattle.hv_indexes.specs.declared.rows.RowHead.{RowHead}
use Rattle.hv_indexes.specs.Implied.{ImpliesNumber}
use Rattle.hv_indexes.specs.Rows.{AreRows}
use Rattle.hv_indexes.proofs.Alone.{headed_rows, implied_row}
use Rattle.hv_indexes.proofs.implication_lists.ListedImplications.numbers_at.Goals as goal

pub numbers_at-requires : goal.numbers_at-requires
numbers_at-requires c =
    let clauses = c.requires.0 in
    headed_rows clauses c.deref.result.now c.deref-2.result.now
    (subst (λ (heads : List RowHead). AreRows (ImpliesNumber clauses) heads c.deref-2.result.now)
    (sym c.deref.ensures.value)
    (subst (AreRows (ImpliesNumber clauses) c.args.self.now.heads.items)
    (sym c.deref-2.ensures.value) c.requires.1))

pub returns : goal.returns
returns c = λ clauses rows.
    implied_row clauses c.deref.result.now c.deref-2.result.now
    (subst (λ (heads : List RowHead). AreRows (ImpliesNumber clauses) heads c.deref-2.result.now)
    (sym c.deref.ensures.value)
    (subst (AreRows (ImpliesNumber clauses) c.args.self.now.heads.items)
    (sym c.deref-2.ensures.value) rows)) c.args.key c.numbers_at.result.now c.numbers_at.ensures
