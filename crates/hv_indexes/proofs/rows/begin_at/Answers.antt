use Rattle.std.proofs.Common.{sym, subst}
use Rattle.hv_indexes.specs.declared.rows.RowHead.{RowHead}
use Rattle.hv_indexes.specs.Rows.{IsEndBefore}
use Rattle.hv_indexes.proofs.Keyed.{begins_at, begins_past}
use Rattle.hv_indexes.proofs.rows.begin_at.Goals as goal

pub returns-in-Some : goal.returns-in-Some
returns-in-Some c = λ codes key are size first.
    let head = c.in-Some.head.now in
    let found = c.in-Some.ensures.lookup in
    subst (λ (h : RowHead). IsEndBefore key codes h.start) (sym found.1)
    (begins_at codes c.args.heads.now are key c.args.place first head found.3.0)

pub returns-in-None : goal.returns-in-None
returns-in-None c = λ codes key are size first.
    subst (IsEndBefore key codes) size
    (begins_past codes c.args.heads.now are key c.args.place first c.in-None.ensures.lookup.3)
