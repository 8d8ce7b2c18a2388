use Rattle.std.proofs.Common.{ap, arith, subst, sym}
use Rattle.std.proofs.lemmas.List.{get_or_default}
use Rattle.hv_indexes.specs.declared.rows.RowHead.{RowHead}
use Rattle.hv_indexes.specs.Occurrences.{AreOccurrences, lent_rows}
use Rattle.hv_indexes.proofs.ImpliedRows.{heads_all, heads_more}
use Rattle.hv_indexes.proofs.implied.put_signed.Goals as goal

pub loop-at-preserved : goal.loop-at-preserved
loop-at-preserved c =
    let heads = c.signed.result.heads.now in
    let at = c.loop-at.at in
    heads_more c.args.turned c.args.clauses.now c.args.sign heads at _ c.args.codes.now.items
    c.loop-at.codes.items c.put_atom.new.codes.items
    (λ d. ap (λ (h : RowHead). h.key) (get_or_default heads at d _ c.loop-at-test.true))
    c.loop-at.invariant c.in_ok-put_atom.ensures

pub returns : goal.returns
returns c =
    let clauses = c.args.clauses.now in
    let sign = c.args.sign in
    let listed = lent_rows c.signed.result in
    let old = c.args.codes.now.items in
    let new = c.loop-at.codes.items in
    let end = c.loop-at-test.false in
    heads_all c.args.turned sign clauses listed
    (subst (AreOccurrences sign clauses) (sym c.signed.ensures) (c.requires.index sign))
    c.loop-at.at old new (omega arith) c.loop-at.invariant
