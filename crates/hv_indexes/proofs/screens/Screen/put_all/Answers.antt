use Rattle.std.proofs.Common.{refl}
use Rattle.hv_indexes.proofs.Mated.{screens_all, screens_more}
use Rattle.hv_indexes.proofs.screens.Screen.put_all.Goals as goal

pub loop-at-preserved : goal.loop-at-preserved
loop-at-preserved c = record {
  screened = screens_more c.args.clauses.now c.args.places.now c.loop-at.at c.loop-at.self
      c.put_at.new.self c.if-not-put_at.ensures.keeps c.loop-at.invariant.screened
      (c.if-not-put_at.ensures.here refl);
  exact = c.if-not-put_at.ensures.exact c.loop-at.invariant.exact;
}

pub returns-clause-screened : goal.returns-clause-screened
returns-clause-screened c = λ _. screens_all c.args.clauses.now c.args.places.now c.loop-at.at
    c.loop-at.self c.loop-at-test.false c.loop-at.invariant.screened
