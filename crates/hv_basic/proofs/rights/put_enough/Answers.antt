use Rattle.hv_sets.specs.declared.literal.Literal.{Literal}
use Rattle.hv_basic.specs.Sharing.{IsEnoughFor, IsLoneFor}
use Rattle.hv_basic.proofs.Literals.{put_weaker}
use Rattle.hv_basic.proofs.rights.put_enough.Goals as goal

pub returns-in-Some : goal.returns-in-Some
returns-in-Some c =
    put_weaker c.put_lone.result c.args.enough.now c.put_lone.new.enough
    (λ (l : Literal). IsLoneFor c.in-Some.clauses.now l)
    (λ (l : Literal). IsEnoughFor c.args.table.now.lines c.args.set l)
    (λ literal own. (
      c.expr.result.now,
      c.expr.ensures.says,
      (c.in-Some.clauses.now, c.in-Some.ensures, own),
    )) c.put_lone.ensures
