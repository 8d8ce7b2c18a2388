use Rattle.std.proofs.Common.{arith}
use Rattle.std.specs.List.{Contains}
use Rattle.hv_sets.specs.declared.literal.Literal.{Literal}
use Rattle.hv_basic.specs.Sharing.{IsLoneFor}
use Rattle.hv_basic.proofs.Literals.{one_of, put_weaker}
use Rattle.hv_basic.proofs.rights.put_lone.Goals as goal

pub returns : goal.returns
returns c =
    put_weaker c.put_short.result c.args.enough.now c.put_short.new.enough
    (λ (l : Literal). Contains c.get.result.now l) (λ (l : Literal). IsLoneFor c.args.clauses.now l)
    (λ literal own. (
      c.get.result.now,
      one_of c.args.clauses.now c.get.result.now
          (omega (arith, c.if-len-ne1.false, c.len.ensures)) c.get.ensures,
      own,
    )) c.put_short.ensures
