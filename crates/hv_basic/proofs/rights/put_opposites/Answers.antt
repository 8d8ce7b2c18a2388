use Rattle.std.proofs.Common.{◌∷◌, []}
use Rattle.std.specs.List.{Contains}
use Rattle.hv_sets.specs.Cubes.{opposite}
use Rattle.hv_sets.specs.declared.literal.Literal.{Literal}
use Rattle.hv_basic.specs.Sharing.{IsAgainstSet}
use Rattle.hv_basic.proofs.Literals.{put_weaker}
use Rattle.hv_basic.proofs.rights.put_opposites.Goals as goal

pub returns-in-Some : goal.returns-in-Some
returns-in-Some c =
    put_weaker c.put_against.result c.args.enough.now c.put_against.new.enough
    (λ (l : Literal). Contains c.in-Some.clauses.now (opposite l ∷ []))
    (λ (l : Literal). IsAgainstSet c.args.table.now.lines c.args.set l)
    (λ literal own. (
      c.expr.result.now,
      c.expr.ensures.says,
      (c.in-Some.clauses.now, c.in-Some.ensures, own),
    )) c.put_against.ensures
