use Rattle.std.proofs.Common.{◌≡◌, ◌∙◌, false, true, sym}
use Rattle.std.proofs.lemmas.List.Elements.{All-contains}
use Rattle.hv_sets.specs.declared.operand.Operand.{Operand}
use Rattle.hv_explicit.proofs.sets_query.SetsQuery.is_hit.Goals as goal

pub returns-else-asks : goal.returns-else-asks
returns-else-asks g c = λ state just. (
  λ e. let f : false ≡ true = sym c.if-asks.false ∙ e in absurd cc,
  λ hit. absurd (All-contains (λ (o : Operand). o.after ≡ c.args.after → ⊥)
      c.args.self.now.query.negative hit.0 (c.asks.ensures c.if-asks.false) hit.1 hit.2),
)
