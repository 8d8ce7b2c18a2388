use Rattle.std.proofs.Common.{◌≡◌, [], ◌∷◌, Bool, cond, false, eqb, not, subst, sym}
use Rattle.std.specs.Prelude.{OnOk}
use Rattle.std.proofs.lemmas.Bool.{ne_eqb}
use Rattle.hv_sas.specs.Working.Making.{AddsFacts}
use Rattle.hv_sas.proofs.strips.put_unless.Goals as goal

pub returns : goal.returns
returns c =
    let e : eqb c.args.fact.value c.args.value ≡ false =
    ne_eqb c.args.fact.value c.args.value c.if-fact-value.false in
    subst (λ (b : Bool). OnOk c.put_fact.result
    (AddsFacts c.args.variables.now (cond (not b) (c.args.fact ∷ []) [])
    c.args.set.now c.put_fact.new.set))
    (sym e) c.put_fact.ensures
