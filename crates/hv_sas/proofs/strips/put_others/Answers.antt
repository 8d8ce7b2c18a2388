use Rattle.std.proofs.Common.{◌≡◌, ◌∙◌, ap, map, arith, ℕ, not, Bool}
use Rattle.std.specs.Prelude.{◌==◌}
use Rattle.std.specs.List.{filter, range_with_len}
use Rattle.hv_sas.specs.declared.sas_task.Fact.{Fact}
use Rattle.hv_sas.specs.Variables.{range_at}
use Rattle.hv_sas.proofs.Making.{few_at, puts_next, puts_same, range_more}
use Rattle.std.proofs.lemmas.List.{map-append}
use Rattle.std.proofs.lemmas.List.Elements.{filter-append}
use Rattle.hv_sas.proofs.strips.put_others.Goals as goal

pub overflow_cast-fact : goal.overflow_cast-fact
overflow_cast-fact c =
    let few = few_at c.args.variables.now c.args.effect.var in
    let most = c.requires.few in
    let e = c.range_at-value-end.ensures in omega arith

pub loop-value-preserved : goal.loop-value-preserved
loop-value-preserved c =
    let fact : ℕ → Fact = λ x. record { var = c.args.effect.var; value = x } in
    let other : Fact → Bool = λ f. not (f.value == c.args.effect.after) in
    puts_next c.args.variables.now _ _ _ _ _ _ c.loop-value.invariant c.in_ok-put_unless.ensures
    (ap (λ ns. filter other (map fact ns)) (range_more c.loop-value.value)
    ∙ ap (filter other) (map-append fact (range_with_len 0 c.loop-value.value) _)
    ∙ filter-append other (map fact (range_with_len 0 c.loop-value.value)) _)

pub returns : goal.returns
returns c =
    let fact : ℕ → Fact = λ x. record { var = c.args.effect.var; value = x } in
    let other : Fact → Bool = λ f. not (f.value == c.args.effect.after) in
    let r = c.range_at-value-end.ensures in
    let e : range_at c.args.variables.now c.args.effect.var ≡ c.loop-value.value = omega arith in
    puts_same c.args.variables.now _ _ _ _ c.loop-value.invariant
    (ap (λ n. filter other (map fact (range_with_len 0 n))) e)
