use Rattle.std.proofs.Common.{◌≡◌, ◌∙◌, ap, map, arith, ℕ, length}
use Rattle.std.specs.List.{range_with_len, slice_index}
use Rattle.hv_sas.specs.declared.sas_task.Fact.{Fact}
use Rattle.hv_sas.proofs.Making.{few_variables, puts_next, puts_same, range_more}
use Rattle.std.proofs.lemmas.List.{map-append}
use Rattle.hv_sas.proofs.strips.put_state.Goals as goal

pub overflow_cast-fact : goal.overflow_cast-fact
overflow_cast-fact c =
    let is = c.requires.state in
    let size = is.count in
    let few = few_variables c.args.variables.now (λ v within.
    let less = is.within v (omega arith) in omega arith) in
    let most = c.requires.firsts.few in omega arith

pub loop-place-preserved : goal.loop-place-preserved
loop-place-preserved c =
    let fact : ℕ → Fact = λ v. record { var = v; value = slice_index c.args.state.now v } in
    puts_next c.args.variables.now _ _ _ _ _ _ c.loop-place.invariant c.in_ok-put_fact.ensures
    (ap (map fact) (range_more c.loop-place.place)
    ∙ map-append fact (range_with_len 0 c.loop-place.place) _)

pub returns : goal.returns
returns c =
    let fact : ℕ → Fact = λ v. record { var = v; value = slice_index c.args.state.now v } in
    let e : length c.args.state.now ≡ c.loop-place.place = omega arith in
    puts_same c.args.variables.now _ _ _ _ c.loop-place.invariant
    (ap (λ n. map fact (range_with_len 0 n)) e)
