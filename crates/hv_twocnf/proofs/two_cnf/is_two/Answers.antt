use Rattle.std.proofs.Common.{◌≡◌, arith, false, refl, sym, slice_index_or, inl, inr}
use Rattle.std.proofs.lemmas.Bool.{cases_lt}
use Rattle.std.proofs.lemmas.List.Elements.{All-from_get_or, Contains-get_or}
use Rattle.std.proofs.lemmas.Option.{get_or_from_slice_get}
use Rattle.hv_sets.specs.declared.literal.Literal.{Literal}
use Rattle.hv_twocnf.proofs.Pairs.{differ_if, same_if, two_of_one, two_of_pair}
use Rattle.hv_twocnf.proofs.two_cnf.is_two.Goals as goal

pub returns-then-ne : goal.returns-then-ne
returns-then-ne c =
    let here = slice_index_or c.args.clause.now c.loop-literal.literal-index
    (record { atom = 0; positive = false }) in
    let pair = two_of_pair c.args.clause.now c.in-Some.first.now here (
      0,
      omega arith,
      get_or_from_slice_get c.args.clause.now 0 c.in-Some.first.now
          c.in-Some.first.now (sym c.in-Some.ensures.value),
    )
    (Contains-get_or c.args.clause.now c.loop-literal.literal-index
    (record { atom = 0; positive = false }) (omega arith))
    (differ_if here c.in-Some.first.now c.if-ne.ensures) in
    (λ yes. pair.0 (c.has_only.ensures.0 yes), λ two. c.has_only.ensures.1 (pair.1 two))

pub loop-literal-preserved : goal.loop-literal-preserved
loop-literal-preserved c k less =
    elim (cases_lt k c.loop-literal.literal-index) [
      | inl before ↦ c.loop-literal.invariant k before
      | inr last ↦
          let same = same_if (slice_index_or c.args.clause.now c.loop-literal.literal-index
          (record { atom = 0; positive = false }))
          c.in-Some.first.now c.if-ne.ensures in
          let e : k ≡ c.loop-literal.literal-index = omega arith in
          rw e same
    ]

pub returns : goal.returns
returns c = (
  λ _. two_of_one c.args.clause.now c.in-Some.first.now
      (All-from_get_or (λ (l : Literal). l ≡ c.in-Some.first.now) c.args.clause.now
      (record { atom = 0; positive = false })
      (λ k within. c.loop-literal.invariant k (omega arith))),
  λ _. refl,
)
