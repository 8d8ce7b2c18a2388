use Rattle.std.proofs.Common.{◌≡◌, ℕ, ◌<◌, ◌∙◌, ◌∷◌, ◌++◌, List, [], get_or, sym, ap, subst}
use Rattle.std.proofs.Common.{◌+◌, arith, inl, inr}
use Rattle.std.proofs.lemmas.Bool.{cases_lt}
use Rattle.std.proofs.lemmas.List.{get_or_default}
use Rattle.std.proofs.lemmas.List.Elements.{Contains-append_left, Contains-push}
use Rattle.std.specs.List.{Contains}
use Rattle.hv_indexes.specs.declared.rows.RowHead.{RowHead}
use Rattle.hv_indexes.specs.Rows.{code}
use Rattle.hv_clauses.proofs.literal_owners.put_heads.Goals as goal

-- one code more, where each head before has its own
more_heads : (heads : List RowHead) (place i x key : ℕ) (old new : List ℕ)
    → ((d : RowHead) → (get_or heads i d).key ≡ key) → x ≡ code key place → new ≡ old ++ x ∷ []
    → ((j : ℕ) → j < i → (d : RowHead) → Contains old (code (get_or heads j d).key place))
    → (j : ℕ) → j < i + 1 → (d : RowHead) → Contains new (code (get_or heads j d).key place)
more_heads heads place i x key old new here is items before j less d =
    subst (λ xs. Contains xs (code (get_or heads j d).key place)) (sym items)
    (elim (cases_lt j i) [
      | inl early ↦ Contains-append_left old (x ∷ []) (code (get_or heads j d).key place)
          (before j early d)
      | inr late ↦
          let same : j ≡ i = omega arith in
          let at : (get_or heads j d).key ≡ key =
          ap (λ k. (get_or heads k d).key) same ∙ here d in
          subst (Contains (old ++ x ∷ [])) (is ∙ ap (λ k. code k place) (sym at))
          (Contains-push old x)
    ])

pub loop-index-preserved : goal.loop-index-preserved
loop-index-preserved c =
    let heads = c.args.heads.now in
    let index = c.loop-index.index in
    let old = c.loop-index.codes.items in
    let items = c.in_ok-push.ensures.items in
    record {
      kept = λ x has. subst (λ xs. Contains xs x) (sym items)
          (Contains-append_left old (c.code_of.result ∷ []) x (c.loop-index.invariant.kept x has));
      more = more_heads heads c.args.place index c.code_of.result _ old c.push.new.self.items
          (λ d. ap (λ (h : RowHead). h.key) (get_or_default heads index d _
          c.loop-index-test.true)) c.code_of.ensures items c.loop-index.invariant.more;
    }

pub returns : goal.returns
returns c = record {
  kept = c.loop-index.invariant.kept;
  more = λ x of.
      let none : RowHead = record { key = 0; start = 0 } in
      let end = c.loop-index-test.false in
      subst (Contains c.loop-index.codes.items) (sym (of.2 none))
      (c.loop-index.invariant.more of.0 (omega (arith, of.1)) none);
}
