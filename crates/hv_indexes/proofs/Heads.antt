-- Where the codes of each key begin, found code by code.
use Rattle.std.proofs.Common.{◌≡◌, ℕ, ◌+◌, ◌-◌, ◌<◌, ◌≤◌, ◌∙◌, ◌++◌, ◌∷◌, [], List, inl, inr}
use Rattle.std.proofs.Common.{length}
use Rattle.std.proofs.Common.{get_or, refl, sym, ap, arith, below_more, subst}
use Rattle.std.proofs.lemmas.Bool.{cases_lt}
use Rattle.std.proofs.lemmas.List.{get_or_append_left, get_or_default, get_or_push, length_push}
use Rattle.std.proofs.lemmas.List.Sorted.{IsNonDecreasingBy-push}
use Rattle.std.specs.List.Sorted.{IsStrictlyIncreasing}
use Rattle.hv_indexes.specs.declared.rows.RowHead.{RowHead}
use Rattle.hv_indexes.specs.Working.Rows.{AreHeadsOf, PutsHead}
use Rattle.hv_indexes.specs.Rows.{IsEndBefore, key_of}
use Rattle.hv_indexes.proofs.Keyed.{keys_upto}

-- The head of one code more.
module _ (codes : List ℕ) (rises : IsStrictlyIncreasing codes) (count : ℕ)
    (within : count < length codes) (old : List RowHead) (are : AreHeadsOf codes count old)
    (head : RowHead) (key : head.key ≡ key_of (get_or codes count 0)) (start : head.start ≡ count)
  where
    -- the last head is of its key
    heads_stay : (k : ℕ) → k < length old → (get_or old k head).key ≡ head.key
        → AreHeadsOf codes (count + 1) old
    heads_stay k less same = record {
      rises = are.rises;
      each = are.each;
      all = below_more (λ i. (j : ℕ) × (j < length old)
          × ((d : RowHead) → (get_or old j d).key ≡ key_of (get_or codes i 0))) count are.all (
            k,
            less,
            λ d. ap (λ (h : RowHead). h.key) (get_or_default old k d head less) ∙ (same ∙ key),
          );
      upto = λ k j d less more end. are.upto k j d less (omega arith) end;
    }

    -- the last head is of another key
    module _ (apart : (k : ℕ) → k + 1 ≡ length old → (get_or old k head).key ≡ head.key → ⊥) where
      lower : (i : ℕ) → i < count → key_of (get_or codes i 0) < head.key
      lower i less =
          let found = are.all i less in
          let j : ℕ = found.0 in
          let inside : j < length old = found.1 in
          let same = found.2 head in
          let upto = are.upto j count head inside (omega arith) within in
          let last : ℕ = length old - 1 in
          let order = are.rises j last head (omega arith) (omega arith) in
          let most = are.upto last count head (omega arith) (omega arith) within in
          elim (cases_lt (get_or old j head).key head.key) [
            | inl below ↦ omega arith
            | inr more ↦ absurd (apart last (omega arith) (omega arith))
          ]

      size : length (old ++ head ∷ []) ≡ length old + 1
      size = length_push old head

      heads_put : AreHeadsOf codes (count + 1) (old ++ head ∷ [])
      heads_put = record {
        rises = IsNonDecreasingBy-push (λ (h : RowHead). h.key) old head are.rises
            (λ d more.
            let upto = are.upto (length old - 1) count d (omega arith) (omega arith) within in
            omega arith);
        each = each;
        all = below_more (λ i. (j : ℕ) × (j < length (old ++ head ∷ []))
            × ((d : RowHead) → (get_or (old ++ head ∷ []) j d).key ≡ key_of (get_or codes i 0)))
            count
            (λ i less.
            let found = are.all i less in (
              found.0,
              (let inside : found.0 < length old = found.1 in let e = size in omega arith),
              λ d. ap (λ (h : RowHead). h.key) (get_or_append_left old (head ∷ []) d found.0
                  found.1)
                  ∙ found.2 d,
            )) (
              length old,
              (let e = size in omega arith),
              λ d. ap (λ (h : RowHead). h.key) (get_or_push old head d (length old) refl) ∙ key,
            );
        upto = upto;
      }
        where
          own : IsEndBefore head.key codes head.start
          own = record {
            within = omega arith;
            before = λ k less. lower k (omega arith);
            after = λ k late less.
                let order = keys_upto codes rises count k 0 (omega arith) less in omega arith;
          }

          each : (k : ℕ) (d : RowHead) → k < length (old ++ head ∷ [])
              → IsEndBefore (get_or (old ++ head ∷ []) k d).key codes
              (get_or (old ++ head ∷ []) k d).start
          each k d less = elim (cases_lt k (length old)) [
            | inl before ↦ subst (λ (h : RowHead). IsEndBefore h.key codes h.start)
                (sym (get_or_append_left old (head ∷ []) d k before)) (are.each k d before)
            | inr last ↦ subst (λ (h : RowHead). IsEndBefore h.key codes h.start)
                (sym (get_or_push old head d k (let e = size in omega arith))) own
          ]

          upto : (k j : ℕ) (d : RowHead) → k < length (old ++ head ∷ []) → count + 1 ≤ j + 1
              → j < length codes → (get_or (old ++ head ∷ []) k d).key ≤ key_of (get_or codes j 0)
          upto k j d less more end = elim (cases_lt k (length old)) [
            | inl before ↦ subst (λ (h : RowHead). h.key ≤ key_of (get_or codes j 0))
                (sym (get_or_append_left old (head ∷ []) d k before))
                (are.upto k j d before (omega arith) end)
            | inr last ↦ subst (λ (h : RowHead). h.key ≤ key_of (get_or codes j 0))
                (sym (get_or_push old head d k (let e = size in omega arith)))
                (let order = keys_upto codes rises count j 0 (omega arith) end in omega arith)
          ]

    pub heads_more : (new : List RowHead) → PutsHead old head new → AreHeadsOf codes (count + 1) new
    heads_more new puts = elim puts [
      | inl stays ↦ subst (AreHeadsOf codes (count + 1)) (sym stays.0)
          (heads_stay stays.1.0 stays.1.1 stays.1.2)
      | inr put ↦ subst (AreHeadsOf codes (count + 1)) (sym put.0) (heads_put put.1)
    ]
