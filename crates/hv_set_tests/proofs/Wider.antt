-- A query with one negative operand more, of a greater identifier, can be asked too.
use Rattle.std.proofs.Common.{◌≡◌, ◌∙◌, ◌⊎◌, ◌<◌, ◌≤◌, ◌++◌, ◌∷◌, [], ℕ, zero, suc, List, Option}
use Rattle.std.proofs.Common.{Some, None, false, length, append_assoc, refl, sym, ap, subst, arith}
use Rattle.std.proofs.Common.{inl, inr}
use Rattle.std.proofs.lemmas.List.Elements.{All-contains, All-push, Contains-append_right}
use Rattle.std.proofs.lemmas.List.Elements.{Contains-push_cases}
use Rattle.std.proofs.lemmas.Option.{get_or_from_slice_get, slice_get_within}
use Rattle.std.specs.List.{All, Contains, slice_get}
use Rattle.hv_sets.specs.declared.operand.Operand.{Operand}
use Rattle.hv_sets.specs.declared.query.Query.{Query}
use Rattle.hv_sets.specs.declared.operand.Which.TheVariants as W
use Rattle.hv_sets.specs.Query.{ComesBefore, HasAnchor, IsNamed, IsReady, Rises}

-- the query with this negative operand last
abbrev pub with_negative : Query → Operand → Query
with_negative query operand =
    record {
      positive = query.positive;
      negative = query.negative ++ operand
          ∷ [];
      action = query.action;
    }

-- each operand has a lesser identifier
abbrev pub AreLess : ℕ → Query → Type 0
AreLess id query = All (λ (o : Operand). o.id < id) (query.positive ++ query.negative)

-- an item of the longer list is one of the shorter, or the last
in_longer : {X : Type 0} (xs : List X) (last : X) (place : ℕ) (x : X)
    → slice_get (xs ++ last ∷ []) place ≡ Some x
    → (slice_get xs place ≡ Some x) ⊎ ((place ≡ length xs) × (last ≡ x))
in_longer [] last zero x e = inr (refl, cc)
in_longer [] last (suc place) x e = let f : None ≡ Some x = e in absurd cc
in_longer (first ∷ xs) last zero x e = inl e
in_longer (first ∷ xs) last (suc place) x e =
    elim (in_longer xs last place x e) [
      | inl before ↦ inl before
      | inr at ↦ inr (omega arith, at.1)
    ]

module _ (count : ℕ) (query : Query) (operand : Operand) (ready : IsReady count query)
    (less : AreLess operand.id query) where
  -- what each operand keeps and the new one does
  more : (P : Operand → Type 0) → All P (query.positive ++ query.negative) → P operand
      → All P (query.positive ++ (query.negative ++ operand ∷ []))
  more P all one =
      subst (All P) (append_assoc query.positive query.negative (operand ∷ []))
      (All-push P (query.positive ++ query.negative) operand all one)

  cases : (o : Operand) → Contains (query.positive ++ (query.negative ++ operand ∷ [])) o
      → Contains (query.positive ++ query.negative) o ⊎ (operand ≡ o)
  cases o c =
      Contains-push_cases (query.positive ++ query.negative) operand o
      (subst (λ os. Contains os o) (sym (append_assoc query.positive query.negative (operand ∷ [])))
      c)

  id_less : (o : Operand) → Contains (query.positive ++ query.negative) o → o.id < operand.id
  id_less o c = All-contains (λ (p : Operand). p.id < operand.id) (query.positive ++ query.negative)
      o less c

  one_set : (o p : Operand) → Contains (query.positive ++ (query.negative ++ operand ∷ [])) o
      → Contains (query.positive ++ (query.negative ++ operand ∷ [])) p → o.id ≡ p.id
      → o.which ≡ p.which
  one_set o p c d same =
      elim (cases o c) [
        | inl old ↦
            elim (cases p d) [
              | inl old_too ↦ ready.one_set o p old old_too same
              | inr new ↦
                  let below = id_less o old in
                  let is : operand.id ≡ p.id = ap (λ (q : Operand). q.id) new in
                  absurd (omega arith)
            ]
        | inr new ↦
            elim (cases p d) [
              | inl old ↦
                  let below = id_less p old in
                  let is : operand.id ≡ o.id = ap (λ (q : Operand). q.id) new in
                  absurd (omega arith)
              | inr new_too ↦ ap (λ (q : Operand). q.which) (sym new ∙ new_too)
            ]
      ]

  rises : Rises (query.negative ++ operand ∷ [])
  rises i j first second before at_i at_j =
      elim (in_longer query.negative operand j second at_j) [
        | inl old_j ↦
            elim (in_longer query.negative operand i first at_i) [
              | inl old_i ↦ ready.negative_rises i j first second before old_i old_j
              | inr new_i ↦
                  let within = slice_get_within query.negative j second old_j in
                  let end : i ≡ length query.negative = new_i.0 in absurd (omega arith)
            ]
        | inr new_j ↦
            elim (in_longer query.negative operand i first at_i) [
              | inl old_i ↦
                  let among : Contains query.negative first = (
                    i,
                    slice_get_within query.negative i first old_i,
                    get_or_from_slice_get
                        query.negative i first first old_i,
                  ) in
                  let below = id_less first (Contains-append_right query.positive query.negative
                  first among) in
                  subst (ComesBefore first) new_j.1 (inl below)
              | inr new_i ↦
                  let end_i : i ≡ length query.negative = new_i.0 in
                  let end_j : j ≡ length query.negative = new_j.0 in absurd (omega arith)
            ]
      ]

  pub ready_more : IsNamed count operand.which → (query.action ≡ None → operand.after ≡ false)
      → IsReady count (with_negative query operand)
  ready_more named before = record {
    named = more (λ o. IsNamed count o.which) ready.named named;
    one_set = one_set;
    before = λ none. more (λ o. o.after ≡ false) (ready.before none) (before none);
    positive_rises = ready.positive_rises;
    negative_rises = rises;
  }

  pub less_more : (id : ℕ) → operand.id < id → AreLess id (with_negative query operand)
  less_more id below =
      more (λ o. o.id < id)
      (λ k d within. let old = less k d within in omega arith)
      below

-- what is known of a query while it is made: it can be asked, the identifiers are less than this
-- number, and it has an anchor
pub record IsWide (count id : ℕ) (action : Option ℕ) (query : Query) : Type 0 where
  pub ready : IsReady count query
  pub less : AreLess id query
  pub anchor : HasAnchor query
  pub acts : query.action ≡ action

-- the one item of a list
the_one : {X : Type 0} (only x : X) → Contains (only ∷ []) x → only ≡ x
the_one only x c = elim (Contains-push_cases [] only x c)
    [ inl none ↦ absurd (omega (arith, none.1)) | inr is ↦ is ]

-- a query with one positive operand
pub wide_first : (count id : ℕ) (action : Option ℕ) (operand : Operand) (positive : List Operand)
    (negative : List Operand)
    → positive ≡ operand ∷ [] → negative ≡ [] → IsNamed count operand.which
    → operand.after ≡ false → (operand.which ≡ W.Goal → ⊥) → operand.id < id
    → IsWide count id action (record { positive = positive; negative = negative; action = action })
wide_first count id action operand positive negative is none named before set below =
    subst (λ p. IsWide count id action (record
    { positive = p; negative = negative; action = action })) (sym is)
    (subst (λ n. IsWide count id action (record
    { positive = operand ∷ []; negative = n; action = action })) (sym none) made)
  where
    all : (P : Operand → Type 0) → P operand → All P (operand ∷ [])
    all P holds = All-push P [] operand (λ k d within. absurd (omega arith)) holds

    apart : {P : Type 0} (xs : List Operand) (i j : ℕ) (x : Operand) → length xs ≤ 1 → i < j
        → slice_get xs j ≡ Some x → P
    apart xs i j x short less at = let within = slice_get_within xs j x at in absurd (omega arith)

    made : IsWide count id action (record {
      positive = operand
          ∷ [];
      negative = [];
      action = action;
    })
    made = record {
      ready = record {
        named = all (λ o. IsNamed count o.which) named;
        one_set = λ o p c d same. ap (λ (q : Operand). q.which)
            (sym (the_one operand o c) ∙ the_one operand p d);
        before = λ no_action. all (λ o. o.after ≡ false) before;
        positive_rises = λ i j first second less at_i at_j. apart (operand ∷ []) i j second
            (omega arith) less at_j;
        negative_rises = λ i j first second less at_i at_j. apart [] i j second (omega arith) less
            at_j;
      };
      less = all (λ o. o.id < id) below;
      anchor = (operand, (0, omega arith, refl), (before, set));
      acts = refl;
    }

-- one negative operand more
pub wide_more : (count id next : ℕ) (action : Option ℕ) (query new : Query) (operand : Operand)
    → IsWide count id action query
    → operand.id ≡ id → id < next → IsNamed count operand.which
    → (action ≡ None → operand.after ≡ false) → new ≡ with_negative query operand
    → IsWide count next action new
wide_more count id next action query new operand wide same below named before is =
    let less : AreLess operand.id query = subst (λ n. AreLess n query) (sym same) wide.less in
    subst (IsWide count next action) (sym is) record {
      ready = ready_more count query operand wide.ready less named
          (λ none. before (sym wide.acts ∙ none));
      less = less_more count query operand wide.ready less next (omega arith);
      anchor = wide.anchor;
      acts = wide.acts;
    }
