-- Which positive operands have a literal, and what is left of the others.
use Rattle.std.proofs.Common.{◌≡◌, ℕ, ◌+◌, ◌<◌, ◌∙◌, Bool, not, List, Some, slice_get, length}
use Rattle.std.proofs.Common.{get_or, refl, sym, ap, subst, arith, inl, inr}
use Rattle.std.proofs.lemmas.Bool.{cases_lt}
use Rattle.std.proofs.lemmas.List.{get_or_default}
use Rattle.std.proofs.lemmas.Option.{get_or_from_slice_get, slice_get-get_or, slice_get_within}
use Rattle.std.specs.List.{Contains}
use Rattle.hv_task.specs.Strips.{Strips}
use Rattle.hv_sets.specs.declared.literal.Literal.{Literal}
use Rattle.hv_sets.specs.declared.operand.Operand.{Operand}
use Rattle.hv_sets.specs.declared.operand.Which.{Which}
use Rattle.hv_sets.specs.declared.operand.Which.TheVariants as W
use Rattle.hv_sets.specs.Cubes.{opposite}
use Rattle.hv_clauses.specs.declared.literal_owners.SignedOwners.{SignedOwners}
use Rattle.hv_indexes.specs.declared.rows.RowHead.{RowHead}
use Rattle.hv_propagation.specs.Effect.{late}
use Rattle.hv_indexes.specs.Occurrences.{AreOccurrences, SignedRows}
use Rattle.hv_clauses.specs.Working.Owners.{AreSignedOwners, Gains, HasLiteral, IsCodeOfHead}
use Rattle.hv_clauses.specs.Working.Owners.{ListsUpto, Owns, PutsOwner}
use Rattle.hv_clauses.specs.Working.Posed.{ProblemState, formulas}
use Rattle.hv_clauses.specs.Working.Problem.{AreLeft, IsLeft, IsLeftOf}
use Rattle.hv_indexes.specs.Rows.{AreCoded, IsPartOf, code, key_of, place_of_code}
use Rattle.hv_indexes.specs.Signed.{StandsAs}
use Rattle.hv_propagation.specs.Trail.{Knowledge}
use Rattle.hv_propagation.proofs.Chasing.{kept_beyond}
use Rattle.hv_indexes.proofs.Keyed.{code_is, key_of-code, row_from}

-- each atom that stands somewhere with this sign has a head
pub head_of : (sign : Bool) (clauses : List (List Literal)) (signed : SignedRows)
    → AreOccurrences sign clauses signed → (atom place : ℕ) → StandsAs sign clauses atom place
    → (j : ℕ) × (j < length signed.heads)
    × ((d : RowHead) → (get_or signed.heads j d).key ≡ atom)
head_of sign clauses signed are atom place stands =
    let small = are.coded.small atom place stands in
    let own = (are.coded.has (code atom place)).1 (atom, place, refl, small, stands) in
    let found = are.heads.all own.0 own.1 in (
      found.0,
      found.1,
      λ d. found.2 d
          ∙ (ap key_of (get_or_default are.codes own.0 0 (code atom place) own.1 ∙ own.2)
          ∙ key_of-code atom place small),
    )

number_in : Which → ℕ
number_in (W.Set number) = number
number_in W.Empty = 0
number_in W.Start = 0
number_in W.Goal = 0

-- where the codes of the heads of an operand's set were put, its literals were
pub puts_owner : (p : ProblemState) (operand : Operand) (number : ℕ) → operand.which ≡ W.Set number
    → (sign : Bool) (clauses : List (List Literal)) → clauses ≡ formulas p number
    → (signed : SignedRows) → AreOccurrences sign clauses signed → (place : ℕ) (old new :
    List ℕ)
    → Gains (IsCodeOfHead signed.heads place) old new
    → PutsOwner p operand sign place old new
unfolding number_in
puts_owner p operand number which sign clauses same signed are place old new gains = record {
  kept = gains.kept;
  more = λ c of.
      let has = of.1 in
      let one : number ≡ has.number = ap number_in (sym which ∙ has.which) in
      let stands : StandsAs sign clauses of.0 has.place =
      subst (λ cs. StandsAs sign cs of.0 has.place)
      (ap (formulas p) (sym one) ∙ sym same) has.stands in
      let head = head_of sign clauses signed are of.0 has.place stands in
      gains.more c (
        head.0,
        head.1,
        λ d. of.2 ∙ ap (λ key. code key place) (sym (head.2 d)),
      );
}

-- the codes of one operand more
pub lists_upto : (p : ProblemState) (sign : Bool) (k : ℕ) (codes new : List ℕ) (operand : Operand)
    → slice_get p.query.positive k ≡ Some operand → ListsUpto p sign k codes
    → PutsOwner p operand sign k codes new → ListsUpto p sign (k + 1) new
lists_upto p sign k codes new operand here lists puts = λ j atom less owns. elim (cases_lt j k) [
  | inl before ↦ puts.kept (code atom j) (lists j atom before owns)
  | inr after ↦
      let same : j ≡ k = omega arith in
      let at : owns.0 ≡ operand =
      sym (get_or_from_slice_get p.query.positive j owns.0 operand owns.1)
      ∙ get_or_from_slice_get p.query.positive j operand operand
      (ap (slice_get p.query.positive) same ∙ here) in
      puts.more (code atom j) (
        atom,
        subst (λ o. HasLiteral p o (record { atom = atom; positive = sign }))
            at owns.2,
        ap (code atom) same,
      )
]

-- the same of the operand that is in the list
pub codes_more : (p : ProblemState) (sign : Bool) (k : ℕ) (codes new : List ℕ) (xs : List Operand)
    (d : Operand) → xs ≡ p.query.positive → k < length xs → ListsUpto p sign k codes
    → PutsOwner p (get_or xs k d) sign k codes new → ListsUpto p sign (k + 1) new
codes_more p sign k codes new xs d same less lists puts =
    lists_upto p sign k codes new (get_or xs k d)
    (ap (λ os. slice_get os k) (sym same) ∙ slice_get-get_or xs k d less) lists puts

-- the row of an atom has each operand in which it stands
pub row_has : (p : ProblemState) (sign : Bool) (owners : SignedOwners)
    → (are : AreSignedOwners p sign owners) → (atom : ℕ) (part : List ℕ)
    → IsPartOf atom are.codes owners.places.items part → (place : ℕ)
    → Owns p (record { atom = atom; positive = sign }) place → Contains part place
row_has p sign owners are atom part is place owns =
    let within = slice_get_within p.query.positive place owns.0 owns.1 in
    ((row_from Pair are.codes owners.places.items atom part coded is).has place).1
    (are.all place atom within owns, (let few = are.few in omega arith))
  where
    Pair : ℕ → ℕ → Type 0
    Pair key number = Contains are.codes (code key number) × (number < 4294967296)

    coded : AreCoded Pair are.codes owners.places.items
    coded = record {
      rises = are.rises;
      has = λ c. (
        λ has. (
          key_of c,
          place_of_code c,
          code_is c,
          omega arith,
          (subst (Contains are.codes) (code_is c) has, omega arith),
        ),
        λ found. subst (Contains are.codes) (sym found.2) found.4.0,
      );
      small = λ key number pair. pair.1;
      numbers_are = are.places;
    }

module _ (task : Strips) (formulas : ℕ → List (List Literal)) (e : List ℕ) (k : Knowledge)
    (from : ℕ) (literal : Literal) (h : from < length k.trail)
    (at : get_or k.trail from literal ≡ literal) where
  left_beyond : (which : Which) → IsLeft task formulas e which k from
      → ((number place : ℕ) → which ≡ W.Set number
      → StandsAs (not literal.positive) (formulas number) literal.atom place
      → IsLeft task formulas e which k (from + 1))
      → IsLeft task formulas e which k (from + 1)
  left_beyond W.Empty left seen = left
  left_beyond W.Start left seen = left
  left_beyond W.Goal left seen = left
  left_beyond (W.Set number) left seen =
      kept_beyond e (formulas number) k from literal h at left
      (λ place less has. seen number place refl (record { among = less; has = has }) place less)

-- where only the operands that have the opposite of the literal at a place of the trail are
-- followed up, nothing more than what comes from the next place on is left
pub owners_left : (p : ProblemState) (k : Knowledge) (from : ℕ) (literal : Literal)
    → from < length k.trail → get_or k.trail from literal ≡ literal → AreLeft p k from
    → (row : List ℕ)
    → ((place : ℕ) → Owns p (opposite literal) place → Contains row place)
    → ((i : ℕ) → i < length row → (o : Operand)
    → slice_get p.query.positive (get_or row i 0) ≡ Some o → IsLeftOf p o k (from + 1))
    → AreLeft p k (from + 1)
owners_left p k from literal h at left row whole seen = λ j d less.
    let o = get_or p.query.positive j d in
    let here : slice_get p.query.positive j ≡ Some o = slice_get-get_or p.query.positive j d less in
    left_beyond p.task (formulas p) (late p.effect o.after) k from literal h at o.which
    (left j d less)
    (λ number place which stands.
    let in_row = whole j (
      o,
      here,
      record { number = number; which = which; place = place; stands = stands },
    ) in
    seen in_row.0 in_row.1 o
    (ap (slice_get p.query.positive) (get_or_default row in_row.0 0 j in_row.1 ∙ in_row.2) ∙ here))
