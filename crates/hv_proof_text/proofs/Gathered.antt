-- Lists that are gathered field by field: how reading begins, goes on, stops and ends.
use Rattle.std.proofs.Common.{◌≡◌, ◌<◌, ◌^◌, ℕ, ◌∙◌, List, [], ◌∷◌, ◌++◌, map, length, Option}
use Rattle.std.proofs.Common.{Some, None, MatchOption, decimal, refl, sym, ap, subst, append_assoc}
use Rattle.std.proofs.Common.{◌≤◌, arith, eqb, length-append}
use Rattle.std.proofs.lemmas.List.{append-nil, length-map, map-append}
use Rattle.std.proofs.lemmas.List.Elements.{All-nil, All-cons, All-push, All-head, All-tail}
use Rattle.std.proofs.lemmas.List.Splits.{length-slice_split}
use Rattle.std.specs.List.{All}
use Rattle.hv_proof_text.specs.Working.Gathering.{BeginsWithCount, Gathers, ReadsToken, StandFor}
use Rattle.hv_proof_text.specs.Working.Gathering.{StopsAtToken}
use Rattle.hv_bytes.specs.Fields.{cut_fields}
use Rattle.hv_proof_text.specs.Working.Tokens.{AreTokens, IsToken, field_of, number}
use Rattle.hv_proof_text.specs.declared.token.Token.{Token}
use Rattle.hv_proof_text.proofs.Decoding.{same_tokens}

pub gathers_more : {A : Type 0} (whole left more : List Token → A)
    (fields rest later : List (List ℕ)) (token : Token)
    → Gathers whole fields left rest → IsToken token → rest ≡ field_of token ∷ later
    → ReadsToken left token more → Gathers whole fields more later
gathers_more whole left more fields rest later token so_far short first reads =
    let done = so_far.0 in (
      done ++ token ∷ [],
      All-push IsToken done token so_far.1 short,
      ap (λ fs. fs ++ later) (map-append field_of done (token ∷ []))
          ∙ append_assoc (map field_of done) (field_of token ∷ []) later
          ∙ ap (λ fs. map field_of done ++ fs) (sym first)
          ∙ so_far.2,
      λ tokens. ap whole (append_assoc done (token ∷ []) tokens) ∙ so_far.3 (token ∷ tokens)
          ∙ reads tokens,
    )

one_injective : {A : Type 0} {x y : A} → x ∷ [] ≡ y ∷ [] → x ≡ y
one_injective e = cc

pub same_first : {A : Type 0} {x y : A} {xs ys : List A} → x ∷ xs ≡ y ∷ ys → (x ≡ y) × (xs ≡ ys)
same_first e = (cc, cc)

-- two tokens of one field are one
pub same_token : (x y : Token) → IsToken x → IsToken y → field_of x ≡ field_of y → x ≡ y
same_token x y left right e =
    one_injective
    (same_tokens (x ∷ []) (y ∷ []) (All-cons IsToken x [] left (All-nil IsToken))
    (All-cons IsToken y [] right (All-nil IsToken))
    (ap (λ f. f ∷ []) e))

-- the tokens of fields begin with those of the first fields
split_tokens : (done tokens : List Token) (field : List ℕ) (later : List (List ℕ))
    → All IsToken done → All IsToken tokens
    → map field_of tokens ≡ map field_of done ++ field ∷ later
    → (token : Token) × (more : List Token) × (tokens ≡ done ++ token ∷ more) × IsToken token
    × (field_of token ≡ field)
split_tokens [] [] field later left right e = absurd (cc)
split_tokens [] (token ∷ tokens) field later left right e =
    (token, tokens, refl, All-head IsToken token tokens right, (same_first e).0)
split_tokens (d ∷ done) [] field later left right e = absurd (cc)
split_tokens (d ∷ done) (t ∷ tokens) field later left right e =
    let parts = same_first e in
    let behind =
    split_tokens done tokens field later (All-tail IsToken d done left)
    (All-tail IsToken t tokens right) parts.1 in
    let same = same_token t d (All-head IsToken t tokens right) (All-head IsToken d done left)
    parts.0 in (
      behind.0,
      behind.1,
      ap (λ x. x ∷ tokens) same ∙ ap (λ ts. d ∷ ts) behind.2,
      behind.3,
      behind.4,
    )

none_and_some : {A : Type 0} {o : Option A} {x : A} → o ≡ None → o ≡ Some x → ⊥
none_and_some none some = cc

module _ {A : Type 0} (whole left : List Token → Option A) (fields rest : List (List ℕ))
    (P : A → List Token → Type 0)
    (so_far : Gathers whole fields left rest)
    (only : (tokens : List Token) (x : A) → P x tokens → whole tokens ≡ Some x) where
  -- where a token can't be read, the fields denote nothing
  pub gathers_stop : (token : Token) (later : List (List ℕ)) → IsToken token
      → rest ≡ field_of token ∷ later → StopsAtToken left token
      → (x : A) → StandFor (P x) fields → ⊥
  gathers_stop token later short first stops x stand =
      let done = so_far.0 in
      let split =
      split_tokens done stand.0 (field_of token) later so_far.1 stand.1.each
      (stand.1.same ∙ sym so_far.2 ∙ ap (λ fs. map field_of done ++ fs) first) in
      let none =
      ap whole split.2 ∙ so_far.3 (split.0 ∷ split.1)
      ∙ ap (λ t. left (t ∷ split.1)) (same_token split.0 token split.3 short split.4)
      ∙ stops split.1 in
      none_and_some none (only stand.0 x stand.2)

  -- at the end, what is left is what the fields denote
  pub gathers_end : (found : Option A) → rest ≡ []
      → MatchOption found (left [] ≡ None) (λ x. left [] ≡ Some x)
      → ((tokens : List Token) (x : A) → whole tokens ≡ Some x → P x tokens)
      → MatchOption found ((x : A) → StandFor (P x) fields → ⊥) (λ x. StandFor (P x) fields)
  gathers_end (Some x) none is finds =
      let done = so_far.0 in
      let same = sym (append-nil (map field_of done))
      ∙ ap (λ fs. map field_of done ++ fs) (sym none) ∙ so_far.2 in (
        done,
        record { each = so_far.1; same = same },
        finds done x
            (ap whole (sym (append-nil done)) ∙ so_far.3 [] ∙ is),
      )
  gathers_end None none is finds = λ x stand.
      let done = so_far.0 in
      let same = sym (append-nil (map field_of done))
      ∙ ap (λ fs. map field_of done ++ fs) (sym none) ∙ so_far.2 in
      let tokens = same_tokens stand.0 done stand.1.each so_far.1 (stand.1.same ∙ sym same) in
      none_and_some (ap whole tokens ∙ ap whole (sym (append-nil done)) ∙ so_far.3 [] ∙ is)
      (only stand.0 x stand.2)

-- the tokens behind the first one denote the fields behind the first one
pub tokens_behind : (token : Token) (tokens : List Token) (fields later : List (List ℕ))
    (field : List ℕ)
    → AreTokens (token ∷ tokens) fields → fields ≡ field ∷ later → AreTokens tokens later
tokens_behind token tokens fields later field are first = record {
  each = All-tail IsToken token tokens are.each;
  same = (same_first (are.same ∙ first)).1;
}

-- tokens begin with that of the first field
pub peel : (tokens : List Token) (token : Token) (fields : List (List ℕ)) → IsToken token
    → AreTokens tokens (field_of token ∷ fields)
    → (more : List Token) × (tokens ≡ token ∷ more) × AreTokens more fields
peel [] token fields short are = absurd (let e = are.same in cc)
peel (x ∷ tokens) token fields short are =
    let parts = same_first are.same in (
      tokens,
      ap (λ y. y ∷ tokens) (same_token x token (All-head IsToken x tokens are.each) short parts.0),
      record { each = All-tail IsToken x tokens are.each; same = parts.1 },
    )

-- a count of which the right list comes behind, or no list
module _ {A : Type 0} (P : A → List Token → Type 0) (size : A → ℕ) (fields later : List (List ℕ))
    (count : ℕ) (short : count < 10 ^ 18)
    (first : fields ≡ decimal count ∷ later) where
  pub counted_some : (x : A) → StandFor (P x) later → size x ≡ count
      → StandFor (BeginsWithCount (P x) (size x)) fields
  counted_some x stand same = (
    number count ∷ stand.0,
    record {
      each = All-cons IsToken (number count) stand.0 short stand.1.each;
      same = ap (λ fs. decimal count ∷ fs) stand.1.same ∙ sym first;
    },
    (stand.0, ap (λ n. number n ∷ stand.0) (sym same), stand.2),
  )

  counted_behind : (x : A) → StandFor (BeginsWithCount (P x) (size x)) fields
      → (size x ≡ count) × StandFor (P x) later
  counted_behind x stand =
      let behind = peel stand.0 (number count) later short
      (subst (AreTokens stand.0) first stand.1) in
      let same = same_numbers (sym stand.2.1 ∙ behind.1) in
      (same.0, (behind.0, behind.2, subst (P x) same.1 stand.2.2))
    where
      same_numbers : {m n : ℕ} {xs ys : List Token} → number m ∷ xs ≡ number n ∷ ys
          → (m ≡ n) × (xs ≡ ys)
      same_numbers e = (cc, cc)

  pub counted_never : ((x : A) → StandFor (P x) later → ⊥) → (x : A)
      → StandFor (BeginsWithCount (P x) (size x)) fields → ⊥
  counted_never never x stand = never x (counted_behind x stand).1

  pub counted_other : ((x y : A) (tokens : List Token) → P x tokens → P y tokens → x ≡ y) → (x : A)
      → StandFor (P x) later
      → (size x ≡ count → ⊥) → (y : A) → StandFor (BeginsWithCount (P y) (size y)) fields → ⊥
  counted_other one x stand other y stand_y =
      let behind = counted_behind y stand_y in
      let tokens = same_tokens behind.1.0 stand.0 behind.1.1.each stand.1.each
      (behind.1.1.same ∙ sym stand.1.same) in
      other (ap size (one x y stand.0 stand.2 (subst (P y) tokens behind.1.2)) ∙ behind.0)

-- tokens that are read to the end denote all fields
pub gathers_tokens : (items : List Token) (fields rest : List (List ℕ))
    → Gathers (λ ts. ts) fields (λ ts. items ++ ts) rest → rest ≡ []
    → AreTokens items fields
gathers_tokens items fields rest so_far none =
    let done = so_far.0 in
    let same : done ≡ items = sym (append-nil done) ∙ so_far.3 [] ∙ append-nil items in
    let spelled = sym (append-nil (map field_of done))
    ∙ ap (λ fs. map field_of done ++ fs) (sym none) ∙ so_far.2 in
    subst (λ ts. AreTokens ts fields) same (record { each = so_far.1; same = spelled })

-- a line has a first field
pub has_first : (line : List ℕ)
    → (first : List ℕ) × (later : List (List ℕ)) × (cut_fields line ≡ first ∷ later)
has_first line = first_of (cut_fields line) (omega (arith, length-slice_split (λ b. eqb b 32) line))
  where
    first_of : (fields : List (List ℕ)) → 0 < length fields
        → (first : List ℕ) × (later : List (List ℕ)) × (fields ≡ first ∷ later)
    first_of [] some = absurd (omega arith)
    first_of (first ∷ later) some = (first, later, refl)

-- where what is left begins with no token, the fields denote no tokens
pub gathers_no_token : {A : Type 0} (whole left : List Token → A) (fields rest : List (List ℕ))
    → Gathers whole fields left rest → (line : List ℕ) → rest ≡ cut_fields line
    → ((token : Token) (later : List (List ℕ)) → IsToken token
    → cut_fields line ≡ field_of token ∷ later → ⊥)
    → (tokens : List Token) → AreTokens tokens fields → ⊥
gathers_no_token whole left fields rest so_far line behind never tokens are =
    let first = has_first line in
    let split =
    split_tokens so_far.0 tokens first.0 first.1 so_far.1 are.each
    (are.same ∙ sym so_far.2
    ∙ ap (λ fs. map field_of so_far.0 ++ fs) (behind ∙ first.2)) in
    never split.0 first.1 split.3 (first.2 ∙ ap (λ f. f ∷ first.1) (sym split.4))

-- where two tokens are read and a field is left, the fields denote no two tokens
pub gathers_too_many : (items : List Token) (fields rest : List (List ℕ))
    → Gathers (λ ts. ts) fields (λ ts. items ++ ts) rest → (line : List ℕ) → rest ≡ cut_fields line
    → length items ≡ 2 → (tokens : List Token) → length tokens ≤ 2 → AreTokens tokens fields → ⊥
gathers_too_many items fields rest so_far line behind two tokens few are =
    let done = so_far.0 in
    let same : done ≡ items = sym (append-nil done) ∙ so_far.3 [] ∙ append-nil items in
    let first = has_first line in
    omega (
      arith,
      two,
      few,
      ap length same,
      ap length (are.same ∙ sym so_far.2),
      length-append (map field_of done) rest,
      length-map done field_of,
      length-map tokens field_of,
      ap length (behind ∙ first.2),
    )
