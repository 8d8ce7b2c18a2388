-- Claims by their fields: what is read of them is the one that the fields stand for.
use Rattle.std.proofs.Common.{◌≡◌, ◌<◌, ◌^◌, ℕ, ◌∙◌, List, [], ◌∷◌, ◌++◌, length, map, Option, Some}
use Rattle.std.proofs.Common.{None, MatchOption, decimal, refl, sym, ap, subst}
use Rattle.std.proofs.lemmas.List.{map-append}
use Rattle.std.proofs.lemmas.List.Elements.{All-nil, All-cons, All-append, All-head, All-tail}
use Rattle.std.specs.List.{All}
use Rattle.hv_bytes.specs.Fields.{cut_fields}
use Rattle.hv_lines.specs.Spelling.{premises_of, word_field}
use Rattle.hv_lines.specs.declared.line.Line.{Line}
use Rattle.hv_lines.specs.declared.line.Line.TheVariants as N
use Rattle.hv_lines.specs.declared.line.Statement.{Statement}
use Rattle.hv_lines.specs.declared.line.Statement.TheVariants as S
use Rattle.hv_lines.specs.declared.line.Word.{Word}
use Rattle.hv_proof_text.specs.declared.token.Letter.{Letter}
use Rattle.hv_proof_text.specs.declared.token.Letter.TheVariants as L
use Rattle.hv_proof_text.specs.declared.token.Token.{Token}
use Rattle.hv_proof_text.specs.declared.token.Token.TheVariants as T
use Rattle.hv_proof_text.specs.Working.Forms.{ClaimForm, LineForm, ReadsClaim, SupportForm}
use Rattle.hv_proof_text.specs.Working.Gathering.{StandFor}
use Rattle.hv_proof_text.specs.Working.Tokens.{AreTokens, IsToken, field_of, number}
use Rattle.hv_proof_text.proofs.Counted.{one_of, three_of, two_of}
use Rattle.hv_proof_text.proofs.Gathered.{has_first, peel, same_first, same_token}
use Rattle.hv_proof_text.proofs.Gathered.{tokens_behind}

-- a line has more fields than no token denotes
pub more_fields : (line : List ℕ) → AreTokens [] (cut_fields line) → ⊥
more_fields line are =
    let first = has_first line in
    let same = are.same in
    let more = first.2 in cc

-- where a number comes first, a second thing can't be read of what is behind it
pub behind_number : (m n : ℕ) (tokens : List Token) (fields later : List (List ℕ))
    → fields ≡ decimal m ∷ later → AreTokens (number n ∷ tokens) fields → AreTokens tokens later
behind_number m n tokens fields later first are =
    tokens_behind (number n) tokens fields later (decimal m) are first

-- what is read of premises, by their number

one_premises : (fields : List (List ℕ)) (found : Option (List ℕ))
    → MatchOption found ((n : ℕ) → AreTokens (number n ∷ []) fields → ⊥)
    (λ premises. (length premises ≡ 1) × AreTokens (map number premises) fields)
    → MatchOption found
    ((premises : List ℕ) → length premises ≡ 1 → AreTokens (map number premises) fields → ⊥)
    (λ premises. (length premises ≡ 1) × AreTokens (map number premises) fields)
one_premises fields (Some premises) found = found
one_premises fields None never = λ premises size are.
    let one = one_of premises size in
    never one.0 (subst (λ ps. AreTokens (map number ps) fields) one.1 are)

two_premises : (fields : List (List ℕ)) (found : Option (List ℕ))
    → MatchOption found ((m n : ℕ) → AreTokens (number m ∷ number n ∷ []) fields → ⊥)
    (λ premises. (length premises ≡ 2) × AreTokens (map number premises) fields)
    → MatchOption found
    ((premises : List ℕ) → length premises ≡ 2 → AreTokens (map number premises) fields → ⊥)
    (λ premises. (length premises ≡ 2) × AreTokens (map number premises) fields)
two_premises fields (Some premises) found = found
two_premises fields None never = λ premises size are.
    let two = two_of premises size in
    never two.0 two.1 (subst (λ ps. AreTokens (map number ps) fields) two.2 are)

three_premises : (fields : List (List ℕ)) (found : Option (List ℕ))
    → MatchOption found
    ((l m n : ℕ) → AreTokens (number l ∷ number m ∷ number n ∷ []) fields → ⊥)
    (λ premises. (length premises ≡ 3) × AreTokens (map number premises) fields)
    → MatchOption found
    ((premises : List ℕ) → length premises ≡ 3 → AreTokens (map number premises) fields → ⊥)
    (λ premises. (length premises ≡ 3) × AreTokens (map number premises) fields)
three_premises fields (Some premises) found = found
three_premises fields None never = λ premises size are.
    let three = three_of premises size in
    never three.0 three.1 three.2 (subst (λ ps. AreTokens (map number ps) fields) three.3 are)

-- what is found of premises of which there are to be so many
abbrev Premised : ℕ → List (List ℕ) → Option (List ℕ) → Type 0
Premised count fields found = MatchOption found
    ((premises : List ℕ) → length premises ≡ count → AreTokens (map number premises) fields → ⊥)
    (λ premises. (length premises ≡ count) × AreTokens (map number premises) fields)

pub premised_one : (fields : List (List ℕ)) (found : Option (List ℕ)) (count : ℕ) → count ≡ 1
    → MatchOption found ((n : ℕ) → AreTokens (number n ∷ []) fields → ⊥)
    (λ premises. (length premises ≡ 1) × AreTokens (map number premises) fields)
    → Premised count fields found
premised_one fields found count e is =
    subst (λ k. Premised k fields found) (sym e) (one_premises fields found is)

pub premised_two : (fields : List (List ℕ)) (found : Option (List ℕ)) (count : ℕ) → count ≡ 2
    → MatchOption found ((m n : ℕ) → AreTokens (number m ∷ number n ∷ []) fields → ⊥)
    (λ premises. (length premises ≡ 2) × AreTokens (map number premises) fields)
    → Premised count fields found
premised_two fields found count e is =
    subst (λ k. Premised k fields found) (sym e) (two_premises fields found is)

pub premised_three : (fields : List (List ℕ)) (found : Option (List ℕ)) (count : ℕ) → count ≡ 3
    → MatchOption found
    ((l m n : ℕ) → AreTokens (number l ∷ number m ∷ number n ∷ []) fields → ⊥)
    (λ premises. (length premises ≡ 3) × AreTokens (map number premises) fields)
    → Premised count fields found
premised_three fields found count e is =
    subst (λ k. Premised k fields found) (sym e) (three_premises fields found is)

-- a word and its premises

module _ (statement : Statement) (fields later : List (List ℕ)) (word : Word)
    (first : fields ≡ word_field word ∷ later) where
  -- what stands for the fields begins with the word
  worded : (other : Word) (premises : List ℕ)
      → StandFor (λ ts. SupportForm statement ts other premises) fields
      → (other ≡ word) × AreTokens (map number premises) later
      × (premises_of statement word ≡ Some (length premises))
  worded other premises stand =
      let behind = peel stand.0 (T.Word word) later tt
      (subst (AreTokens stand.0) first stand.1) in
      let same = parted (sym stand.2.0 ∙ behind.1) in (
        same.0,
        subst (λ ts. AreTokens ts later) (sym same.1) behind.2,
        subst (λ w. premises_of statement w ≡ Some (length premises)) same.0 stand.2.1,
      )
    where
      parted : {v w : Word} {xs ys : List Token} → T.Word v ∷ xs ≡ T.Word w ∷ ys
          → (v ≡ w) × (xs ≡ ys)
      parted e = (cc, cc)

  pub not_premises : (count : ℕ) → premises_of statement word ≡ Some count
      → ((premises : List ℕ) → length premises ≡ count → AreTokens (map number premises) later → ⊥)
      → (other : Word) (premises : List ℕ)
      → StandFor (λ ts. SupportForm statement ts other premises) fields → ⊥
  not_premises count is never other premises stand =
      let parts = worded other premises stand in
      let size = parts.2 in
      let same : length premises ≡ count = cc in
      never premises same parts.1

-- statements

pub sub_read : (fields later : List (List ℕ)) (left right : ℕ) → left < 10 ^ 18 → right < 10 ^ 18
    → fields ≡ decimal left ∷ decimal right ∷ later
    → ReadsClaim L.S fields (S.Sub left right) later
sub_read fields later left right small small_too first = (
  number left ∷ number right ∷ [],
  All-cons IsToken (number left) (number right ∷ []) small
      (All-cons IsToken (number right) [] small_too (All-nil IsToken)),
  sym first,
  λ tokens. (left, right, refl, refl),
)

pub act_read : (fields later : List (List ℕ)) (left right : ℕ) → left < 10 ^ 18 → right < 10 ^ 18
    → fields ≡ decimal left ∷ decimal right ∷ later
    → ReadsClaim L.A fields (S.ActSub left right) later
act_read fields later left right small small_too first = (
  number left ∷ number right ∷ [],
  All-cons IsToken (number left) (number right ∷ []) small
      (All-cons IsToken (number right) [] small_too (All-nil IsToken)),
  sym first,
  λ tokens. (left, right, refl, refl),
)

pub dead_read : (fields later : List (List ℕ)) (set : ℕ) → set < 10 ^ 18
    → fields ≡ decimal set ∷ later → ReadsClaim L.D fields (S.Dead set) later
dead_read fields later set small first = (
  number set ∷ [],
  All-cons IsToken (number set) [] small (All-nil IsToken),
  sym first,
  λ tokens. (set, refl, refl),
)

two_same : {l r m n : ℕ} {xs ys : List Token}
    → number l ∷ number r ∷ xs ≡ number m ∷ number n ∷ ys → (l ≡ m) × (r ≡ n) × (xs ≡ ys)
two_same e = (cc, cc, cc)

one_same : {m n : ℕ} {xs ys : List Token} → number m ∷ xs ≡ number n ∷ ys → (m ≡ n) × (xs ≡ ys)
one_same e = (cc, cc)

-- tokens have one claim
one_claim : (kind : Letter) (tokens : List Token) (one other : Statement) (xs ys : List Token)
    → ClaimForm kind tokens one xs → ClaimForm kind tokens other ys → (one ≡ other) × (xs ≡ ys)
one_claim L.S tokens one other xs ys left right =
    let same = two_same (sym left.2 ∙ right.2) in (
      left.3 ∙ ap (λ n. S.Sub n left.1) same.0 ∙ ap (λ n. S.Sub right.0 n) same.1 ∙ sym right.3,
      same.2,
    )
one_claim L.A tokens one other xs ys left right =
    let same = two_same (sym left.2 ∙ right.2) in (
      left.3 ∙ ap (λ n. S.ActSub n left.1) same.0 ∙ ap (λ n. S.ActSub right.0 n) same.1
          ∙ sym right.3,
      same.2,
    )
one_claim L.D tokens one other xs ys left right =
    let same = one_same (sym left.1 ∙ right.1) in
    (left.2 ∙ ap (λ n. S.Dead n) same.0 ∙ sym right.2, same.1)
one_claim L.U tokens one other xs ys left right =
    (left.1 ∙ sym right.1, sym left.0 ∙ right.0)
one_claim _ tokens one other xs ys left right = absurd left

-- tokens of fields begin with those of the first fields
split_done : (done tokens : List Token) (later : List (List ℕ)) → All IsToken done
    → All IsToken tokens → map field_of tokens ≡ map field_of done ++ later
    → (more : List Token) × (tokens ≡ done ++ more) × AreTokens more later
split_done [] tokens later left right e = (tokens, refl, record { each = right; same = e })
split_done (d ∷ done) [] later left right e = absurd (cc)
split_done (d ∷ done) (t ∷ tokens) later left right e =
    let parts = same_first e in
    let behind =
    split_done done tokens later (All-tail IsToken d done left) (All-tail IsToken t tokens right)
    parts.1 in
    let same = same_token t d (All-head IsToken t tokens right) (All-head IsToken d done left)
    parts.0 in
    (behind.0, ap (λ x. x ∷ tokens) same ∙ ap (λ ts. d ∷ ts) behind.1, behind.2)

-- whole lines

module _ (id : ℕ) (kind : Letter) (fields later : List (List ℕ)) (statement : Statement)
    (reads : ReadsClaim kind fields statement later) where
  pub no_support : ((word : Word) (premises : List ℕ)
      → StandFor (λ ts. SupportForm statement ts word premises) later → ⊥)
      → (line : Line) → StandFor (λ ts. LineForm L.K id kind ts line) fields → ⊥
  no_support never line stand =
      let form = stand.2 in
      let split = split_done reads.0 stand.0 later reads.1 stand.1.each
      (stand.1.same ∙ sym reads.2) in
      let claim = subst (λ ts. ClaimForm kind ts form.0 form.1) split.1 form.4 in
      let same = one_claim kind (reads.0 ++ split.0) form.0 statement form.1 split.0 claim
      (reads.3 split.0) in
      let support = subst (λ ts. SupportForm form.0 ts form.2 form.3) same.1 form.5 in
      never form.2 form.3 (
        split.0,
        split.2,
        subst (λ s. SupportForm s split.0 form.2 form.3) same.0 support,
      )

  pub known : (word : Word) (premises : List ℕ)
      → StandFor (λ ts. SupportForm statement ts word premises) later
      → StandFor (λ ts. LineForm L.K id kind ts (N.Known id statement word premises)) fields
  known word premises stand = (
    reads.0 ++ stand.0,
    record {
      each = All-append IsToken reads.0 stand.0 reads.1 stand.1.each;
      same = map-append field_of reads.0 stand.0
          ∙ ap (λ fs. map field_of reads.0 ++ fs) stand.1.same ∙ reads.2;
    },
    (statement, stand.0, word, premises, reads.3 stand.0, stand.2, refl),
  )
