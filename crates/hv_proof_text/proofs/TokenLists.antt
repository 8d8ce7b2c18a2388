-- Lists of tokens read from the prefix: rising numbers, states and clauses.
use Rattle.std.proofs.Common.{◌≡◌, ℕ, ◌+◌, ◌-◌, ◌<◌, ◌≤◌, ◌^◌, ◌∙◌, ◌⊎◌, inl, inr, ◌&&◌, Bool, true}
use Rattle.std.proofs.Common.{false, cond, eqb, ltb, leb, List, [], ◌∷◌, ◌++◌, map, Option, Some}
use Rattle.std.proofs.Common.{None, refl, sym, ap, arith, subst, append_assoc}
use Rattle.std.proofs.lemmas.Bool.{ltb-true, leb-true, lt-ltb, le-leb, eqb-true, eqb-false, ne_eqb}
use Rattle.std.proofs.lemmas.Bool.{and_parts}
use Rattle.std.proofs.lemmas.List.{append-nil, map-append}
use Rattle.std.proofs.lemmas.List.Concat.{flat_map-append}
use Rattle.std.proofs.lemmas.List.Elements.{All-nil, All-push, All-head, All-tail}
use Rattle.std.specs.List.{All, flat_map}
use Rattle.hv_sets.specs.declared.literal.Literal.{Literal}
use Rattle.hv_lines.specs.Spelling.{FitsShortDecimal, FitsLiteral, IsRising}
use Rattle.hv_proof_text.specs.Working.Gathering.{numbers_from, rising_next, states_from}
use Rattle.hv_proof_text.specs.Working.Gathering.{states_next, clauses_from, clauses_next}
use Rattle.hv_proof_text.specs.Working.Pieces.{state_piece, clause_piece}
use Rattle.hv_proof_text.specs.Working.Tokens.{AreRisingNumbers, AreClauseTokens, AreStateTokens}
use Rattle.hv_proof_text.specs.Working.Tokens.{number, literal_token, clause_tokens, state_tokens}
use Rattle.hv_proof_text.specs.declared.lists.ClausePiece.{ClausePiece}
use Rattle.hv_proof_text.specs.declared.lists.ClausePiece.TheVariants as P
use Rattle.hv_proof_text.specs.declared.lists.StatePiece.{StatePiece}
use Rattle.hv_proof_text.specs.declared.lists.StatePiece.TheVariants as Q
use Rattle.hv_proof_text.specs.declared.token.Token.{Token}
use Rattle.hv_proof_text.specs.declared.token.Token.TheVariants as T
use Rattle.hv_proof_text.proofs.Rising.{RisesFrom, rising_from, from_rising}

-- Pieces of states.

atom_piece : (least n : ℕ) → least ≤ n → FitsShortDecimal n
    → state_piece least (number n) ≡ Q.Atom n
atom_piece least n from short =
    let a : leb least n ≡ true = le-leb least n from in
    let b : ltb n (10 ^ 9) ≡ true = lt-ltb n (10 ^ 9) short in
    rw (a, b)

number_of_atom : (b : Bool) (m n : ℕ) → cond b (Q.Atom m) Q.Other ≡ Q.Atom n → (b ≡ true) × (m ≡ n)
number_of_atom true m n e = (refl, cc)
number_of_atom false m n e = absurd (cc)

pub piece_atom : (least n : ℕ) (token : Token) → state_piece least token ≡ Q.Atom n
    → (token ≡ number n) × (least ≤ n) × FitsShortDecimal n
piece_atom least n (T.Number m) e =
    let h = number_of_atom (leb least m && ltb m (10 ^ 9)) m n e in
    let parts = and_parts (leb least m) (ltb m (10 ^ 9)) h.0 in
    let from = leb-true least m parts.0 in
    let short = ltb-true m (10 ^ 9) parts.1 in
    let same = h.1 in
    (ap (λ k. T.Number k) h.1, omega arith, omega arith)
piece_atom least n (T.Letter l) e = absurd (cc)
piece_atom least n (T.Word w) e = absurd (cc)
piece_atom least n (T.Minus m) e = absurd (cc)
piece_atom least n T.End e = absurd (cc)

number_no_end : (b : Bool) (m : ℕ) → cond b (Q.Atom m) Q.Other ≡ Q.End → ⊥
number_no_end true m e = cc
number_no_end false m e = cc

piece_end : (least : ℕ) (token : Token) → state_piece least token ≡ Q.End → token ≡ T.End
piece_end least (T.Number m) e = absurd (number_no_end (leb least m && ltb m (10 ^ 9)) m e)
piece_end least (T.Letter l) e = absurd (cc)
piece_end least (T.Word w) e = absurd (cc)
piece_end least (T.Minus m) e = absurd (cc)
piece_end least T.End e = refl

pub no_atom : (piece : StatePiece) (n : ℕ) → (piece ≡ Q.End) ⊎ (piece ≡ Q.Other) → piece ≡ Q.Atom n
    → ⊥
no_atom (Q.Atom m) n other e = elim other [ inl end ↦ cc | inr none ↦ cc ]
no_atom Q.End n other e = cc
no_atom Q.Other n other e = cc

-- Rising numbers.

pub rising_stop : (piece : StatePiece) (go : ℕ → Option (List ℕ)) → ((n : ℕ) → piece ≡ Q.Atom n → ⊥)
    → rising_next piece go ≡ None
rising_stop (Q.Atom n) go never = absurd (never n refl)
rising_stop Q.End go never = refl
rising_stop Q.Other go never = refl

numbers_out : (rest done : List ℕ) (least : ℕ) → RisesFrom least rest
    → numbers_from done least (map number rest) ≡ Some (done ++ rest)
numbers_out [] done least r = ap (λ l. Some l) (sym (append-nil done))
numbers_out (n ∷ rest) done least r =
    ap (λ piece. rising_next piece (λ n. numbers_from (done ++ n ∷ []) (n + 1) (map number rest)))
    (atom_piece least n r.0 r.1)
    ∙ numbers_out rest (done ++ n ∷ []) (n + 1) r.2
    ∙ ap (λ l. Some l) (append_assoc done (n ∷ []) rest)

rising_some : (piece : StatePiece) (go : ℕ → Option (List ℕ)) (xs : List ℕ)
    → rising_next piece go ≡ Some xs
    → (n : ℕ) × (piece ≡ Q.Atom n) × (go n ≡ Some xs)
rising_some (Q.Atom n) go xs e = (n, refl, e)
rising_some Q.End go xs e = absurd (cc)
rising_some Q.Other go xs e = absurd (cc)

numbers_in : (tokens : List Token) (done : List ℕ) (least : ℕ) (xs : List ℕ)
    → numbers_from done least tokens ≡ Some xs
    → (rest : List ℕ) × (xs ≡ done ++ rest) × RisesFrom least rest × (map number rest ≡ tokens)
numbers_in [] done least xs e =
    let same : done ≡ xs = cc in ([], sym same ∙ sym (append-nil done), tt, refl)
numbers_in (token ∷ tokens) done least xs e =
    let some = rising_some (state_piece least token)
    (λ n. numbers_from (done ++ n ∷ []) (n + 1) tokens) xs e in
    let n = some.0 in
    let atom = piece_atom least n token some.1 in
    let later = numbers_in tokens (done ++ n ∷ []) (n + 1) xs some.2 in (
      n ∷ later.0,
      later.1 ∙ append_assoc done (n ∷ []) later.0,
      (atom.1, atom.2, later.2),
      ap (λ t. t ∷ map number later.0) (sym atom.0) ∙ ap (λ ts. token ∷ ts) later.3,
    )

pub numbers_found : (tokens : List Token) (xs : List ℕ) → numbers_from [] 0 tokens ≡ Some xs
    → AreRisingNumbers xs tokens
numbers_found tokens xs e =
    let h = numbers_in tokens [] 0 xs e in
    record {
      rising = rising_from xs (subst (RisesFrom 0) (sym h.1) h.2);
      same = ap (map number) h.1
          ∙ h.3;
    }

pub numbers_only : (tokens : List Token) (xs : List ℕ) → AreRisingNumbers xs tokens
    → numbers_from [] 0 tokens ≡ Some xs
numbers_only tokens xs are =
    ap (numbers_from [] 0) (sym are.same) ∙ numbers_out xs [] 0 (from_rising xs are.rising)

-- States.

state_out : (rest state : List ℕ) (least : ℕ) (all : List (List ℕ)) (tokens : List Token)
    → RisesFrom least rest
    → states_from all state least (state_tokens rest ++ tokens)
    ≡ states_from (all ++ (state ++ rest) ∷ []) [] 0 tokens
state_out [] state least all tokens r = ap
    (λ s. states_from (all ++ s ∷ []) [] 0 tokens) (sym (append-nil state))
state_out (n ∷ rest) state least all tokens r =
    ap (λ p. states_next p all state (λ a s l. states_from a s l (state_tokens rest ++ tokens)))
    (atom_piece least n r.0 r.1)
    ∙ state_out rest (state ++ n ∷ []) (n + 1) all tokens r.2
    ∙ ap (λ s. states_from (all ++ s ∷ []) [] 0 tokens) (append_assoc state (n ∷ []) rest)

states_out : (states all : List (List ℕ)) → All IsRising states
    → states_from all [] 0 (flat_map state_tokens states) ≡ Some (all ++ states)
states_out [] all each = ap (λ l. Some l) (sym (append-nil all))
states_out (state ∷ states) all each =
    state_out state [] 0 all (flat_map state_tokens states)
    (from_rising state (All-head IsRising state states each))
    ∙ states_out states (all ++ state ∷ []) (All-tail IsRising state states each)
    ∙ ap (λ l. Some l) (append_assoc all (state ∷ []) states)

-- a state that is begun rises, however it goes on
abbrev pub GoesOn : List ℕ → ℕ → Type 0
GoesOn state least = (rest : List ℕ) → RisesFrom least rest → RisesFrom 0 (state ++ rest)

pub goes_on : (state : List ℕ) (least n : ℕ) → GoesOn state least → least ≤ n → FitsShortDecimal n
    → GoesOn (state ++ n ∷ []) (n + 1)
goes_on state least n on from short rest r =
    subst (RisesFrom 0) (sym (append_assoc state (n ∷ []) rest)) (on (n ∷ rest) (from, short, r))

states_some : (piece : StatePiece) (all : List (List ℕ)) (state : List ℕ)
    (go : List (List ℕ) → List ℕ → ℕ → Option (List (List ℕ)))
    (xs : List (List ℕ)) → states_next piece all state go ≡ Some xs
    → ((n : ℕ) × (piece ≡ Q.Atom n) × (go all (state ++ n ∷ []) (n + 1) ≡ Some xs))
    ⊎ ((piece ≡ Q.End) × (go (all ++ state ∷ []) [] 0 ≡ Some xs))
states_some (Q.Atom n) all state go xs e = inl (n, refl, e)
states_some Q.End all state go xs e = inr (refl, e)
states_some Q.Other all state go xs e = absurd (cc)

states_in : (tokens : List Token) (all : List (List ℕ)) (state : List ℕ) (least : ℕ)
    (xs : List (List ℕ)) → All IsRising all
    → GoesOn state least → states_from all state least tokens ≡ Some xs
    → All IsRising xs × (flat_map state_tokens xs ≡ flat_map state_tokens all
    ++ (map number state ++ tokens))
states_in [] all [] least xs each on e =
    let same : all ≡ xs = cc in (
      subst (All IsRising) same each,
      ap (flat_map state_tokens) (sym same)
          ∙ sym (append-nil (flat_map state_tokens all)),
    )
states_in [] all (n ∷ state) least xs each on e = absurd (cc)
states_in (token ∷ tokens) all state least xs each on e =
    elim (states_some (state_piece least token) all state (λ a s l. states_from a s l tokens) xs e) [
      | inl atom ↦
          let n = atom.0 in
          let is = piece_atom least n token atom.1 in
          let later = states_in tokens all (state ++ n ∷ []) (n + 1) xs each
          (goes_on state least n on is.1 is.2) atom.2 in (
            later.0,
            later.1
                ∙ ap (λ l. flat_map state_tokens all ++ (l ++ tokens))
                (map-append number state (n ∷ []))
                ∙ ap (λ l. flat_map state_tokens all ++ l)
                (append_assoc (map number state) (number n ∷ []) tokens)
                ∙ ap (λ t. flat_map state_tokens all ++ (map number state ++ t ∷ tokens))
                (sym is.0),
          )
      | inr end ↦
          let is = piece_end least token end.0 in
          let risen : RisesFrom 0 state = subst (RisesFrom 0) (append-nil state) (on [] tt) in
          let later =
          states_in tokens (all ++ state ∷ []) [] 0 xs
          (All-push IsRising all state each (rising_from state risen)) (λ rest r. r) end.1 in (
            later.0,
            later.1
                ∙ ap (λ l. l ++ tokens) (flat_map-append state_tokens all (state ∷ []))
                ∙ append_assoc (flat_map state_tokens all) (flat_map state_tokens (state ∷ []))
                tokens
                ∙ ap (λ l. flat_map state_tokens all ++ (l ++ tokens))
                (append-nil (state_tokens state))
                ∙ ap (λ l. flat_map state_tokens all ++ l)
                (append_assoc (map number state) (T.End ∷ []) tokens)
                ∙ ap (λ t. flat_map state_tokens all ++ (map number state ++ t ∷ tokens)) (sym is),
          )
    ]

pub states_found : (tokens : List Token) (xs : List (List ℕ)) → states_from [] [] 0 tokens ≡ Some xs
    → AreStateTokens xs tokens
states_found tokens xs e =
    let h = states_in tokens [] [] 0 xs (All-nil IsRising) (λ rest r. r) e in
    record { rising = h.0; same = h.1 }

pub states_only : (tokens : List Token) (xs : List (List ℕ)) → AreStateTokens xs tokens
    → states_from [] [] 0 tokens ≡ Some xs
states_only tokens xs are = ap (states_from [] [] 0) (sym are.same) ∙ states_out xs [] are.rising

pub some_injective : {A : Type 0} {x y : A} → Some x ≡ Some y → x ≡ y
some_injective e = cc

-- two lists of numbers that are spelled alike are one
pub same_numbers : (xs ys : List ℕ) (tokens : List Token) → AreRisingNumbers xs tokens
    → AreRisingNumbers ys tokens → xs ≡ ys
same_numbers xs ys tokens left right =
    let l = numbers_only tokens xs left in let r = numbers_only tokens ys right in
    some_injective (sym l ∙ r)

-- two lists of states that are spelled alike are one
pub same_states : (xs ys : List (List ℕ)) (tokens : List Token) → AreStateTokens xs tokens
    → AreStateTokens ys tokens → xs ≡ ys
same_states xs ys tokens left right =
    let l = states_only tokens xs left in let r = states_only tokens ys right in
    some_injective (sym l ∙ r)

-- Clauses.

positive_piece : (atom : ℕ) → atom + 1 < 10 ^ 9
    → clause_piece (T.Number (atom + 1)) ≡ P.Literal (record { atom = atom; positive = true })
positive_piece atom short =
    let a : eqb (atom + 1) 0 ≡ false = ne_eqb (atom + 1) 0 (λ e. omega arith) in
    let b : ltb (atom + 1) (10 ^ 9) ≡ true = lt-ltb (atom + 1) (10 ^ 9) short in
    let c : atom + 1 - 1 ≡ atom = omega arith in
    rw (a, b, c)

negative_piece : (atom : ℕ) → atom + 1 < 10 ^ 9
    → clause_piece (T.Minus (atom + 1)) ≡ P.Literal (record { atom = atom; positive = false })
negative_piece atom short =
    let a : eqb (atom + 1) 0 ≡ false = ne_eqb (atom + 1) 0 (λ e. omega arith) in
    let b : ltb (atom + 1) (10 ^ 9) ≡ true = lt-ltb (atom + 1) (10 ^ 9) short in
    let c : atom + 1 - 1 ≡ atom = omega arith in
    rw (a, b, c)

by_sign : (b : Bool) (atom : ℕ) → atom + 1 < 10 ^ 9
    → clause_piece (literal_token (record { atom = atom; positive = b }))
    ≡ P.Literal (record { atom = atom; positive = b })
by_sign true atom short = positive_piece atom short
by_sign false atom short = negative_piece atom short

literal_piece : (literal : Literal) → FitsLiteral literal
    → clause_piece (literal_token literal) ≡ P.Literal literal
literal_piece literal short = by_sign literal.positive literal.atom short

clause_out : (rest clause : List Literal) (all : List (List Literal)) (tokens : List Token)
    → All FitsLiteral rest
    → clauses_from all clause (clause_tokens rest ++ tokens)
    ≡ clauses_from (all ++ (clause ++ rest) ∷ []) [] tokens
clause_out [] clause all tokens each = ap
    (λ c. clauses_from (all ++ c ∷ []) [] tokens) (sym (append-nil clause))
clause_out (literal ∷ rest) clause all tokens each =
    ap (λ p. clauses_next p all clause (λ a c. clauses_from a c (clause_tokens rest ++ tokens)))
    (literal_piece literal (All-head FitsLiteral literal rest each))
    ∙ clause_out rest (clause ++ literal ∷ []) all tokens (All-tail FitsLiteral literal rest each)
    ∙ ap (λ c. clauses_from (all ++ c ∷ []) [] tokens) (append_assoc clause (literal ∷ []) rest)

clauses_out : (clauses all : List (List Literal)) → All (All FitsLiteral) clauses
    → clauses_from all [] (flat_map clause_tokens clauses) ≡ Some (all ++ clauses)
clauses_out [] all each = ap (λ l. Some l) (sym (append-nil all))
clauses_out (clause ∷ clauses) all each =
    clause_out clause [] all (flat_map clause_tokens clauses)
    (All-head (All FitsLiteral) clause clauses each)
    ∙ clauses_out clauses (all ++ clause ∷ []) (All-tail (All FitsLiteral) clause clauses each)
    ∙ ap (λ l. Some l) (append_assoc all (clause ∷ []) clauses)

clauses_some : (piece : ClausePiece) (all : List (List Literal)) (clause : List Literal)
    (go : List (List Literal) → List Literal → Option (List (List Literal)))
    (xs : List (List Literal))
    → clauses_next piece all clause go ≡ Some xs
    → ((literal : Literal) × (piece ≡ P.Literal literal)
    × (go all (clause ++ literal ∷ []) ≡ Some xs))
    ⊎ ((piece ≡ P.End) × (go (all ++ clause ∷ []) [] ≡ Some xs))
clauses_some (P.Literal literal) all clause go xs e = inl (literal, refl, e)
clauses_some P.End all clause go xs e = inr (refl, e)
clauses_some P.Other all clause go xs e = absurd (cc)

-- what a test of two steps found
inner_literal : (b : Bool) (literal found : Literal)
    → cond b (P.Literal literal) P.Other ≡ P.Literal found → (b ≡ true) × (literal ≡ found)
inner_literal true literal found e = (refl, cc)
inner_literal false literal found e = absurd (cc)

number_literal : (a b : Bool) (literal found : Literal)
    → cond a P.End (cond b (P.Literal literal) P.Other) ≡ P.Literal found
    → (a ≡ false) × (b ≡ true) × (literal ≡ found)
number_literal true b literal found e = absurd (cc)
number_literal false b literal found e = let h = inner_literal b literal found e in (refl, h.0, h.1)

minus_literal : (a b : Bool) (literal found : Literal)
    → cond a P.Other (cond b (P.Literal literal) P.Other) ≡ P.Literal found
    → (a ≡ false) × (b ≡ true) × (literal ≡ found)
minus_literal true b literal found e = absurd (cc)
minus_literal false b literal found e = let h = inner_literal b literal found e in (refl, h.0, h.1)

piece_literal : (literal : Literal) (token : Token) → clause_piece token ≡ P.Literal literal
    → (literal_token literal ≡ token) × FitsLiteral literal
piece_literal literal (T.Number n) e =
    let h = number_literal (eqb n 0) (ltb n (10 ^ 9)) (record { atom = n - 1; positive = true })
    literal e in
    let some : n ≡ 0 → ⊥ = λ z. eqb-false n 0 h.0 z in
    let short = ltb-true n (10 ^ 9) h.1 in
    let back : n - 1 + 1 ≡ n = omega arith in
    (ap literal_token (sym h.2) ∙ ap (λ k. T.Number k) back, subst FitsLiteral h.2 (omega arith))
piece_literal literal (T.Minus n) e =
    let h = minus_literal (eqb n 0) (ltb n (10 ^ 9)) (record { atom = n - 1; positive = false })
    literal e in
    let some : n ≡ 0 → ⊥ = λ z. eqb-false n 0 h.0 z in
    let short = ltb-true n (10 ^ 9) h.1 in
    let back : n - 1 + 1 ≡ n = omega arith in
    (ap literal_token (sym h.2) ∙ ap (λ k. T.Minus k) back, subst FitsLiteral h.2 (omega arith))
piece_literal literal (T.Letter l) e = absurd (cc)
piece_literal literal (T.Word w) e = absurd (cc)
piece_literal literal T.End e = absurd (cc)

inner_end : (b : Bool) (literal : Literal) → cond b (P.Literal literal) P.Other ≡ P.End → ⊥
inner_end true literal e = cc
inner_end false literal e = cc

number_end : (a b : Bool) (literal : Literal)
    → cond a P.End (cond b (P.Literal literal) P.Other) ≡ P.End → a ≡ true
number_end true b literal e = refl
number_end false b literal e = absurd (inner_end b literal e)

minus_end : (a b : Bool) (literal : Literal)
    → cond a P.Other (cond b (P.Literal literal) P.Other) ≡ P.End → ⊥
minus_end true b literal e = cc
minus_end false b literal e = inner_end b literal e

piece_zero : (token : Token) → clause_piece token ≡ P.End → token ≡ number 0
piece_zero (T.Number n) e =
    ap (λ k. T.Number k) (eqb-true n 0 (number_end (eqb n 0) (ltb n (10 ^ 9))
    (record { atom = n - 1; positive = true }) e))
piece_zero (T.Minus n) e = absurd (minus_end (eqb n 0) (ltb n (10 ^ 9))
    (record { atom = n - 1; positive = false }) e)
piece_zero (T.Letter l) e = absurd (cc)
piece_zero (T.Word w) e = absurd (cc)
piece_zero T.End e = absurd (cc)

clauses_in : (tokens : List Token) (all : List (List Literal)) (clause : List Literal)
    (xs : List (List Literal)) → All (All FitsLiteral) all
    → All FitsLiteral clause → clauses_from all clause tokens ≡ Some xs
    → All (All FitsLiteral) xs × (flat_map clause_tokens xs ≡ flat_map clause_tokens all
    ++ (map literal_token clause ++ tokens))
clauses_in [] all [] xs each short e =
    let same : all ≡ xs = cc in (
      subst (All (All FitsLiteral)) same each,
      ap (flat_map clause_tokens) (sym same)
          ∙ sym (append-nil (flat_map clause_tokens all)),
    )
clauses_in [] all (literal ∷ clause) xs each short e = absurd (cc)
clauses_in (token ∷ tokens) all clause xs each short e =
    elim (clauses_some (clause_piece token) all clause (λ a c. clauses_from a c tokens) xs e) [
      | inl one ↦
          let literal = one.0 in
          let is = piece_literal literal token one.1 in
          let later = clauses_in tokens all (clause ++ literal ∷ []) xs each
          (All-push FitsLiteral clause literal short is.1) one.2 in (
            later.0,
            later.1
                ∙ ap (λ l. flat_map clause_tokens all ++ (l ++ tokens))
                (map-append literal_token clause (literal ∷ []))
                ∙ ap (λ l. flat_map clause_tokens all ++ l)
                (append_assoc (map literal_token clause) (literal_token literal ∷ []) tokens)
                ∙ ap (λ t. flat_map clause_tokens all ++ (map literal_token clause ++ t ∷ tokens))
                is.0,
          )
      | inr end ↦
          let is = piece_zero token end.0 in
          let later =
          clauses_in tokens (all ++ clause ∷ []) [] xs
          (All-push (All FitsLiteral) all clause each short) (All-nil FitsLiteral) end.1 in (
            later.0,
            later.1
                ∙ ap (λ l. l ++ tokens) (flat_map-append clause_tokens all (clause ∷ []))
                ∙ append_assoc (flat_map clause_tokens all) (flat_map clause_tokens (clause ∷ []))
                tokens
                ∙ ap (λ l. flat_map clause_tokens all ++ (l ++ tokens))
                (append-nil (clause_tokens clause))
                ∙ ap (λ l. flat_map clause_tokens all ++ l)
                (append_assoc (map literal_token clause) (number 0 ∷ []) tokens)
                ∙ ap (λ t. flat_map clause_tokens all ++ (map literal_token clause ++ t ∷ tokens))
                (sym is),
          )
    ]

pub clauses_found : (tokens : List Token) (xs : List (List Literal))
    → clauses_from [] [] tokens ≡ Some xs → AreClauseTokens xs tokens
clauses_found tokens xs e =
    let h = clauses_in tokens [] [] xs (All-nil (All FitsLiteral)) (All-nil FitsLiteral) e in
    record { short = h.0; same = h.1 }

pub clauses_only : (tokens : List Token) (xs : List (List Literal)) → AreClauseTokens xs tokens
    → clauses_from [] [] tokens ≡ Some xs
clauses_only tokens xs are = ap (clauses_from [] []) (sym are.same) ∙ clauses_out xs [] are.short

-- two lists that are spelled alike are one
pub same_clauses : (xs ys : List (List Literal)) (tokens : List Token) → AreClauseTokens xs tokens
    → AreClauseTokens ys tokens → xs ≡ ys
same_clauses xs ys tokens left right =
    let l = clauses_only tokens xs left in let r = clauses_only tokens ys right in
    some_injective (sym l ∙ r)
