-- What parts of a format make of pieces without an LF.
use Rattle.std.proofs.Common.{◌≡◌, ℕ, zero, suc, ◌+◌, All, Bool, true, false, cond, List, [], ◌∷◌}
use Rattle.std.proofs.Common.{◌++◌, ◌∙◌, None, Some, Ok, Err, ap, arith, length, refl, subst}
use Rattle.std.specs.Prelude.{IfOk, Result}
use Rattle.std.proofs.lemmas.List.{length_push}
use Rattle.std.proofs.lemmas.List.Elements.{All-cons, All-head, All-nil, All-push, All-tail}
use Rattle.hv_bytes.specs.LineCuts.{IsClean, lines_of}
use Rattle.hv_bytes.specs.Pieces.{PieceBytes, fits_limits, pieces_after, pieces_of}
use Rattle.hv_bytes.specs.declared.cutting.Limits.{Limits}
use Rattle.hv_grammar.specs.Parsers.{Outcome, Parser, after, end_of_input, iterate, line, long}
use Rattle.hv_grammar.specs.Parsers.{one_more, parsed, pure, refused, repeat, tested, ◌>>=◌, ◌>>◌}
use Rattle.hv_task_text.proofs.CleanLines.{clean_lines}

-- the piece is long, or a line without an LF
abbrev pub IsCleanPiece : PieceBytes → Type 0
IsCleanPiece None = Unit {0}
IsCleanPiece (Some line) = IsClean line

clean_more : (limits : Limits) (earlier : ℕ) (line : List ℕ) (lines : List (List ℕ)) (fits : Bool)
    → IsClean line
    → All IsCleanPiece (pieces_after limits (earlier + (length line + 1)) lines)
    → All IsCleanPiece
    (cond fits (Some line ∷ pieces_after limits (earlier + (length line + 1)) lines) (None ∷ []))
clean_more limits earlier line lines true clean later =
    All-cons IsCleanPiece (Some line) (pieces_after limits (earlier + (length line + 1)) lines)
    clean later
clean_more limits earlier line lines false clean later =
    All-cons IsCleanPiece None [] tt (All-nil IsCleanPiece)

clean_after : (limits : Limits) (earlier : ℕ) (lines : List (List ℕ)) → All IsClean lines
    → All IsCleanPiece (pieces_after limits earlier lines)
clean_after limits earlier [] clean = All-nil IsCleanPiece
clean_after limits earlier (line ∷ lines) clean =
    clean_more limits earlier line lines (fits_limits limits earlier (length line))
    (All-head IsClean line lines clean)
    (clean_after limits (earlier + (length line + 1)) lines (All-tail IsClean line lines clean))

-- the pieces of a file have no LF
pub clean_file : (limits : Limits) (file : List ℕ) → All IsCleanPiece (pieces_of limits file)
clean_file limits file = clean_after limits 0 (lines_of file) (clean_lines file)

-- where a value comes of pieces, it is such a one, and no piece that is left has an LF
abbrev pub Gives : {A B : Type 0} → (A → Type 0) → Outcome B A → Type 0
Gives P (parsed a n ps) = P a × All IsCleanPiece ps
Gives P (refused n b) = Unit {0}
Gives P (long n) = Unit {0}

-- each value that the part makes of pieces without an LF is such a one
pub record Makes {A B : Type 0} (P : A → Type 0) (part : Parser B A) : Type 0 where
  pub gives : (n : ℕ) (ps : List PieceBytes) → All IsCleanPiece ps → Gives P (part n ps)

-- whatever the value
abbrev pub IsAny : {A : Type 0} → A → Type 0
IsAny a = Unit {0}

after_gives : {A B C : Type 0} (P : A → Type 0) (Q : C → Type 0) (rest : A → Parser B C)
    (o : Outcome B A) → Gives P o → ((a : A) → P a → Makes Q (rest a)) → Gives Q (after o rest)
after_gives P Q rest (parsed a n ps) h more = (more a h.0).gives n ps h.1
after_gives P Q rest (refused n b) h more = tt
after_gives P Q rest (long n) h more = tt

then_at : {A B C : Type 0} (P : A → Type 0) (Q : C → Type 0) (part : Parser B A)
    (rest : A → Parser B C) → Makes P part → ((a : A) → P a → Makes Q (rest a))
    → Makes Q (part >>= rest)
then_at P Q part rest is more = record {
  gives = λ n ps clean. after_gives P Q rest (part n ps) (is.gives n ps clean) more;
}

-- a part, and what follows it
pub makes_then : {A B C : Type 0} (P : A → Type 0) {Q : C → Type 0} {part : Parser B A}
    {rest : A → Parser B C} → Makes P part → ((a : A) → P a → Makes Q (rest a))
    → Makes Q (part >>= rest)
makes_then P is more = then_at P _ _ _ is more

-- the same where the part has no value
pub makes_skip : {B C : Type 0} {Q : C → Type 0} {part : Parser B (Unit {0})} {rest : Parser B C}
    → Makes IsAny part → Makes Q rest → Makes Q (part >> rest)
makes_skip {part = part} {rest = rest} is more = then_at IsAny _ part (λ _. rest) is (λ a h. more)

pub makes_pure : {A B : Type 0} (P : A → Type 0) (a : A) → P a → Makes {B = B} P (pure a)
makes_pure P a h = record { gives = λ n ps clean. (h, clean) }

weaker_gives : {A B : Type 0} (P Q : A → Type 0) (o : Outcome B A) → ((a : A) → P a → Q a)
    → Gives P o → Gives Q o
weaker_gives P Q (parsed a n ps) more h = (more a h.0, h.1)
weaker_gives P Q (refused n b) more h = tt
weaker_gives P Q (long n) more h = tt

pub makes_weaker : {A B : Type 0} (P Q : A → Type 0) (part : Parser B A)
    → ((a : A) → P a → Q a) → Makes P part → Makes Q part
makes_weaker P Q part more is =
    record { gives = λ n ps clean. weaker_gives P Q (part n ps) more (is.gives n ps clean) }

tested_gives : {A B : Type 0} (P : A → Type 0) (n : ℕ) (ps : List PieceBytes) (r : Result A B)
    → All IsCleanPiece ps → IfOk r P → Gives P (tested n ps r)
tested_gives P n ps (Ok a) clean h = (h, clean)
tested_gives P n ps (Err b) clean h = tt

line_gives : {A B : Type 0} (P : A → Type 0) (lacking : B) (test : List ℕ → Result A B) (n : ℕ)
    (ps : List PieceBytes) → ((l : List ℕ) → IsClean l → IfOk (test l) P) → All IsCleanPiece ps
    → Gives P (line lacking test n ps)
line_gives P lacking test n [] is clean = tt
line_gives P lacking test n (None ∷ ps) is clean = tt
line_gives P lacking test n (Some l ∷ ps) is clean =
    tested_gives P (n + 1) ps (test l) (All-tail IsCleanPiece (Some l) ps clean)
    (is l (All-head IsCleanPiece (Some l) ps clean))

-- a line
pub makes_line : {A B : Type 0} (P : A → Type 0) (lacking : B) (test : List ℕ → Result A B)
    → ((l : List ℕ) → IsClean l → IfOk (test l) P) → Makes P (line lacking test)
makes_line P lacking test is =
    record { gives = λ n ps clean. line_gives P lacking test n ps is clean }

any_ok : {A B : Type 0} (r : Result A B) → IfOk r IsAny
any_ok (Ok a) = tt
any_ok (Err b) = tt

pub makes_any : {A B : Type 0} (lacking : B) (test : List ℕ → Result A B)
    → Makes IsAny (line lacking test)
makes_any lacking test = makes_line IsAny lacking test (λ l clean. any_ok (test l))

end_gives : {B : Type 0} (extra : B) (n : ℕ) (ps : List PieceBytes) → All IsCleanPiece ps
    → Gives IsAny (end_of_input extra n ps)
end_gives extra n [] clean = (tt, clean)
end_gives extra n (None ∷ ps) clean = tt
end_gives extra n (Some l ∷ ps) clean = tt

pub makes_end : {B : Type 0} (extra : B) → Makes IsAny (end_of_input extra)
makes_end extra = record { gives = end_gives extra }

-- the same part so many times, each with one more
pub makes_times : {A B : Type 0} (I : ℕ → A → Type 0) (part : A → Parser B A) (k i : ℕ) (a : A)
    → I i a → ((j : ℕ) (b : A) → I j b → Makes (I (j + 1)) (part b))
    → Makes (I (i + k)) (iterate k part a)
makes_times I part zero i a h step =
    makes_pure (I (i + zero)) a (subst (λ m. I m a) (let e : i ≡ i + zero = omega arith in e) h)
makes_times I part (suc k) i a h step =
    then_at (I (i + 1)) (I (i + suc k)) (part a) (λ b. iterate k part b) (step i a h)
    (λ b hb. subst (λ m. Makes (I m) (iterate k part b))
    (let e : i + 1 + k ≡ i + suc k = omega arith in e)
    (makes_times I part k (i + 1) b hb step))

-- the same part so many times, each of which keeps what holds
pub makes_same : {A B : Type 0} (P : A → Type 0) (part : A → Parser B A) (k : ℕ) (a : A) → P a
    → ((b : A) → P b → Makes P (part b)) → Makes P (iterate k part a)
makes_same P part k a h step = makes_times (λ i. P) part k 0 a h (λ j. step)

-- so many values of the same part
abbrev pub AreMany : {A : Type 0} → (A → Type 0) → ℕ → List A → Type 0
AreMany P k xs = All P xs × (length xs ≡ k)

pub makes_repeat : {A B : Type 0} (P : A → Type 0) (part : Parser B A) (k : ℕ) → Makes P part
    → Makes (AreMany P k) (repeat k part)
makes_repeat P part k is =
    subst (λ m. Makes (AreMany P m) (repeat k part)) (let e : 0 + k ≡ k = omega arith in e)
    (makes_times (AreMany P) (one_more part) k 0 [] (All-nil P, refl)
    (λ j xs h. then_at P (AreMany P (j + 1)) part (λ a. pure (xs ++ a ∷ [])) is
    (λ a ha. makes_pure (AreMany P (j + 1)) (xs ++ a ∷ [])
    (All-push P xs a h.0 ha, length_push xs a ∙ ap (λ m. m + 1) h.1))))
