-- A line that is read part by part, and the bytes that were coming.
use Rattle.std.proofs.Common.{◌≡◌, ◌≢◌, ℕ, ◌+◌, ◌≤◌, List, [], ◌++◌, Option, None, Some, length}
use Rattle.std.proofs.Common.{take, sym, ap, ◌∙◌, arith, inr, append_assoc, append-nil}
use Rattle.std.proofs.Common.{length-append, length-take, length-drop, Bool, true, false, eqb, subst}
use Rattle.std.proofs.lemmas.Bool.{eqb-true}
use Rattle.std.proofs.lemmas.List.{nil_from_length, take-append-le}
use Rattle.std.specs.Prelude.{Result, Ok, Err, IfNone, IfOk, IfSome, IsErrAnd, IsOk, IsTrue, OnErr}
use Rattle.std.specs.Prelude.{◌↔◌, is_err, is_some}
use Rattle.std.specs.Io.KnownBytes.{Consumes, IsAtEnd, prepend_known}
use Rattle.hv_bytes.specs.FirstLine.{MovesBytes, TakesLine}
use Rattle.hv_bytes.specs.LineCuts.{IsClean}
use Rattle.hv_bytes.specs.Working.LineParts.{BeginsWith, EndsLine}

-- what a test of a count of bytes says
pub none_by_test : (n : ℕ) (test : Bool) → test ≡ eqb n 0 → test ≡ true → n ≡ 0
none_by_test n test is holds = eqb-true n 0 (sym is ∙ holds)

pub some_by_test : (xs : List ℕ) (n : ℕ) (test : Bool) → n ≡ length xs → test ≡ eqb n 0
    → test ≡ false → xs ≢ []
some_by_test xs n test size is fails = λ e.
    let zero : n ≡ 0 = size ∙ ap length e in
    let no_test : eqb 0 0 ≡ false = subst (λ k. eqb k 0 ≡ false) zero (sym is ∙ fails) in
    cc

-- all held bytes joined the line
pub consumes_taken : (old left : Option (List ℕ)) (held line held_now line_now : List ℕ)
    → Consumes old (prepend_known held left) line → held_now ≡ [] → line_now ≡ line ++ held
    → Consumes old (prepend_known held_now left) line_now
consumes_taken None left held line held_now line_now p none grown = tt
consumes_taken (Some xs) None held line held_now line_now p none grown = absurd p
consumes_taken (Some xs) (Some ys) held line held_now line_now p none grown =
    p ∙ sym (append_assoc line held ys) ∙ ap (λ l. l ++ ys) (sym grown)
    ∙ ap (λ h. line_now ++ (h ++ ys)) (sym none)

-- a line that grew begins as it did
pub begins_grown : (front line more line_now : List ℕ) → BeginsWith front line
    → line_now ≡ line ++ more → BeginsWith front line_now
begins_grown front line more line_now begins grown =
    let within : length front ≤ length line = omega
    (arith, ap length begins, length-take (length front) line) in
    ap (take (length front)) grown ∙ take-append-le (length front) line more within ∙ begins

-- the bytes of the line are those that left the coming ones
pub moves_line : (old now : Option (List ℕ)) (line : List ℕ) (n : ℕ) → Consumes old now line
    → n ≡ length line → MovesBytes old now 0 n
moves_line None now line n p e = tt
moves_line (Some xs) None line n p e = absurd p
moves_line (Some xs) (Some ys) line n p e = omega (arith, ap length p, length-append line ys, e)

-- and with its LF
pub moves_ended : (old left : Option (List ℕ)) (held line held_now line_now : List ℕ) (n : ℕ)
    → Consumes old (prepend_known held left) line → EndsLine held held_now line line_now
    → n ≡ length line_now + 1 → MovesBytes old (prepend_known held_now left) 0 n
moves_ended None left held line held_now line_now n p ends e = tt
moves_ended (Some xs) None held line held_now line_now n p ends e = absurd p
moves_ended (Some xs) (Some ys) held line held_now line_now n p ends e =
    let at = ends.0 in
    omega (
      arith,
      e,
      ap length p,
      length-append line (held ++ ys),
      length-append held ys,
      length-append held_now ys,
      ap length ends.2,
      length-drop (at + 1) held,
      ap length ends.3,
      length-append line (take at held),
      length-take at held,
      ends.1.within,
    )

-- the input ended behind a line that has bytes
pub takes_last : (old left : Option (List ℕ)) (held line : List ℕ)
    → Consumes old (prepend_known held left) line → IsClean line → held ≡ [] → IsAtEnd left
    → line ≢ [] → TakesLine old (prepend_known held left) line
takes_last None left held line p clean none end some = tt
takes_last (Some xs) None held line p clean none end some = absurd p
takes_last (Some xs) (Some ys) held line p clean none end some =
    let rest : held ++ ys ≡ [] = ap (λ h. h ++ ys) none ∙ end in
    let all : xs ≡ line = p ∙ ap (λ l. line ++ l) rest ∙ append-nil line in
    record { some = λ e. some (sym all ∙ e); clean = clean; cut = inr (all, rest) }

-- a front of no bytes has none
pub no_front : (front line : List ℕ) → BeginsWith front line → length line ≡ 0 → front ≡ []
no_front front line begins none =
    nil_from_length front (omega (arith, none, ap length begins, length-take (length front) line))

-- the input ended where no byte was coming
pub end_before : (left_then left_now : Option (List ℕ)) (front held line : List ℕ)
    → Consumes (prepend_known front left_then) (prepend_known held left_now) line
    → length line ≡ 0 → held ≡ [] → IsAtEnd left_now → front ≡ [] → IsAtEnd left_then
end_before None left_now front held line p empty none end unread = tt
end_before (Some xs) None front held line p empty none end unread = absurd p
end_before (Some xs) (Some ys) front held line p empty none end unread =
    let rest : held ++ ys ≡ [] = ap (λ h. h ++ ys) none ∙ end in
    nil_from_length xs (omega (
      arith,
      ap length p,
      length-append front xs,
      length-append line (held ++ ys),
      ap length rest,
      ap length unread,
      empty,
    ))

-- what holds is so at a fault too
pub at_fault : {A E : Type 0} (r : Result A E) (P : Type 0) → P → OnErr r P
at_fault (Ok a) P p = tt
at_fault (Err e) P p = p

-- where there is a value there is no fault
pub no_fault : {A E : Type 0} (r : Result A E) (P : Type 0) → is_err r ≡ false → OnErr r P
no_fault (Ok a) P e = tt
no_fault (Err f) P e = absurd cc

-- where there is a fault there is no value
pub no_value : {A E : Type 0} (r : Result A E) (Q : E → Type 0) (P : A → Type 0) → IsErrAnd r Q
    → IfOk r P
no_value (Ok a) Q P is = absurd is
no_value (Err e) Q P is = tt

pub never_ok : {A E : Type 0} (r : Result A E) (Q : E → Type 0) (a : A) (P : Type 0)
    → IsErrAnd r Q → r ≡ Ok a → P
never_ok (Ok b) Q a P is same = absurd is
never_ok (Err e) Q a P is same = absurd cc

pub not_live : {A E : Type 0} (r : Result A E) (Q : E → Type 0) → IsErrAnd r Q
    → IsTrue false ↔ IsOk r
not_live (Ok a) Q is = absurd is
not_live (Err e) Q is = (λ live. live, λ ok. ok)

-- a test of whether there is a count
pub no_count : {A : Type 0} (o : Option A) (P : A → Type 0) → is_some o ≡ false → IfSome o P
no_count None P e = tt
no_count (Some a) P e = absurd cc

pub some_count : {A : Type 0} (o : Option A) (P : Type 0) → is_some o ≡ true → IfNone o P
some_count None P e = absurd cc
some_count (Some a) P e = tt
