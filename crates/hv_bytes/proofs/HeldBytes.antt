-- Held bytes, a line, and what is left on a shelf.
use Rattle.std.proofs.Common.{◌≡◌, ◌≢◌, ℕ, ◌+◌, ◌-◌, ◌≤◌, List, [], ◌∷◌, ◌++◌, Option, None, Some}
use Rattle.std.proofs.Common.{length, take, drop, refl, sym, ap, ◌∙◌, arith, inl, inr, ⊎_elim}
use Rattle.std.proofs.Common.{subst, Bool, false, IsTrue, append_assoc, append-nil, length-append}
use Rattle.std.proofs.Common.{length-take, length-drop, take-append-drop}
use Rattle.std.proofs.lemmas.List.{drop-drop, drop-take}
use Rattle.std.proofs.lemmas.List.Elements.{All-append, All-nil}
use Rattle.std.specs.Io.KnownBytes.{Consumes, Keeps, prepend_known}
use Rattle.hv_bytes.specs.FirstLine.{BeginsLong, IsFirstLine, IsLong, TakesLine}
use Rattle.hv_bytes.specs.LineCuts.{IsClean}
use Rattle.hv_bytes.specs.Working.LineCuts.{IsFirstLf}
use Rattle.hv_bytes.specs.Working.LineParts.{EndsLine, IsLongPart}
use Rattle.hv_bytes.proofs.LineLaws.{IsFirstLine-append, first_line_of, length_some}

-- the bytes from one place of a buffer to another, without the first of them
pub window-skip : (piece : List ℕ) (at end count : ℕ) → count ≤ end - at
    → take (end - (at + count)) (drop (at + count) piece)
    ≡ drop count (take (end - at) (drop at piece))
window-skip piece at end count fits =
    let rest = end - (at + count) in
    let split : end - at ≡ count + rest = omega arith in
    sym (ap (λ n. drop count (take n (drop at piece))) split ∙ drop-take count rest (drop at piece)
    ∙ ap (take rest) (drop-drop count at piece))

-- a test says that some bytes are held
pub some_held : (held : List ℕ) (empty : Bool) → empty ≡ false → (held ≡ [] → IsTrue empty)
    → held ≢ []
some_held held empty is test none = let yes = test none in cc

abbrev IsNoLf : ℕ → Type 0
IsNoLf b = b ≢ 10

-- a prefix without an LF, of which this many bytes are already long, begins a long line
pub begins_long : (front more : List ℕ) (line_limit file_limit earlier : ℕ) → front ++ more ≢ []
    → IsClean front → IsLong line_limit file_limit earlier (length front)
    → BeginsLong (Some (front ++ more)) line_limit file_limit earlier
begins_long front [] line_limit file_limit earlier some clean long =
    (front, [], record { some = some; clean = clean; cut = inr (append-nil front, refl) }, long)
begins_long front (b ∷ more) line_limit file_limit earlier some clean long =
    let later = first_line_of (b ∷ more) (λ e. cc) in
    let grown = length-append front later.0 in (
      front ++ later.0,
      later.1,
      IsFirstLine-append front (b ∷ more) later.0 later.1 clean later.2,
      ⊎_elim (λ line. inl (omega arith)) (λ file. inr (omega arith)) long,
    )

module _ (line held : List ℕ) where
  -- the line so far, grown by the held bytes before their first LF
  IsFirstLine-grown : (more : List ℕ) (at : ℕ) → IsClean line → IsFirstLf held at
      → IsFirstLine (line ++ (held ++ more)) (line ++ take at held) (drop (at + 1) held ++ more)
  IsFirstLine-grown more at clean lf =
      let cut : held ≡ take at held ++ 10 ∷ drop (at + 1) held = sym (take-append-drop at held)
      ∙ ap (λ l. take at held ++ l) lf.here in
      let first : IsFirstLine (held ++ more) (take at held) (drop (at + 1) held ++ more) = record {
        some = λ e. absurd (omega (arith, lf.within, ap length e, length-append held more));
        clean = lf.clean;
        cut = inl (ap (λ l. l ++ more) cut ∙ append_assoc (take at held) (10 ∷ drop (at + 1) held)
            more);
      } in
      IsFirstLine-append line (held ++ more) (take at held) (drop (at + 1) held ++ more) clean first

  -- a line that ends among the held bytes
  pub takes_ended : (old left : Option (List ℕ)) (held_now line_now : List ℕ)
      → Consumes old (prepend_known held left) line → IsClean line
      → EndsLine held held_now line line_now
      → TakesLine old (prepend_known held_now left) line_now
  takes_ended None left held_now line_now p clean ends = tt
  takes_ended (Some xs) None held_now line_now p clean ends = absurd p
  takes_ended (Some xs) (Some ys) held_now line_now p clean ends =
      rw (p, ends.2, ends.3) (IsFirstLine-grown ys ends.0 clean ends.1)

  -- a part of the held bytes makes the line long
  pub long_part : (old left : Option (List ℕ)) (line_limit file_limit earlier : ℕ)
      → Consumes old (prepend_known held left) line → IsClean line → held ≢ []
      → IsLongPart held line_limit file_limit earlier (length line)
      → BeginsLong old line_limit file_limit earlier
  long_part None left line_limit file_limit earlier p clean some long = tt
  long_part (Some xs) None line_limit file_limit earlier p clean some long = absurd p
  long_part (Some xs) (Some ys) line_limit file_limit earlier p clean some long =
      let count = long.0 in
      let front = line ++ take count held in
      let more = drop count held ++ ys in
      let cut : xs ≡ front ++ more = p ∙ ap
      (λ l. line ++ (l ++ ys)) (sym (take-append-drop count held))
      ∙ ap (λ l. line ++ l) (append_assoc (take count held) (drop count held) ys)
      ∙ sym (append_assoc line (take count held) more) in
      let whole : length front ≡ length line + count = omega
      (arith, length-append line (take count held), length-take count held, long.1) in
      let filled : front ++ more ≢ [] = λ e. absurd
      (omega (
        arith,
        ap length e,
        length-append front more,
        length-append (drop count held) ys,
        length-drop count held,
        whole,
        long.1,
        length_some held some,
      )) in
      rw cut (begins_long front more line_limit file_limit earlier filled
      (All-append IsNoLf line (take count held) clean long.2) (rw whole long.3))

-- no byte was held, and the shelf was asked for more
pub consumes_read : (old left now : Option (List ℕ)) (held line : List ℕ) → held ≡ []
    → Consumes old (prepend_known held left) line → Keeps left now → Consumes old now line
consumes_read None left now held line none p kept = tt
consumes_read (Some xs) None now held line none p kept = absurd p
consumes_read (Some xs) (Some ys) None held line none p kept = absurd kept
consumes_read (Some xs) (Some ys) (Some zs) held line none p kept =
    p ∙ ap (λ h. line ++ (h ++ ys)) none ∙ ap (λ l. line ++ l) (sym kept)

-- a line that lies whole among the held bytes
pub takes_lent : (held : List ℕ) (left : Option (List ℕ)) (held_now line : List ℕ)
    → EndsLine held held_now [] line
    → TakesLine (prepend_known held left) (prepend_known held_now left) line
takes_lent held None held_now line ends = tt
takes_lent held (Some ys) held_now line ends = rw (ends.2, ends.3)
    (IsFirstLine-grown [] held ys ends.0 (All-nil IsNoLf) ends.1)

-- one that is long
pub long_lent : (held : List ℕ) (left : Option (List ℕ)) (at line_limit file_limit earlier : ℕ)
    → IsFirstLf held at → IsLong line_limit file_limit earlier at
    → BeginsLong (prepend_known held left) line_limit file_limit earlier
long_lent held None at line_limit file_limit earlier lf long = tt
long_lent held (Some ys) at line_limit file_limit earlier lf long =
    let whole : length (take at held) ≡ at = omega (arith, length-take at held, lf.within) in (
      take at held,
      drop (at + 1) held ++ ys,
      IsFirstLine-grown [] held ys at (All-nil IsNoLf) lf,
      subst (IsLong line_limit file_limit earlier) (sym whole) long,
    )

-- the held bytes have no LF, and are already too many
pub long_front : (held : List ℕ) (left : Option (List ℕ)) (line_limit file_limit earlier : ℕ)
    → held ≢ [] → IsClean held → IsLong line_limit file_limit earlier (length held)
    → BeginsLong (prepend_known held left) line_limit file_limit earlier
long_front held None line_limit file_limit earlier some clean long = tt
long_front held (Some ys) line_limit file_limit earlier some clean long =
    let filled : held ++ ys ≢ [] = λ e. absurd
    (omega (arith, ap length e, length-append held ys, length_some held some)) in
    begins_long held ys line_limit file_limit earlier filled clean long
