-- Lines, one after another.
use Rattle.std.proofs.Common.{◌≡◌, ◌≢◌, ℕ, ◌<◌, Bool, true, false, cond, List, [], ◌∷◌, ◌++◌}
use Rattle.std.proofs.Common.{length, refl, sym, ap, ◌∙◌, arith, inl, inr, ⊎_elim, eqb}
use Rattle.std.specs.List.{onto_first}
use Rattle.std.proofs.lemmas.Bool.{eqb-true, cases_eq}
use Rattle.std.proofs.lemmas.List.Elements.{All-head, All-tail, All-cons, All-nil}
use Rattle.hv_bytes.specs.LineCuts.{IsClean, lines_of}
use Rattle.hv_bytes.specs.FirstLine.{IsFirstLine}

abbrev IsNoLf : ℕ → Type 0
IsNoLf b = b ≢ 10

lines_step : (b : ℕ) (bytes : List ℕ) (t : Bool) → t ≡ eqb b 10 → b ≢ 10
    → cond t ([] ∷ lines_of bytes) (onto_first b (lines_of bytes)) ≡ onto_first b (lines_of bytes)
lines_step b bytes true e h = absurd (h (eqb-true b 10 (sym e)))
lines_step b bytes false e h = refl

-- a byte that is no LF is in front of the first line
pub lines_of-cons : (b : ℕ) (bytes : List ℕ) → b ≢ 10
    → lines_of (b ∷ bytes) ≡ onto_first b (lines_of bytes)
lines_of-cons b bytes h = lines_step b bytes (eqb b 10) refl h

-- a first line that ends with its LF
pub lines_of-ended : (line rest : List ℕ) → IsClean line
    → lines_of (line ++ 10 ∷ rest) ≡ line ∷ lines_of rest
lines_of-ended [] rest h = refl
lines_of-ended (b ∷ line) rest h =
    lines_of-cons b (line ++ 10 ∷ rest) (All-head IsNoLf b line h)
    ∙ ap (onto_first b) (lines_of-ended line rest (All-tail IsNoLf b line h))

-- a last line that lacks its LF
pub lines_of-last : (line : List ℕ) → IsClean line → line ≢ [] → lines_of line ≡ line ∷ []
lines_of-last [] h some = absurd (some refl)
lines_of-last (b ∷ []) h some = lines_of-cons b [] (All-head IsNoLf b [] h)
lines_of-last (b ∷ c ∷ line) h some =
    lines_of-cons b (c ∷ line) (All-head IsNoLf b (c ∷ line) h)
    ∙ ap (onto_first b) (lines_of-last (c ∷ line) (All-tail IsNoLf b (c ∷ line) h) (λ e. cc))

-- the first line is the first of the lines, and the other lines are those of what comes after it
pub lines_of-first : (coming line rest : List ℕ) → IsFirstLine coming line rest
    → lines_of coming ≡ line ∷ lines_of rest
lines_of-first coming line rest h =
    ⊎_elim
    (λ ended. ap lines_of ended ∙ lines_of-ended line rest h.clean)
    (λ last. ap lines_of last.0 ∙ lines_of-last line h.clean (λ e. h.some (last.0 ∙ e))
    ∙ ap (λ r. line ∷ lines_of r) (sym last.1))
    h.cut

pub length_some : (xs : List ℕ) → xs ≢ [] → 0 < length xs
length_some [] h = absurd (h refl)
length_some (x ∷ xs) h = omega arith

-- a byte that is no LF in front of bytes that have a first line
IsFirstLine-cons : (b : ℕ) (coming line rest : List ℕ) → b ≢ 10 → IsFirstLine coming line rest
    → IsFirstLine (b ∷ coming) (b ∷ line) rest
IsFirstLine-cons b coming line rest h first = record {
  some = λ e. cc;
  clean = All-cons IsNoLf b line h first.clean;
  cut = ⊎_elim (λ ended. inl (ap (λ l. b ∷ l) ended))
      (λ last. inr (ap (λ l. b ∷ l) last.0, last.1)) first.cut;
}

-- the same of more such bytes in front
pub IsFirstLine-append : (front coming line rest : List ℕ) → IsClean front
    → IsFirstLine coming line rest → IsFirstLine (front ++ coming) (front ++ line) rest
IsFirstLine-append [] coming line rest h first = first
IsFirstLine-append (b ∷ front) coming line rest h first =
    IsFirstLine-cons b (front ++ coming) (front ++ line) rest (All-head IsNoLf b front h)
    (IsFirstLine-append front coming line rest (All-tail IsNoLf b front h) first)

-- bytes that are some have a first line
pub first_line_of : (coming : List ℕ) → coming ≢ []
    → (line : List ℕ) × (rest : List ℕ) × IsFirstLine coming line rest
first_line_of [] some = absurd (some refl)
first_line_of (b ∷ []) some =
    ⊎_elim
    (λ e. (
      [],
      [],
      record {
        some = λ e'. cc;
        clean = All-nil IsNoLf;
        cut = inl (ap (λ x. x ∷ []) e);
      },
    ))
    (λ ne. (
      b ∷ [],
      [],
      record {
        some = λ e'. cc;
        clean = All-cons IsNoLf b [] ne (All-nil IsNoLf);
        cut = inr (refl, refl);
      },
    ))
    (cases_eq b 10)
first_line_of (b ∷ c ∷ bytes) some =
    ⊎_elim
    (λ e. (
      [],
      c ∷ bytes,
      record {
        some = λ e'. cc;
        clean = All-nil IsNoLf;
        cut = inl
            (ap (λ x. x ∷ c ∷ bytes) e);
      },
    ))
    (λ ne. let later = first_line_of (c ∷ bytes) (λ e'. cc) in
    (b ∷ later.0, later.1, IsFirstLine-cons b (c ∷ bytes) later.0 later.1 ne later.2))
    (cases_eq b 10)
