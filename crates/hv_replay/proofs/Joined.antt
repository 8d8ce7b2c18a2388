-- What comes of the pieces of a log is a log exactly where they are the text of this log.
use Rattle.std.proofs.Common.{◌≡◌, ℕ, suc, ◌+◌, ◌<◌, ◌≤◌, ◌^◌, ◌∙◌, ◌++◌, ◌⊎◌, Bool, true, false}
use Rattle.std.proofs.Common.{List, [], ◌∷◌, Option, None, Some, Result, Ok, Err, cond, inl, inr}
use Rattle.std.proofs.Common.{length, map, refl, ap, sym, subst, arith, append-nil, append_assoc}
use Rattle.std.specs.Prelude.{IfSome}
use Rattle.std.specs.List.{All, sum_by}
use Rattle.std.proofs.lemmas.List.{length_push}
use Rattle.std.proofs.lemmas.List.Elements.{All-cons, All-head, All-nil, All-tail}
use Rattle.std.proofs.lemmas.List.Sums.{sum_by-cons, sum_by_push}
use Rattle.hv_bytes.specs.FirstLine.{last_byte}
use Rattle.hv_bytes.specs.Files.{Names, bytes_of}
use Rattle.hv_bytes.specs.LineCuts.{lines_of}
use Rattle.hv_bytes.specs.Pieces.{PieceBytes, as_pieces, fits_limits, pieces_after, pieces_of}
use Rattle.hv_bytes.specs.declared.cutting.Limits.{Limits}
use Rattle.hv_bytes.proofs.WholeText.{fits_from-true}
use Rattle.hv_grammar.specs.Parsers.{Outcome, after, done_or, end_of_input, followed, long}
use Rattle.hv_grammar.specs.Parsers.{many_till, parsed, pure, refused, ◌>>◌}
use Rattle.hv_grammar.specs.Working.Reads.{IsReadAs}
use Rattle.hv_replay.specs.LogFile.{end_line, log_file, log_line}
use Rattle.hv_replay.specs.Logs.{AreFew, IsLogEntry, LogEntry, SearchLog, entry_line, listed_bytes}
use Rattle.hv_replay.specs.LogText.{AreLogTextOf, IsLogReadFrom, log_limits}
use Rattle.hv_replay.specs.declared.fault.LogRefusal.{LogRefusal}
use Rattle.hv_replay.specs.declared.fault.LogRefusal.TheVariants as R
use Rattle.hv_replay.proofs.Passed.{end_is, end_said, entry_more, entry_said, few_first}

-- the lines of these entries, and the last one
abbrev lines_from : List LogEntry → List (List ℕ)
lines_from entries = map entry_line entries ++ end_line ∷ []

-- what follows a line of a log, by what is said of it
abbrev behind : ℕ → List LogEntry → ℕ → List PieceBytes → Result (Option (List LogEntry)) LogRefusal
    → Outcome LogRefusal (List LogEntry)
behind atoms entries n ps said =
    followed n (done_or entries n ps (λ more. many_till R.Place (log_line atoms) more n ps)) said

module _ (atoms : ℕ) where
  entries_read : (front rest : List LogEntry) (n : ℕ) → atoms < 10 ^ 18
      → All (IsLogEntry atoms) rest → AreFew (front ++ rest)
      → many_till R.Place (log_line atoms) front n (as_pieces (lines_from rest))
      ≡ parsed (front ++ rest) (n + length rest + 1) []
  entries_read front [] n small each few =
      ap (behind atoms front (n + 1) []) (end_said atoms front)
      ∙ ap (λ es. parsed es (n + 1) []) (sym (append-nil front))
      ∙ ap (λ k. parsed (front ++ []) k []) (let e : n + 1 ≡ n + 0 + 1 = omega arith in e)
  entries_read front (x ∷ rest) n small each few =
      let same : (front ++ x ∷ []) ++ rest ≡ front ++ x ∷ rest = append_assoc front (x ∷ []) rest in
      let whole = subst AreFew (sym same) few in
      ap (behind atoms front (n + 1) (as_pieces (lines_from rest)))
      (entry_said atoms front x small (All-head (IsLogEntry atoms) x rest each)
      (few_first (front ++ x ∷ []) rest whole))
      ∙ entries_read (front ++ x ∷ []) rest (n + 1) small (All-tail (IsLogEntry atoms) x rest each)
      whole
      ∙ ap (λ es. parsed es (n + 1 + length rest + 1) []) same
      ∙ ap (λ k. parsed (front ++ x ∷ rest) k [])
      (let e : n + 1 + length rest + 1 ≡ n + suc (length rest) + 1 = omega arith in e)

  -- a text of a log is read as this log
  pub text_is_read : (pieces : List PieceBytes) (log : SearchLog) → atoms < 10 ^ 18
      → AreLogTextOf atoms pieces log
      → log_file atoms 0 pieces ≡ parsed log (length log.entries + 1) []
  text_is_read pieces log small (over, text) =
      let each = subst (λ n. All (IsLogEntry n) log.entries) over text.legal.each in
      ap (log_file atoms 0) (sym text.spelled)
      ∙ rw (entries_read [] log.entries 0 small each text.legal.few) (
      ap (λ n. parsed (record { atoms = n; entries = log.entries }) (0 + length log.entries + 1) [])
      (sym over)
      ∙ ap (λ k. parsed log k [])
      (let e : 0 + length log.entries + 1 ≡ length log.entries + 1 = omega arith in e))

  -- And back: what comes of the pieces is the log of which they are the text.

  -- entries were read behind the first ones
  record EntriesRead (front : List LogEntry) (ps : List PieceBytes) (entries : List LogEntry)
      (qs : List PieceBytes) (rest : List LogEntry) : Type 0
    where
      pub entries_are : entries ≡ front ++ rest
      pub each : All (IsLogEntry atoms) rest
      pub few : AreFew entries
      pub pieces : ps ≡ as_pieces (lines_from rest) ++ qs

  -- the same of any first entries
  abbrev Reads : List PieceBytes → Type 0
  Reads ps =
      (front entries : List LogEntry) (n m : ℕ) (qs : List PieceBytes) → AreFew front
      → many_till R.Place (log_line atoms) front n ps ≡ parsed entries m qs
      → (rest : List LogEntry) × EntriesRead front ps entries qs rest

  turn_is : (front entries : List LogEntry) (n m : ℕ) (line : List ℕ) (ps qs : List PieceBytes)
      (said : Result (Option (List LogEntry)) LogRefusal) → Reads ps → AreFew front
      → log_line atoms front line ≡ said → behind atoms front n ps said ≡ parsed entries m qs
      → (rest : List LogEntry) × EntriesRead front (Some line ∷ ps) entries qs rest
  turn_is front entries n m line ps qs (Err b) more few is e = absurd cc
  turn_is front entries n m line ps qs (Ok None) more few is e =
      let same : front ≡ entries = cc in
      let left : ps ≡ qs = cc in (
        [],
        record {
          entries_are = sym same ∙ sym (append-nil front);
          each = All-nil (IsLogEntry atoms);
          few = subst AreFew same few;
          pieces = ap (λ l. Some l ∷ ps) (end_is atoms front line is)
              ∙ ap (λ z. Some end_line ∷ z) left;
        },
      )
  turn_is front entries n m line ps qs (Ok (Some all)) more few is e =
      let x = entry_more atoms front all line is in
      let r = more all entries n m qs x.2 e in (
        x.0 ∷ r.0,
        record {
          entries_are = r.1.entries_are ∙ ap (λ es. es ++ r.0) x.3
              ∙ append_assoc front (x.0 ∷ []) r.0;
          each = All-cons (IsLogEntry atoms) x.0 r.0 x.1.legal r.1.each;
          few = r.1.few;
          pieces = ap (λ l. Some l ∷ ps) x.1.spelled
              ∙ ap (λ z. Some (entry_line x.0) ∷ z) r.1.pieces;
        },
      )

  lines_are : (ps : List PieceBytes) → Reads ps
  lines_are [] front entries n m qs few e = absurd cc
  lines_are (None ∷ ps) front entries n m qs few e = absurd cc
  lines_are (Some line ∷ ps) front entries n m qs few e =
      turn_is front entries (n + 1) m line ps qs (log_line atoms front line) (lines_are ps) few refl
      e

  same_log : (a b : SearchLog) (n m : ℕ) (ps qs : List PieceBytes)
      → ◌≡◌ {A = Outcome LogRefusal SearchLog} (parsed a n ps) (parsed b m qs) → a ≡ b
  same_log a b n m ps qs e = cc

  nothing_behind : (o : Outcome LogRefusal (List LogEntry)) (log : SearchLog) (n : ℕ)
      (rest : List PieceBytes)
      → after o (λ entries. end_of_input R.Place
      >> pure (record { atoms = atoms; entries = entries })) ≡ parsed log n rest
      → (m : ℕ) × (o ≡ parsed log.entries m []) × (log.atoms ≡ atoms)
  nothing_behind (parsed entries m []) log n rest e =
      let same = same_log (record { atoms = atoms; entries = entries }) log m n [] rest e in (
        m,
        ap (λ (l : SearchLog). parsed l.entries m []) same,
        sym (ap (λ (l : SearchLog). l.atoms) same),
      )
  nothing_behind (parsed entries m (None ∷ qs)) log n rest e = absurd cc
  nothing_behind (parsed entries m (Some l ∷ qs)) log n rest e = absurd cc
  nothing_behind (refused m b) log n rest e = absurd cc
  nothing_behind (long m) log n rest e = absurd cc

-- The lines of a file within a limit have no more bytes than it says.

-- how many bytes the lines have together, their LFs not counted
abbrev line_bytes : List (List ℕ) → ℕ
line_bytes lines = sum_by (λ line. length line) lines

lines_of_entries : (entries : List LogEntry)
    → line_bytes (map entry_line entries) ≡ listed_bytes entries
lines_of_entries [] = refl
lines_of_entries (x ∷ xs) =
    let lines = sum_by-cons (λ (l : List ℕ). length l) (entry_line x) (map entry_line xs) in
    let listed = sum_by-cons (λ (y : LogEntry). length (entry_line y)) x xs in
    let rest = lines_of_entries xs in
    omega arith

abbrev Fit : Limits → ℕ → List (List ℕ) → Type 0
Fit limits earlier given = (given ≡ []) ⊎ (earlier + line_bytes given ≤ limits.file)

fit_more : (limits : Limits) (earlier : ℕ) (g : List ℕ) (given : List (List ℕ))
    → earlier + last_byte (length g) ≤ limits.file → Fit limits (earlier + (length g + 1)) given
    → earlier + line_bytes (g ∷ given) ≤ limits.file
fit_more limits earlier g given last (inl none) =
    let all = sum_by-cons (λ (l : List ℕ). length l) g given in
    let nothing : line_bytes given ≡ 0 = ap line_bytes none in
    omega arith
fit_more limits earlier g given last (inr more) =
    let all = sum_by-cons (λ (l : List ℕ). length l) g given in
    omega arith

fit_first : (limits : Limits) (earlier : ℕ) (g l : List ℕ) (given lines : List (List ℕ)) (t : Bool)
    → fits_limits limits earlier (length l) ≡ t
    → ◌≡◌ {A = List PieceBytes} (Some g ∷ as_pieces given)
    (cond t (Some l ∷ pieces_after limits (earlier + (length l + 1)) lines) (None ∷ []))
    → (as_pieces given ≡ pieces_after limits (earlier + (length l + 1)) lines
    → Fit limits (earlier + (length l + 1)) given)
    → earlier + line_bytes (g ∷ given) ≤ limits.file
fit_first limits earlier g l given lines false fits e more = absurd cc
fit_first limits earlier g l given lines true fits e more =
    let same : l ≡ g = cc in
    let rest : as_pieces given ≡ pieces_after limits (earlier + (length l + 1)) lines = cc in
    fit_more limits earlier g given
    (subst (λ x. earlier + last_byte (length x) ≤ limits.file) same
    (fits_from-true limits earlier (length l) fits).in_file)
    (subst (λ x. Fit limits (earlier + (length x + 1)) given) same (more rest))

lines_fit : (limits : Limits) (earlier : ℕ) (given lines : List (List ℕ))
    → as_pieces given ≡ pieces_after limits earlier lines → Fit limits earlier given
lines_fit limits earlier [] lines e = inl refl
lines_fit limits earlier (g ∷ given) [] e = absurd cc
lines_fit limits earlier (g ∷ given) (l ∷ lines) e =
    inr (fit_first limits earlier g l given lines (fits_limits limits earlier (length l)) refl e
    (lines_fit limits (earlier + (length l + 1)) given lines))

few_bytes : (bytes : List ℕ) (entries : List LogEntry)
    → as_pieces (lines_from entries) ≡ pieces_of log_limits bytes → listed_bytes entries ≤ 8388608
few_bytes bytes entries e =
    let all = sum_by_push (λ (l : List ℕ). length l) (map entry_line entries) end_line in
    let listed = lines_of_entries entries in
    elim (lines_fit log_limits 0 (lines_from entries) (lines_of bytes) e) [
      | inl none ↦ absurd (let size = ap (λ (ls : List (List ℕ)). length ls) none in
          let longer = length_push (map entry_line entries) end_line in
          omega arith)
      | inr fit ↦ omega arith
    ]

pub read_is_text : (atoms : ℕ) (bytes : List ℕ) (log : SearchLog) (n : ℕ) (rest : List PieceBytes)
    → log_file atoms 0 (pieces_of log_limits bytes) ≡ parsed log n rest
    → AreLogTextOf atoms (pieces_of log_limits bytes) log
read_is_text atoms bytes log n rest e =
    let pieces = pieces_of log_limits bytes in
    let o = nothing_behind atoms (many_till R.Place (log_line atoms) [] 0 pieces) log n rest e in
    let w = lines_are atoms pieces [] log.entries 0 o.0 []
    (record { expanded = omega arith; pruned = omega arith }) o.1 in
    let spelled : as_pieces (lines_from log.entries) ≡ pieces =
    ap (λ es. as_pieces (lines_from es)) w.1.entries_are
    ∙ sym (w.1.pieces ∙ append-nil (as_pieces (lines_from w.0))) in (
      o.2,
      record {
        legal = record {
          each = subst (λ k. All (IsLogEntry k) log.entries) (sym o.2)
              (subst (All (IsLogEntry atoms)) (sym w.1.entries_are) w.1.each);
          few = w.1.few;
          small = few_bytes bytes log.entries spelled;
        };
        spelled = spelled;
      },
    )

-- the log that is answered is the one that comes of the whole file
pub answers_log : (files : Option Names) (name : List ℕ) (atoms : ℕ) (log read : SearchLog)
    → log ≡ read
    → IfSome files (λ f. IsReadAs (log_file atoms 0 (pieces_of log_limits (bytes_of f name)))
    (Ok read))
    → IfSome files (λ f. IsLogReadFrom atoms (bytes_of f name) (Ok log))
answers_log None name atoms log read same h = tt
answers_log (Some f) name atoms log read same h =
    subst (AreLogTextOf atoms (pieces_of log_limits (bytes_of f name))) (sym same)
    (read_is_text atoms (bytes_of f name) read h.0 h.1 h.2)
