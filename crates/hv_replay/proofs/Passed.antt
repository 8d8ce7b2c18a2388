-- Entries within the limits, and what a line of a log comes to.
use Rattle.std.proofs.Common.{◌≡◌, ℕ, ◌<◌, ◌^◌, ◌∙◌, ◌++◌, ◌⊎◌, Bool, true, false, List}
use Rattle.std.proofs.Common.{[], ◌∷◌, Option, None, Some, Result, Ok, cond, inl, inr, map}
use Rattle.std.proofs.Common.{nat_lt, refl, ap, arith}
use Rattle.std.specs.Prelude.{decimal, not}
use Rattle.std.specs.List.{join_with_byte}
use Rattle.std.specs.Str.{bytes_eq}
use Rattle.std.proofs.lemmas.Bool.{false_from_ne_true, le-ltb, ltb-false}
use Rattle.std.proofs.lemmas.List.Sums.{sum_by-append}
use Rattle.std.proofs.lemmas.Slice.Eq.{bytes_eq-Decides}
use Rattle.hv_replay.specs.LogFile.{end_line, entry_in, log_line, or_limit, passed_limit}
use Rattle.hv_replay.specs.LogFile.{with_entry}
use Rattle.hv_replay.specs.Logs.{AreFew, IsLogEntry, LogEntry, entry_line, expanded_count}
use Rattle.hv_replay.specs.Logs.{letter_of, pruned_count}
use Rattle.hv_replay.specs.Working.LogText.{IsEntryLine}
use Rattle.hv_replay.specs.declared.fault.LogLimit.{LogLimit}
use Rattle.hv_replay.specs.declared.fault.LogLimit.TheVariants as W
use Rattle.hv_replay.specs.declared.fault.LogRefusal.{LogRefusal}
use Rattle.hv_replay.proofs.Fields.{entry_is, is_entry}

-- entries that are few pass no limit
pub few_pass_none : (entries : List LogEntry) → AreFew entries → passed_limit entries ≡ None
few_pass_none entries few =
    rw (le-ltb 1000000 (expanded_count entries) few.expanded)
    (rw (le-ltb 65000 (pruned_count entries) few.pruned) refl)

none : (t u : Bool)
    → ◌≡◌ {A = Option LogLimit} (cond t (Some W.Expanded) (cond u (Some W.Pruned) None)) None
    → (t ≡ false) × (u ≡ false)
none true u e = absurd cc
none false true e = absurd cc
none false false e = (refl, refl)

pub none_passed : (entries : List LogEntry) → passed_limit entries ≡ None → AreFew entries
none_passed entries e =
    let w = none (nat_lt 1000000 (expanded_count entries)) (nat_lt 65000 (pruned_count entries)) e
    in
    record {
      expanded = ltb-false 1000000 (expanded_count entries) w.0;
      pruned = ltb-false 65000 (pruned_count entries) w.1;
    }

-- the first ones of few entries are few
pub few_first : (entries more : List LogEntry) → AreFew (entries ++ more) → AreFew entries
few_first entries more few =
    let expanded = sum_by-append (λ (x : LogEntry). cond x.expanded 1 0) entries more in
    let pruned = sum_by-append (λ (x : LogEntry). cond (not x.expanded) 1 0) entries more in
    let e = few.expanded in
    let p = few.pruned in
    record { expanded = omega arith; pruned = omega arith }

first_byte : List ℕ → ℕ
first_byte [] = 0
first_byte (b ∷ bytes) = b

not_end : (expanded : Bool) (fields : List (List ℕ))
    → join_with_byte 32 (letter_of expanded ∷ fields) ≡ end_line → ⊥
unfolding first_byte
not_end true [] e = let h : ◌≡◌ {A = ℕ} 120 101 = ap first_byte e in absurd (omega (arith, h))
not_end true (f ∷ fs) e = let h : ◌≡◌ {A = ℕ} 120 101 = ap first_byte e in absurd (omega (arith, h))
not_end false [] e = let h : ◌≡◌ {A = ℕ} 112 101 = ap first_byte e in absurd (omega (arith, h))
not_end false (f ∷ fs) e = let h : ◌≡◌ {A = ℕ} 112 101 = ap first_byte e in
    absurd (omega (arith, h))

-- no entry's line is the last line
entry_not_end : (entry : LogEntry) → bytes_eq (entry_line entry) end_line ≡ false
entry_not_end entry =
    false_from_ne_true (bytes_eq (entry_line entry) end_line)
    (λ t. not_end entry.expanded (map decimal entry.state)
    ((bytes_eq-Decides (entry_line entry) end_line).0 t))

-- What is said of a line.

pub end_said : (atoms : ℕ) (entries : List LogEntry) → log_line atoms entries end_line ≡ Ok None
end_said atoms entries =
    ap (λ t. cond t (Ok None) (with_entry entries (entry_in atoms end_line)))
    ((bytes_eq-Decides end_line end_line).1 refl)

pub entry_said : (atoms : ℕ) (entries : List LogEntry) (entry : LogEntry) → atoms < 10 ^ 18
    → IsLogEntry atoms entry → AreFew (entries ++ entry ∷ [])
    → log_line atoms entries (entry_line entry) ≡ Ok (Some (entries ++ entry ∷ []))
entry_said atoms entries entry few legal are_few =
    ap (λ t. cond t (Ok None) (with_entry entries (entry_in atoms (entry_line entry))))
    (entry_not_end entry)
    ∙ ap (with_entry entries) (is_entry atoms (entry_line entry) few entry
    (record { spelled = refl; legal = legal }))
    ∙ ap (or_limit (entries ++ entry ∷ [])) (few_pass_none (entries ++ entry ∷ []) are_few)

passed_not : (more : List LogEntry) (p : Option LogLimit) (o : Option (List LogEntry))
    → ◌≡◌ {A = Result (Option (List LogEntry)) LogRefusal} (or_limit more p) (Ok o)
    → (p ≡ None) × (o ≡ Some more)
passed_not more None o e = (refl, cc)
passed_not more (Some limit) o e = absurd cc

went_on : (entries : List LogEntry) (x : Option LogEntry) (o : Option (List LogEntry))
    → ◌≡◌ {A = Result (Option (List LogEntry)) LogRefusal} (with_entry entries x) (Ok o)
    → (entry : LogEntry) × (x ≡ Some entry) × (passed_limit (entries ++ entry ∷ []) ≡ None)
    × (o ≡ Some (entries ++ entry ∷ []))
went_on entries None o e = absurd cc
went_on entries (Some entry) o e =
    let w = passed_not (entries ++ entry ∷ []) (passed_limit (entries ++ entry ∷ [])) o e in
    (entry, refl, w.0, w.1)

said : (entries : List LogEntry) (t : Bool) (x : Option LogEntry) (o : Option (List LogEntry))
    → ◌≡◌ {A = Result (Option (List LogEntry)) LogRefusal}
    (cond t (Ok None) (with_entry entries x)) (Ok o)
    → ((t ≡ true) × (o ≡ None))
    ⊎ ((entry : LogEntry) × (x ≡ Some entry) × (passed_limit (entries ++ entry ∷ []) ≡ None)
    × (o ≡ Some (entries ++ entry ∷ [])))
said entries true x o e = inl (refl, cc)
said entries false x o e = inr (went_on entries x o e)

-- a line that closes a log is the last line
pub end_is : (atoms : ℕ) (entries : List LogEntry) (line : List ℕ)
    → log_line atoms entries line ≡ Ok None → line ≡ end_line
end_is atoms entries line e =
    elim (said entries (bytes_eq line end_line) (entry_in atoms line) None e) [
      | inl w ↦ (bytes_eq-Decides line end_line).0 w.0
      | inr w ↦ absurd (let f = w.3 in cc)
    ]

-- a line with which entries go on is that of one more entry
pub entry_more : (atoms : ℕ) (entries more : List LogEntry) (line : List ℕ)
    → log_line atoms entries line ≡ Ok (Some more)
    → (entry : LogEntry) × IsEntryLine atoms line entry × AreFew more
    × (more ≡ entries ++ entry ∷ [])
entry_more atoms entries more line e =
    elim (said entries (bytes_eq line end_line) (entry_in atoms line) (Some more) e) [
      | inl w ↦ absurd (let f = w.1 in cc)
      | inr w ↦
          let same : more ≡ entries ++ w.0 ∷ [] = let f = w.3 in cc in (
            w.0,
            entry_is atoms line w.0 w.1,
            none_passed more (ap passed_limit same ∙ w.2),
            same,
          )
    ]
