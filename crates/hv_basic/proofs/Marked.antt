-- Going through the action sets that an action set is made of, from the newest to the oldest.
use Rattle.std.proofs.Common.{◌≡◌, ℕ, ◌+◌, ◌<◌, ◌≤◌, ◌∙◌, ◌⊎◌, ◌↔◌, ◌||◌, Bool, true, false, List}
use Rattle.std.proofs.Common.{length, get_or, replicate, set, eqb, refl, sym, ap, subst, inl, inr}
use Rattle.std.proofs.Common.{arith, Some}
use Rattle.std.proofs.lemmas.Bool.{cases_lt, false≢true, or_cases}
use Rattle.std.proofs.lemmas.List.{get_or_default, get_or-set_same, get_or-set_other}
use Rattle.std.proofs.lemmas.List.{get_or-replicate, length-set, length-replicate}
use Rattle.std.specs.List.{list_any}
use Rattle.hv_lines.specs.Meaning.{acts_of, has_action}
use Rattle.hv_lines.specs.Numbering.{IsTable, ActsReferBelow, acts_at}
use Rattle.hv_lines.specs.declared.line.Acts.{Acts}
use Rattle.hv_lines.specs.declared.line.Acts.TheVariants as A
use Rattle.hv_lines.specs.declared.line.Line.{Line}
use Rattle.hv_lines.proofs.Laws.{acts_law, acts_refer}
use Rattle.hv_basic.specs.Working.Flags.{AreFlagsOf, Marks, flag_or_false}

-- an action set below this identifier is wanted and has the action
abbrev pub IsWanted : List Line → List Bool → ℕ → ℕ → Type 0
IsWanted lines wanted bound number =
    (id : ℕ) × (id < bound) × (flag_or_false wanted id ≡ true) × (acts_of lines id number ≡ true)

-- the root has the action exactly where its flag is set or an action set that is still wanted has
-- it
abbrev pub Covers : List Line → ℕ → List Bool → List Bool → ℕ → ℕ → Type 0
Covers lines root flags wanted bound number =
    (acts_of lines root number ≡ true) ↔ ((flag_or_false flags number ≡ true)
    ⊎ IsWanted lines wanted bound number)

-- what holds while the action sets are gone through
pub record IsMarking (lines : List Line) (root actions : ℕ) (flags wanted : List Bool) (bound : ℕ) :
    Type 0 where
  pub within : bound ≤ root + 1
  pub wanted_for : length wanted ≡ root + 1
  pub each : length flags ≡ actions
  pub covers : (number : ℕ) → number < actions → Covers lines root flags wanted bound number

or_left : (a b : Bool) → a ≡ true → (a || b) ≡ true
or_left a b e = rw e refl

or_right : (a b : Bool) → b ≡ true → (a || b) ≡ true
or_right true b e = refl
or_right false b e = e

-- a flag that is set stays set
set_keeps : (xs : List Bool) (i j : ℕ) → i < length xs → flag_or_false xs j ≡ true
    → flag_or_false (set xs i true) j ≡ true
set_keeps xs i j within e =
    elim (cases_lt i j) [
      | inl less ↦ get_or-set_other xs i j true false (omega arith) ∙ e
      | inr upto ↦
          elim (cases_lt j i) [
            | inl less ↦ get_or-set_other xs i j true false (omega arith) ∙ e
            | inr also ↦ let same : i ≡ j = omega arith in
                subst (λ k. flag_or_false (set xs i true) k ≡ true) same
                (get_or-set_same xs i true false within)
          ]
    ]

-- a flag that is set was set before, or is at the place that was written
set_was : (xs : List Bool) (i j : ℕ) → flag_or_false (set xs i true) j ≡ true
    → (j ≡ i) ⊎ (flag_or_false xs j ≡ true)
set_was xs i j e =
    elim (cases_lt i j) [
      | inl less ↦ inr (sym (get_or-set_other xs i j true false (omega arith)) ∙ e)
      | inr upto ↦
          elim (cases_lt j i) [
            | inl less ↦ inr (sym (get_or-set_other xs i j true false (omega arith)) ∙ e)
            | inr also ↦ inl (omega arith)
          ]
    ]

module _ (lines : List Line) (root : ℕ) (flags wanted : List Bool) (bound number : ℕ)
    (covers : Covers lines root flags wanted (bound + 1) number) where
  module _ (is_wanted : flag_or_false wanted bound ≡ true) (acts : Acts)
      (refers : ActsReferBelow bound acts)
      (meaning : acts_of lines bound number ≡ has_action (acts_of lines) acts number) where
    -- the root has what the action set has
    root_has : has_action (acts_of lines) acts number ≡ true → acts_of lines root number ≡ true
    root_has h = covers.1 (inr (bound, omega arith, is_wanted, meaning ∙ h))

    -- what the root has is flagged, had by an older action set that is wanted, or had by this one
    had : acts_of lines root number ≡ true
        → (flag_or_false flags number ≡ true)
        ⊎ (IsWanted lines wanted bound number ⊎ (has_action (acts_of lines) acts number ≡ true))
    had has =
        elim (covers.0 has) [
          | inl flag ↦ inl flag
          | inr w ↦
              elim (cases_lt w.0 bound) [
                | inl less ↦ inr (inl (w.0, less, w.2, w.3))
                | inr upto ↦
                    let same : w.0 ≡ bound = omega (arith, w.1) in
                    inr (inr (sym meaning ∙ (ap (λ id. acts_of lines id number) (sym same) ∙ w.3)))
              ]
        ]

-- after an action set that is wanted was looked at
pub covers_mark : (lines : List Line) (root : ℕ) (flags wanted new_flags new_wanted : List Bool)
    (bound number : ℕ)
    → Covers lines root flags wanted (bound + 1) number → number < length flags
    → bound ≤ length wanted → flag_or_false wanted bound ≡ true
    → (acts : Acts) → ActsReferBelow bound acts
    → acts_of lines bound number ≡ has_action (acts_of lines) acts number
    → Marks acts flags wanted new_flags new_wanted
    → Covers lines root new_flags new_wanted bound number
covers_mark lines root flags wanted new_flags new_wanted bound number covers here inside is_wanted
    A.All refers meaning marks =
    let flag : flag_or_false new_flags number ≡ true =
    ap (λ xs. flag_or_false xs number) marks.0
    ∙ get_or-replicate (length flags) number true false here in (
      λ has. inl flag,
      λ e. root_has lines root flags wanted bound number covers is_wanted A.All
          refers meaning refl,
    )
covers_mark lines root flags wanted new_flags new_wanted bound number covers here inside is_wanted
    (A.List listed) refers meaning marks =
    let old = flag_or_false flags number in let in_list = list_any (λ n. eqb n number) listed in (
      λ has. elim (had lines root flags wanted bound number covers is_wanted (A.List listed) refers
          meaning has) [
            | inl flag ↦ inl (marks.1 number here ∙ or_left old in_list flag)
            | inr (inl w) ↦ inr (w.0, w.1, ap (λ xs. flag_or_false xs w.0) marks.2 ∙ w.2, w.3)
            | inr (inr h) ↦ inl (marks.1 number here ∙ or_right old in_list h)
          ],
      λ e. elim e [
        | inl flag ↦
            elim (or_cases old in_list (sym (marks.1 number here) ∙ flag)) [
              | inl was ↦ covers.1 (inl was)
              | inr h ↦ root_has lines root flags wanted bound number covers is_wanted
                  (A.List listed) refers meaning h
            ]
        | inr w ↦ covers.1 (inr (
          w.0,
          omega (arith, w.1),
          ap
              (λ xs. flag_or_false xs w.0) (sym marks.2) ∙ w.2,
          w.3,
        ))
      ],
    )
covers_mark lines root flags wanted new_flags new_wanted bound number covers here inside is_wanted
    (A.Both left right) refers meaning marks =
    let once = set wanted left true in
    let size : length once ≡ length wanted = length-set wanted left true in
    let left_in : left < length wanted = omega (arith, refers.0) in
    let right_in : right < length once = omega (arith, refers.1) in
    let acts_left = acts_of lines left number in let acts_right = acts_of lines right number in
    let wants : (id : ℕ) → flag_or_false (set once right true) id ≡ true
    → flag_or_false new_wanted id ≡ true =
    λ id e. ap (λ xs. flag_or_false xs id) marks.1 ∙ e in (
      λ has. elim (had lines root flags wanted bound number covers is_wanted (A.Both left right)
          refers meaning has) [
            | inl flag ↦ inl (ap (λ xs. flag_or_false xs number) marks.0 ∙ flag)
            | inr (inl w) ↦ inr (
              w.0,
              w.1,
              wants w.0
                  (set_keeps once right w.0 right_in (set_keeps wanted left w.0 left_in w.2)),
              w.3,
            )
            | inr (inr h) ↦
                elim (or_cases acts_left acts_right h) [
                  | inl a ↦ inr (
                    left,
                    refers.0,
                    wants left
                        (set_keeps once right left right_in
                        (get_or-set_same wanted left true false left_in)),
                    a,
                  )
                  | inr a ↦ inr (
                    right,
                    refers.1,
                    wants right
                        (get_or-set_same once right true false right_in),
                    a,
                  )
                ]
          ],
      λ e. elim e [
        | inl flag ↦ covers.1 (inl (ap (λ xs. flag_or_false xs number) (sym marks.0) ∙ flag))
        | inr w ↦
            let here_too = root_has lines root flags wanted bound number covers is_wanted
            (A.Both left right) refers meaning in
            elim (set_was once right w.0 (ap (λ xs. flag_or_false xs w.0) (sym marks.1) ∙ w.2)) [
              | inl at ↦ here_too (or_right acts_left acts_right
                  (ap (λ id. acts_of lines id number) (sym at) ∙ w.3))
              | inr more ↦
                  elim (set_was wanted left w.0 more) [
                    | inl at ↦ here_too (or_left acts_left acts_right
                        (ap (λ id. acts_of lines id number) (sym at) ∙ w.3))
                    | inr was ↦ covers.1 (inr (w.0, omega (arith, w.1), was, w.3))
                  ]
            ]
      ],
    )

-- as many flags and wanted action sets as before
marks_sizes : (acts : Acts) (flags wanted new_flags new_wanted : List Bool)
    → Marks acts flags wanted new_flags new_wanted
    → (length new_flags ≡ length flags) × (length new_wanted ≡ length wanted)
marks_sizes A.All flags wanted new_flags new_wanted marks =
    (ap length marks.0 ∙ length-replicate (length flags) true, ap length marks.1)
marks_sizes (A.List listed) flags wanted new_flags new_wanted marks = (marks.0, ap length marks.2)
marks_sizes (A.Both left right) flags wanted new_flags new_wanted marks = (
  ap length marks.0,
  ap length marks.1 ∙ (length-set (set wanted left true) right true ∙ length-set wanted left true),
)

-- one step back
pub marking_step : (lines : List Line) (root actions : ℕ)
    (flags wanted new_flags new_wanted : List Bool) (bound left : ℕ) → IsTable lines
    → IsMarking lines root actions flags wanted bound → bound ≡ left + 1
    → flag_or_false wanted left ≡ true
    → (acts : Acts) → acts_at lines left ≡ Some acts → Marks acts flags wanted new_flags new_wanted
    → IsMarking lines root actions new_flags new_wanted left
marking_step lines root actions flags wanted new_flags new_wanted bound left table m at is_wanted
    acts says marks =
    let sizes = marks_sizes acts flags wanted new_flags new_wanted marks in
    let m_within = m.within in let m_wanted = m.wanted_for in let m_each = m.each in
    record {
      within = omega arith;
      wanted_for = sizes.1 ∙ m.wanted_for;
      each = sizes.0 ∙ m.each;
      covers = λ number below.
          covers_mark lines root flags wanted new_flags new_wanted left number
          (subst (λ b. Covers lines root flags wanted b number) at (m.covers number below))
          (omega arith) (omega arith) is_wanted acts
          (acts_refer lines left acts table says)
          (ap (λ f. f number) (acts_law lines left acts table says)) marks;
    }

-- the first step: the root is wanted, and no flag is set
pub marking_start : (lines : List Line) (root actions : ℕ) (flags wanted : List Bool)
    → flags ≡ replicate actions false → wanted ≡ replicate (root + 1) false
    → IsMarking lines root actions flags (set wanted root true) (root + 1)
marking_start lines root actions flags wanted no_flags none_wanted =
    let count : length wanted ≡ root + 1 =
    ap length none_wanted ∙ length-replicate (root + 1) false in record {
      within = omega arith;
      wanted_for = length-set wanted root true ∙ count;
      each = ap length no_flags ∙ length-replicate actions false;
      covers = λ number below. (
        λ has. inr (
          root,
          omega arith,
          get_or-set_same wanted root true false (omega (arith, count)),
          has,
        ),
        λ e. elim e [
          | inl flag ↦ absurd (false≢true (sym (ap (λ xs. flag_or_false xs number) no_flags
              ∙ get_or-replicate actions number false false below) ∙ flag))
          | inr w ↦
              elim (set_was wanted root w.0 w.2) [
                | inl same ↦ subst (λ id. acts_of lines id number ≡ true) same w.3
                | inr was ↦ absurd (false≢true (sym (ap (λ xs. flag_or_false xs w.0) none_wanted
                    ∙ get_or-replicate (root + 1) w.0 false false w.1) ∙ was))
              ]
        ],
      );
    }

same_truth : (a b : Bool) → (a ≡ true → b ≡ true) → (b ≡ true → a ≡ true) → a ≡ b
same_truth true true there back = refl
same_truth true false there back = sym (there refl)
same_truth false true there back = back refl
same_truth false false there back = refl

-- the last step: no action set is wanted any more
pub marking_end : (lines : List Line) (root actions : ℕ) (flags wanted : List Bool) (left : ℕ)
    → left ≤ 0 → IsMarking lines root actions flags wanted left
    → AreFlagsOf lines root actions flags
marking_end lines root actions flags wanted left none m = record {
  each = m.each;
  true_for = λ number below.
      same_truth (flag_or_false flags number) (acts_of lines root number)
      (λ flag. (m.covers number below).1 (inl flag))
      (λ has. elim ((m.covers number below).0 has) [
        | inl flag ↦ flag
        | inr w ↦ absurd (omega (arith, none, w.1))
      ]);
}

-- a flag that was read as set is set
pub flag_from_index : (xs : List Bool) (i : ℕ) (d : Bool) → get_or xs i d ≡ true → i < length xs
    → flag_or_false xs i ≡ true
flag_from_index xs i d e within = get_or_default xs i false d within ∙ e
