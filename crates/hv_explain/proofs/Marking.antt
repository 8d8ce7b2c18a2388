-- Marks that are set, and lines that are gone through from the last to the first.
use Rattle.std.proofs.Common.{◌≡◌, ℕ, ◌+◌, ◌<◌, ◌≤◌, ◌∙◌, ◌⊎◌, Bool, true, false, List, [], ◌∷◌}
use Rattle.std.proofs.Common.{Some, length, set, get_or, refl, sym, ap, subst, inl, inr, arith}
use Rattle.std.proofs.lemmas.Bool.{cases_eq}
use Rattle.std.proofs.lemmas.List.{get_or_default, get_or-set_same, get_or-set_other, length-set}
use Rattle.std.proofs.lemmas.List.Elements.{All-cons, All-head, All-nil, All-tail, All-weaker}
use Rattle.std.proofs.lemmas.Option.{same_Some}
use Rattle.std.specs.List.{All}
use Rattle.hv_lines.specs.Numbering.{known_count, premises_at}
use Rattle.hv_lines.specs.declared.line.Line.{Line}
use Rattle.hv_explain.specs.Working.Marks.{AreMarkedFrom, MarkNeeded, is_line_marked, mark_all}

-- a mark, as it is read at its place
pub mark_at_place : (marks : List Bool) (id : ℕ) (other : Bool) → get_or marks id other ≡ true
    → id < length marks → is_line_marked marks id ≡ true
mark_at_place marks id other h below = get_or_default marks id false other below ∙ h

-- one mark more

set_grows : (marks : List Bool) (id k : ℕ) → id < length marks → is_line_marked marks k ≡ true
    → is_line_marked (set marks id true) k ≡ true
set_grows marks id k below h =
    elim (cases_eq k id) [
      | inl same ↦ subst (λ j. is_line_marked (set marks id true) j ≡ true) (sym same)
          (get_or-set_same marks id true false below)
      | inr other ↦ get_or-set_other marks id k true false other ∙ h
    ]

set_cases : (marks : List Bool) (id k : ℕ) → is_line_marked (set marks id true) k ≡ true
    → (is_line_marked marks k ≡ true) ⊎ (k ≡ id)
set_cases marks id k h =
    elim (cases_eq k id) [
      | inl same ↦ inr same
      | inr other ↦ inl (sym (get_or-set_other marks id k true false other) ∙ h)
    ]

-- several marks more

after_one : (marks : List Bool) (id : ℕ) (ids : List ℕ) → All (λ i. i < length marks) (id ∷ ids)
    → All (λ i. i < length (set marks id true)) ids
after_one marks id ids below =
    subst (λ n. All (λ i. i < n) ids) (sym (length-set marks id true))
    (All-tail (λ i. i < length marks) id ids below)

all_length : (marks : List Bool) (ids : List ℕ) → length (mark_all marks ids) ≡ length marks
all_length marks [] = refl
all_length marks (id ∷ ids) = all_length (set marks id true) ids ∙ length-set marks id true

all_grow : (marks : List Bool) (ids : List ℕ) (k : ℕ) → All (λ i. i < length marks) ids
    → is_line_marked marks k ≡ true
    → is_line_marked (mark_all marks ids) k ≡ true
all_grow marks [] k below h = h
all_grow marks (id ∷ ids) k below h =
    all_grow (set marks id true) ids k (after_one marks id ids below)
    (set_grows marks id k (All-head (λ i. i < length marks) id ids below) h)

all_marked : (marks : List Bool) (ids : List ℕ) → All (λ i. i < length marks) ids
    → All (λ i. is_line_marked (mark_all marks ids) i ≡ true) ids
all_marked marks [] below = All-nil (λ i. is_line_marked marks i ≡ true)
all_marked marks (id ∷ ids) below =
    All-cons (λ i. is_line_marked (mark_all (set marks id true) ids) i ≡ true) id ids
    (all_grow (set marks id true) ids id (after_one marks id ids below)
    (get_or-set_same marks id true false (All-head (λ i. i < length marks) id ids below)))
    (all_marked (set marks id true) ids (after_one marks id ids below))

all_within : (within : ℕ → Bool) (marks : List Bool) (ids : List ℕ)
    → ((k : ℕ) → is_line_marked marks k ≡ true → within k ≡ true)
    → All (λ i. within i ≡ true) ids → (k : ℕ) → is_line_marked (mark_all marks ids) k ≡ true
    → within k ≡ true
all_within within marks [] before each k h = before k h
all_within within marks (id ∷ ids) before each k h =
    all_within within (set marks id true) ids
    (λ j marked.
    elim (set_cases marks id j marked) [
      | inl old ↦ before j old
      | inr same ↦ subst (λ i. within i ≡ true) (sym same)
          (All-head (λ i. within i ≡ true) id ids each)
    ])
    (All-tail (λ i. within i ≡ true) id ids each) k h

all_rest : (bound : ℕ) (marks : List Bool) (ids : List ℕ) (k : ℕ) → All (λ i. i < bound) ids
    → bound ≤ k
    → is_line_marked (mark_all marks ids) k ≡ is_line_marked marks k
all_rest bound marks [] k below upto = refl
all_rest bound marks (id ∷ ids) k below upto =
    let less : id < bound = All-head (λ i. i < bound) id ids below in
    all_rest bound (set marks id true) ids k (All-tail (λ i. i < bound) id ids below) upto
    ∙ get_or-set_other marks id k true false (λ same. absurd (omega (arith, same, less, upto)))

-- a line is gone through

module _ (lines : List Line) (id : ℕ) (marks : List Bool) (m : AreMarkedFrom (id + 1) lines marks)
  where
    pub followed : (premises : List ℕ) → premises_at lines id ≡ Some premises
        → All (λ i. i < id) premises → id < known_count lines
        → is_line_marked marks id ≡ true → AreMarkedFrom id lines (mark_all marks premises)
    followed premises says before below here =
        let room : All (λ i. i < length marks) premises =
        All-weaker (λ i. i < id) (λ i. i < length marks)
        (λ i less. omega (arith, less, below, m.each)) premises before in
        record {
          each = all_length marks premises ∙ m.each;
          concludes = λ k first. all_grow marks premises k room (m.concludes k first);
          needed = λ k h within closed.
              all_within within marks premises (λ j old. m.needed j old within closed)
              (closed.keeps id premises says (m.needed id here within closed)) k h;
          keeps = λ k others upto said marked.
              elim (cases_eq k id) [
                | inl same ↦
                    let one : others ≡ premises = same_Some others premises
                    (sym said ∙ (ap (premises_at lines) same ∙ says)) in
                    subst (λ ps. All (λ i. is_line_marked (mark_all marks premises) i ≡ true) ps)
                    (sym one) (all_marked marks premises room)
                | inr other ↦
                    All-weaker (λ i. is_line_marked marks i ≡ true)
                    (λ i. is_line_marked (mark_all marks premises) i ≡ true)
                    (λ i old. all_grow marks premises i room old) others
                    (m.keeps k others (omega (arith, upto, other)) said
                    (sym (all_rest id marks premises k before upto) ∙ marked))
              ];
        }

-- after all lines

pub all_needed : (lines : List Line) (marks : List Bool) → AreMarkedFrom 0 lines marks
    → MarkNeeded lines marks
all_needed lines marks m k = (
  m.needed k,
  λ needed.
      needed (λ id. is_line_marked marks id) (record {
        concludes = m.concludes;
        keeps = λ id premises said marked. m.keeps id premises (omega arith) said marked;
      }),
)
