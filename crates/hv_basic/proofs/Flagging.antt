-- What is kept of an action set, and verdicts by it.
use Rattle.std.proofs.Common.{◌≡◌, ℕ, ◌<◌, ◌≤◌, ◌∙◌, ◌⊎◌, ◌||◌, Bool, true, false, List, ◌∷◌, Some}
use Rattle.std.proofs.Common.{length, get_or, eqb, refl, sym, ap, ap₂, subst, inl, inr, arith}
use Rattle.std.proofs.lemmas.Bool.{cases_lt}
use Rattle.std.proofs.lemmas.List.{get_or_default}
use Rattle.std.specs.List.{Contains, list_any}
use Rattle.std.specs.List.Sorted.{IsStrictlyIncreasing}
use Rattle.hv_task.proofs.Rising.{rises_upto}
use Rattle.hv_task.specs.Strips.{Strips}
use Rattle.hv_lines.specs.Meaning.{acts_of}
use Rattle.hv_lines.specs.Numbering.{IsTable, MayFollow, acts_at, acts_count}
use Rattle.hv_lines.specs.Verdicts.{IsOutside}
use Rattle.hv_lines.specs.declared.line.Acts.TheVariants as A
use Rattle.hv_lines.specs.declared.line.Line.{Line}
use Rattle.hv_lines.specs.declared.line.Line.TheVariants as L
use Rattle.hv_lines.proofs.Laws.{acts_law, acts_more}
use Rattle.hv_basic.specs.Sharing.{AreItsFlags}
use Rattle.hv_basic.specs.Working.Flags.{IsActsBeside, AreTakenFlags, flag_or_false}
use Rattle.hv_basic.specs.declared.shared.FlaggedActs.{FlaggedActs}
use Rattle.hv_basic.proofs.Listed.{had, listed_at}

-- the count of action sets grows
acts_grow : (line : Line) (older : List Line) → acts_count older ≤ acts_count (line ∷ older)
acts_grow (L.Acts id x) older = omega arith
acts_grow (L.Expr id x) older = omega arith
acts_grow (L.Known id st w ps) older = omega arith

-- what is kept of an action set stays right when a line is added
pub flagged_more : (line : Line) (older : List Line) (kept : FlaggedActs) → MayFollow older line
    → AreItsFlags older kept → AreItsFlags (line ∷ older) kept
flagged_more line older kept next is = record {
  table = (next, is.table);
  below = omega (arith, is.below, acts_grow line older);
  true_for = λ number within.
      is.true_for number within
      ∙ ap (λ f. f number) (sym (acts_more line older kept.acts next is.below));
}

or_in_left : (a b : Bool) → a ≡ true → (a || b) ≡ true
or_in_left true b e = refl
or_in_left false b e = absurd (cc (e))

or_in_right : (a b : Bool) → b ≡ true → (a || b) ≡ true
or_in_right true b e = refl
or_in_right false b e = e

or_turned : (a b : Bool) → (a || b) ≡ (b || a)
or_turned true true = refl
or_turned true false = refl
or_turned false true = refl
or_turned false false = refl

-- what a part has, the union has
pub part_within : (lines : List Line) (table : IsTable lines) (second left right number : ℕ)
    → acts_at lines second ≡ Some (A.Both left right)
    → (acts_of lines left number ≡ true) ⊎ (acts_of lines right number ≡ true)
    → acts_of lines second number ≡ true
part_within lines table second left right number says has =
    ap (λ f. f number) (acts_law lines second (A.Both left right) table says)
    ∙ elim has [
      | inl first ↦ or_in_left (acts_of lines left number) (acts_of lines right number) first
      | inr other ↦ or_in_right (acts_of lines left number) (acts_of lines right number) other
    ]

-- all actions are in it
pub all_within : (lines : List Line) (table : IsTable lines) (second number : ℕ)
    → acts_at lines second ≡ Some A.All → acts_of lines second number ≡ true
all_within lines table second number says =
    ap (λ f. f number) (acts_law lines second A.All table says)

-- the flags of an action set and of a further list are those of their union
pub flagged_with : (lines : List Line) (old new : FlaggedActs) (acts part : ℕ)
    (listed : List ℕ) → acts < acts_count lines → AreItsFlags lines old
    → IsActsBeside lines old.acts acts part → acts_at lines part ≡ Some (A.List listed)
    → new.acts ≡ acts
    → length new.flags.items ≡ length old.flags.items
    → ((number : ℕ) → number < length old.flags.items → flag_or_false new.flags.items number
    ≡ (flag_or_false old.flags.items number || list_any (λ n. eqb n number) listed))
    → AreTakenFlags lines acts (length old.flags.items) new
flagged_with lines old new acts part listed below is (_, both) says same size set = record {
  is = same;
  each = size;
  flagged = record {
    table = is.table;
    below = subst (λ a. a < acts_count lines) (sym same) below;
    true_for = λ number within.
        let inside : number < length old.flags.items = omega (arith, within, size) in
        let joined : (acts_of lines old.acts number || acts_of lines part number)
        ≡ acts_of lines acts number =
        elim both [
          | inl at ↦
              sym (ap (λ f. f number) (acts_law lines acts (A.Both old.acts part) is.table at))
          | inr at ↦ or_turned (acts_of lines old.acts number) (acts_of lines part number)
              ∙ sym (ap (λ f. f number) (acts_law lines acts (A.Both part old.acts) is.table at))
        ] in
        set number inside
        ∙ (ap₂ (λ a b. a || b) (is.true_for number inside)
        (sym (ap (λ f. f number) (acts_law lines part (A.List listed) is.table says)))
        ∙ (joined ∙ ap (λ a. acts_of lines a number) (sym same)));
  };
}

-- verdicts by the flags of the second action set
module _ (task : Strips) (lines : List Line) (first second : ℕ) (seconds : FlaggedActs)
    (are : AreTakenFlags lines second (length task.actions) seconds) where
  pub flag_is : (number : ℕ) → number < length task.actions
      → flag_or_false seconds.flags.items number ≡ acts_of lines second number
  flag_is number below =
      let each = are.each in
      are.flagged.true_for number (omega (arith, below, each))
      ∙ ap (λ a. acts_of lines a number) are.is

  -- an action with a flag isn't outside
  pub not_outside : (number : ℕ)
      → (number < length task.actions → flag_or_false seconds.flags.items number ≡ true)
      → IsOutside task lines first second number → ⊥
  not_outside number flagged (below, has, out) =
      let both : true ≡ false = sym (flagged below) ∙ (flag_is number below ∙ out) in
      absurd (cc (both))

  -- a list that rises is gone through: of the actions before a place each has its flag
  module _ (listed : List ℕ) (rises : IsStrictlyIncreasing listed)
      (says : acts_at lines first ≡ Some (A.List listed)) where
    abbrev pub AreFlaggedTo : ℕ → Type 0
    AreFlaggedTo i = (j : ℕ) → j < i → get_or listed j 0 < length task.actions
        → flag_or_false seconds.flags.items (get_or listed j 0) ≡ true

    meaning : acts_of lines first ≡ (λ number. list_any (λ n. eqb n number) listed)
    meaning = acts_law lines first (A.List listed) are.flagged.table says

    at_list : (number : ℕ) → acts_of lines first number ≡ true → Contains listed number
    at_list number has = listed_at lines first listed rises meaning (length task.actions) number has

    none_there : (number j : ℕ) → get_or listed j 0 ≡ number
        → (get_or listed j 0 < length task.actions
        → flag_or_false seconds.flags.items (get_or listed j 0) ≡ true)
        → IsOutside task lines first second number → ⊥
    none_there number j here flagged outside =
        not_outside number (λ below.
        subst (λ n. flag_or_false seconds.flags.items n ≡ true) here
        (flagged (omega (arith, below, here)))) outside

    pub all_flagged : (i : ℕ) → length listed ≤ i → AreFlaggedTo i → (number : ℕ)
        → IsOutside task lines first second number → ⊥
    all_flagged i whole flagged number outside =
        let c = at_list number outside.1 in
        let here : get_or listed c.0 0 ≡ number = get_or_default listed c.0 0 number c.1 ∙ c.2 in
        none_there number c.0 here (flagged c.0 (omega (arith, whole, c.1))) outside

    pub none_lower : (i number : ℕ) → AreFlaggedTo i → i < length listed
        → get_or listed i 0 ≡ number → (lower : ℕ) → lower < number
        → IsOutside task lines first second lower → ⊥
    none_lower i number flagged within at lower less outside =
        let c = at_list lower outside.1 in
        let here : get_or listed c.0 0 ≡ lower = get_or_default listed c.0 0 lower c.1 ∙ c.2 in
        elim (cases_lt c.0 i) [
          | inl before ↦ none_there lower c.0 here (flagged c.0 before) outside
          | inr from ↦
              let up = rises_upto listed i c.0 rises from c.1 in
              absurd (omega (arith, up, here, at, less))
        ]

    pub has_it : (i number : ℕ) → i < length listed → get_or listed i 0 ≡ number
        → acts_of lines first number ≡ true
    has_it i number within at =
        subst (λ n. acts_of lines first n ≡ true) at
        (had lines first listed rises meaning (length task.actions) i within)
