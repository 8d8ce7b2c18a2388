-- The clauses of what operands name: how many there are, when they are true, of which atoms they
-- speak, and which stands where.
use Rattle.std.proofs.Common.{◌≡◌, ℕ, zero, suc, ◌<◌, ◌≤◌, ◌∙◌, Bool, true, false, not, ◌&&◌, ◌||◌}
use Rattle.std.proofs.Common.{cond, List, [], ◌∷◌, length, map, refl, sym, ap, ap₂, subst, arith}
use Rattle.std.proofs.Common.{inl, inr, length-append, get_or}
use Rattle.std.proofs.lemmas.Bool.{and_parts, and_from, cases_lt}
use Rattle.std.proofs.lemmas.Bool.Decides.{same_from_decides}
use Rattle.std.proofs.lemmas.List.{get_or-map, get_or_append_left, get_or_push}
use Rattle.std.proofs.lemmas.List.{length-map}
use Rattle.std.proofs.lemmas.List.Elements.{All-map, All-nil, All-cons, All-push, All-weaker}
use Rattle.std.proofs.lemmas.List.Folds.{list_all-append}
use Rattle.std.specs.Bool.{Decides}
use Rattle.std.specs.List.{Contains}
use Rattle.hv_task.specs.State.{AreBelow, has_all, has_atom, names_atom, state_of}
use Rattle.hv_task.specs.Strips.{Strips, atoms}
use Rattle.hv_task.proofs.Places.{beq-Decides, has_atom-state_of, length-state_of}
use Rattle.hv_task.proofs.Places.{names_atom-Decides, same_state}
use Rattle.hv_sets.specs.declared.literal.Literal.{Literal}
use Rattle.hv_sets.specs.declared.operand.Which.{Which}
use Rattle.hv_sets.specs.declared.operand.Which.TheVariants as W
use Rattle.hv_sets.specs.Cost.{clauses_of}
use Rattle.hv_sets.specs.Cubes.{SpeakBelow}
use Rattle.hv_sets.specs.Query.{in_which}
use Rattle.hv_sets.specs.Truth.{in_clause, in_clauses, is_same}
use Rattle.hv_sets.proofs.Truths.{literal_from_same, same_from_literal}
use Rattle.hv_indexes.specs.Places.{clause_at}
use Rattle.hv_propagation.specs.Clauses.{AreClauses}
use Rattle.hv_clauses.specs.Store.{tests_of, sizes_of}
use Rattle.hv_clauses.specs.Working.Operands.{clauses_in, clauses_of_state, unit}
use Rattle.hv_propagation.specs.Marks.{over}
use Rattle.hv_propagation.proofs.Marked.{length-over}

alone_and : (b : Bool) → ((b || false) && true) ≡ b
alone_and true = refl
alone_and false = refl

alone_or : (b : Bool) → (b || false) ≡ b
alone_or true = refl
alone_or false = refl

-- there is a clause for each atom of the state
pub length-clauses_of_state : (n : ℕ) (held : List ℕ) → length (clauses_of_state n held) ≡ n
length-clauses_of_state zero held = refl
length-clauses_of_state (suc n) held =
    let more = length-append (clauses_of_state n held) (unit n (names_atom held n) ∷ []) in
    let rest = length-clauses_of_state n held in omega arith

-- as many clauses as the operand counts
pub clauses_of_is : (task : Strips) (formulas : ℕ → List (List Literal)) (which : Which)
    → clauses_of task (sizes_of formulas) which ≡ length (clauses_in task formulas which)
clauses_of_is task formulas W.Empty = refl
clauses_of_is task formulas W.Start = sym (length-clauses_of_state (atoms task) task.start)
clauses_of_is task formulas W.Goal = sym (length-map task.goal (λ atom. unit atom true))
clauses_of_is task formulas (W.Set number) = refl

module _ (held : List ℕ) (state : List Bool) where
  -- whether the state is as the list says about an atom
  abbrev is_right : ℕ → Bool
  is_right atom = cond (names_atom held atom) (has_atom state atom) (not (has_atom state atom))

  in_more : (n : ℕ)
      → in_clauses (clauses_of_state (suc n) held) state
      ≡ (in_clauses (clauses_of_state n held) state && is_right n)
  in_more n =
      list_all-append (λ clause. in_clause clause state) (clauses_of_state n held)
      (unit n (names_atom held n) ∷ [])
      ∙ ap (λ b. in_clauses (clauses_of_state n held) state && b) (alone_and (is_right n))

  -- a state in which the clauses are true has just the atoms of that state
  flags_from_clauses : (n : ℕ) → in_clauses (clauses_of_state n held) state ≡ true
      → (p : ℕ) → p < n → names_atom held p ≡ has_atom state p
  flags_from_clauses zero e p less = absurd (omega arith)
  flags_from_clauses (suc n) e p less =
      let parts = and_parts (in_clauses (clauses_of_state n held) state) (is_right n)
      (sym (in_more n) ∙ e) in
      elim (cases_lt p n) [
        | inl before ↦ flags_from_clauses n parts.0 p before
        | inr last ↦
            let same : n ≡ p = omega arith in
            subst (λ q. names_atom held q ≡ has_atom state q) same
            (same_from_literal (names_atom held n) (has_atom state n) parts.1)
      ]

  clauses_from_flags : (n : ℕ) → ((p : ℕ) → p < n → names_atom held p ≡ has_atom state p)
      → in_clauses (clauses_of_state n held) state ≡ true
  clauses_from_flags zero flags = refl
  clauses_from_flags (suc n) flags =
      in_more n ∙ and_from (in_clauses (clauses_of_state n held) state) (is_right n)
      (clauses_from_flags n (λ p less. flags p (omega arith)))
      (literal_from_same (names_atom held n) (has_atom state n) (flags n (omega arith)))

  -- the clauses of one state are true in just that state
  pub clauses_of_state_is : (n : ℕ) → length state ≡ n
      → is_same (state_of n held) state ≡ in_clauses (clauses_of_state n held) state
  clauses_of_state_is n size =
      same_from_decides {P = state_of n held ≡ state} (is_same (state_of n held) state)
      (in_clauses (clauses_of_state n held) state)
      (beq-Decides (state_of n held) state) (
        λ e. same_state (state_of n held) state (length-state_of n held ∙ sym size)
            (λ p within.
            let less : p < n = omega (arith, length-state_of n held) in
            has_atom-state_of n held p less ∙ flags_from_clauses n e p less),
        λ same. clauses_from_flags n (λ p less. sym (has_atom-state_of n held p less)
            ∙ ap (λ s. has_atom s p) same),
      )

-- the clauses of the goal states
abbrev pub clauses_of_goal : List ℕ → List (List Literal)
clauses_of_goal goal = map (λ atom. unit atom true) goal

-- they are true in just the states that have all these atoms
pub clauses_of_goal_are : (goal : List ℕ) (state : List Bool)
    → has_all goal state ≡ in_clauses (clauses_of_goal goal) state
clauses_of_goal_are [] state = refl
clauses_of_goal_are (atom ∷ goal) state =
    ap₂ (λ a b. a && b) (sym (alone_or (has_atom state atom))) (clauses_of_goal_are goal state)

-- the clauses of an operand are true in just the states of what it names
pub clauses_in_is : (task : Strips) (formulas : ℕ → List (List Literal)) (which : Which)
    (state : List Bool)
    → length state ≡ atoms task → in_which task (tests_of formulas) which state
    ≡ in_clauses (clauses_in task formulas which) state
clauses_in_is task formulas W.Empty state size = refl
clauses_in_is task formulas W.Start state size = clauses_of_state_is task.start state (atoms task)
    size
clauses_in_is task formulas W.Goal state size = clauses_of_goal_are task.goal state
clauses_in_is task formulas (W.Set number) state size = refl

-- a state that is the one of the list, seen through an effect, makes the clauses of it true
pub start_holds : (atoms : ℕ) (held effect : List ℕ) (state : List Bool) → length state ≡ atoms
    → is_same (state_of atoms held) (over effect state) ≡ true
    → in_clauses (clauses_of_state atoms held) (over effect state) ≡ true
start_holds atoms held effect state size e =
    sym (clauses_of_state_is held (over effect state) atoms (length-over effect state ∙ size)) ∙ e

-- a clause of one literal speaks of atoms below the bound if its atom is below
pub one_below : (bound : ℕ) (literal : Literal) (made : List Literal) → made ≡ literal ∷ []
    → literal.atom < bound
    → SpeakBelow bound made
one_below bound literal made e less =
    subst (SpeakBelow bound) (sym e) (All-cons
    (λ l. l.atom < bound) literal [] less (All-nil (λ l. l.atom < bound)))

unit_below : (bound atom : ℕ) (positive : Bool) → atom < bound
    → SpeakBelow bound (unit atom positive)
unit_below bound atom positive less = one_below bound (record { atom = atom; positive = positive })
    (unit atom positive) refl less

clauses_of_state_below : (n bound : ℕ) (held : List ℕ) → n ≤ bound
    → AreClauses bound (clauses_of_state n held)
clauses_of_state_below zero bound held upto = All-nil (SpeakBelow bound)
clauses_of_state_below (suc n) bound held upto =
    All-push (SpeakBelow bound) (clauses_of_state n held) (unit n (names_atom held n))
    (clauses_of_state_below n bound held (omega arith))
    (unit_below bound n (names_atom held n) (omega arith))

clauses_of_goal_below : (bound : ℕ) (goal : List ℕ) → AreBelow bound goal
    → AreClauses bound (clauses_of_goal goal)
clauses_of_goal_below bound goal below =
    All-map (SpeakBelow bound) (λ atom. unit atom true) goal
    (All-weaker (λ atom. atom < bound) (λ atom. SpeakBelow bound (unit atom true))
    (λ atom less. unit_below bound atom true less) goal below)

-- the clauses of an operand speak of atoms of the task alone
pub clauses_in_below : (task : Strips) (formulas : ℕ → List (List Literal)) (which : Which)
    → AreBelow (atoms task) task.goal
    → ((number : ℕ) → which ≡ W.Set number → AreClauses (atoms task) (formulas number))
    → AreClauses (atoms task) (clauses_in task formulas which)
clauses_in_below task formulas W.Empty goal sets =
    let none = All-nil (λ (l : Literal). l.atom < atoms task) in
    All-cons (SpeakBelow (atoms task)) [] [] none (All-nil (SpeakBelow (atoms task)))
clauses_in_below task formulas W.Start goal sets = clauses_of_state_below (atoms task) (atoms task)
    task.start (omega arith)
clauses_in_below task formulas W.Goal goal sets = clauses_of_goal_below (atoms task) task.goal goal
clauses_in_below task formulas (W.Set number) goal sets = sets number refl

-- the clause of an atom among those of a state
pub clause_of_state_at : (n : ℕ) (held : List ℕ) (place : ℕ) → place < n
    → clause_at (clauses_of_state n held) place ≡ unit place (names_atom held place)
clause_of_state_at zero held place less = absurd (omega arith)
clause_of_state_at (suc n) held place less =
    let size = length-clauses_of_state n held in
    elim (cases_lt place n) [
      | inl before ↦
          get_or_append_left (clauses_of_state n held) (unit n (names_atom held n) ∷ []) [] place
          (omega arith)
          ∙ clause_of_state_at n held place before
      | inr last ↦
          let same : n ≡ place = omega arith in
          get_or_push (clauses_of_state n held) (unit n (names_atom held n)) [] place (size ∙ same)
          ∙ ap (λ k. unit k (names_atom held k)) same
    ]

pub clause_of_goal_at : (goal : List ℕ) (place : ℕ) (d : ℕ) → place < length goal
    → clause_at (clauses_of_goal goal) place ≡ unit (get_or goal place d) true
clause_of_goal_at goal place d less = get_or-map (λ atom. unit atom true) goal place d [] less

-- the clause that is made of one literal is the one at the place
pub made_start : (atoms : ℕ) (held : List ℕ) (atom : ℕ) (literal : Literal) (made : List Literal)
    → made ≡ literal ∷ []
    → literal ≡ record { atom = atom; positive = names_atom held atom } → atom < atoms
    → made ≡ clause_at (clauses_of_state atoms held) atom
made_start atoms held atom literal made e f less = e ∙ ap (λ l. l ∷ []) f
    ∙ sym (clause_of_state_at atoms held atom less)

pub made_goal : (goal items : List ℕ) (place : ℕ) (literal : Literal) (made : List Literal)
    → made ≡ literal ∷ []
    → literal ≡ record { atom = get_or items place 0; positive = true } → items ≡ goal
    → place < length items
    → made ≡ clause_at (clauses_of_goal goal) place
made_goal goal items place literal made e f same less =
    e ∙ ap (λ l. l ∷ []) f
    ∙ sym (ap (λ atoms. clause_at (clauses_of_goal atoms) place) (sym same)
    ∙ clause_of_goal_at items place 0 less)

-- whether a list names an atom, from a test for it
pub names_from_test : (result : Bool) (held listed : List ℕ) (atom : ℕ)
    → Decides result (Contains listed atom) → listed ≡ held
    → result ≡ names_atom held atom
names_from_test result held listed atom test e =
    let decides = subst (λ xs. Decides result (Contains xs atom)) e test in
    same_from_decides result (names_atom held atom) decides (names_atom-Decides held atom)
