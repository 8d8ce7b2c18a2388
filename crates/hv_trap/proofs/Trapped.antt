-- What is true of the clauses of the greatest trap.
use Rattle.std.proofs.Common.{◌≡◌, ℕ, ◌∙◌, ◌↔◌, ◌&&◌, ◌||◌, Bool, true, false, not, cond, List, []}
use Rattle.std.proofs.Common.{◌∷◌, refl, sym, ap, inl, inr}
use Rattle.std.proofs.lemmas.List.Elements.{All-contains}
use Rattle.std.proofs.lemmas.Bool.{and_parts, both_ways, cases_Bool, not-true}
use Rattle.std.specs.Cmp.Derive.{one_truth}
use Rattle.hv_task.specs.State.{has_all, has_atom, names_atom, successor}
use Rattle.hv_task.specs.Strips.{Strips, atoms, is_goal}
use Rattle.hv_task.proofs.Places.{has_all-Decides, names_atom-Decides}
use Rattle.hv_sets.specs.Truth.{in_clauses, in_cube, in_literal}
use Rattle.hv_sets.specs.declared.literal.Literal.{Literal}
use Rattle.hv_trap.specs.Conjunctions.{denials, denies_one, is_short}
use Rattle.hv_trap.specs.Trap.{AreTrapClauses, IsSatisfied, Stays}
use Rattle.hv_trap.specs.Working.Trap.{Enclose}
use Rattle.hv_trap.proofs.Enclosing.{none_true, one_true}

pub trap_once : (task : Strips) (x y : List (List Literal)) → AreTrapClauses task x
    → AreTrapClauses task y → x ≡ y
trap_once task x y (r, tells, is) (s, also, at) =
    let same : r ≡ s = λ i c. one_truth (r c) (s c) (λ h. (also c).1 ((tells c).0 h))
    (λ h. (tells c).1 ((also c).0 h)) i in
    is ∙ (ap (λ t. denials t (atoms task)) same ∙ sym at)

-- a conjunction that denies a goal atom is false in each goal state
pub denied_out : (goal : List ℕ) (state : List Bool) → has_all goal state ≡ true
    → (c : List Literal) → denies_one goal c ≡ true
    → in_cube c state ≡ true → ⊥
denied_out goal state all [] denied true_in = absurd (cc (denied))
denied_out goal state all (l ∷ c) denied true_in =
    one l.positive (names_atom goal l.atom) refl denied
    (and_parts (in_literal l state) (in_cube c state) true_in).0
    (λ rest. denied_out goal state all c rest
    (and_parts (in_literal l state) (in_cube c state) true_in).1)
  where
    one : (b x : Bool) → names_atom goal l.atom ≡ x → ((not b && x) || denies_one goal c) ≡ true
        → cond b (has_atom state l.atom) (not (has_atom state l.atom)) ≡ true
        → (denies_one goal c ≡ true → ⊥) → ⊥
    one false true named some out rest =
        both_ways (has_atom state l.atom) (not-true (has_atom state l.atom) out)
        (All-contains (λ p. has_atom state p ≡ true) goal l.atom
        ((has_all-Decides goal state).0 all) ((names_atom-Decides goal l.atom).0 named))
    one false false named some out rest = rest some
    one true x named some out rest = rest some

module _ (task : Strips) (clauses : List (List Literal)) (trap : AreTrapClauses task clauses) where
  pub trap_encloses : Enclose task trap.0 clauses
  trap_encloses = record {
    candidates = λ c is. let w = (trap.1 c).0 is in w.1.candidates c w.2;
    greatest = λ c there. (trap.1 c).1 there;
    listed = trap.2;
  }

  pub trap_satisfied : (state : List Bool)
      → (in_clauses clauses state ≡ false) ↔ IsSatisfied task state
  trap_satisfied state = (
    λ fails. let w = one_true task trap.0 clauses trap_encloses state fails in
        (w.0, (trap.1 w.0).0 w.1, w.2),
    λ (c, there, true_in).
        elim (cases_Bool (in_clauses clauses state)) [
          | inl all ↦ absurd (both_ways (in_cube c state)
              (none_true task trap.0 clauses trap_encloses state all c ((trap.1 c).1 there))
              true_in)
          | inr fails ↦ fails
        ],
  )

  pub trap_stays : (number : ℕ) → Stays task clauses number
  trap_stays number a named state is_state applies after =
      elim (cases_Bool (in_clauses clauses state)) [
        | inl all ↦ all
        | inr fails ↦
            let w = one_true task trap.0 clauses trap_encloses state fails in
            let inside = (trap.1 w.0).0 w.1 in
            let next = inside.1.stays w.0 inside.2 state is_state w.2 number a named applies in
            absurd (both_ways (in_cube next.0 (successor a state))
            (none_true task trap.0 clauses trap_encloses (successor a state) after next.0
            ((trap.1 next.0).1 (inside.0, inside.1, next.1)))
            next.2)
      ]

  pub trap_goalless : (state : List Bool) → is_goal task state ≡ true
      → in_clauses clauses state ≡ true
  trap_goalless state goal =
      elim (cases_Bool (in_clauses clauses state)) [
        | inl all ↦ all
        | inr fails ↦
            let w = one_true task trap.0 clauses trap_encloses state fails in
            absurd (denied_out task.goal state goal w.0
            (and_parts (is_short (atoms task) w.0) (denies_one task.goal w.0)
            (trap_encloses.candidates w.0 w.1)).1 w.2)
      ]
