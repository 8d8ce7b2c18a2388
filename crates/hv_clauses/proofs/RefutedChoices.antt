-- Why a chosen clause that is known to be true, or of which the effect turns no literal, refutes
-- its choice.
use Rattle.std.proofs.Common.{◌⊎◌, Option, inl, inr, ◌≡◌, ℕ, zero, suc, ◌<◌, ◌%◌, ◌/◌, ◌∙◌, Bool}
use Rattle.std.proofs.Common.{true, false, not, cond, ap₂, List, [], ◌∷◌, None, Some, length}
use Rattle.std.proofs.Common.{get_or, take, refl, sym, ap, arith, subst}
use Rattle.std.proofs.lemmas.List.{get_or_default}
use Rattle.std.proofs.lemmas.List.Elements.{All-contains}
use Rattle.std.proofs.lemmas.Bool.{cases_lt}
use Rattle.std.proofs.lemmas.List.Folds.{Any-from_list_any, list_any_at}
use Rattle.std.specs.Option.{option_map}
use Rattle.std.specs.List.{All, Contains}
use Rattle.hv_task.proofs.Places.{has_atom_past}
use Rattle.hv_task.specs.Strips.{Strips}
use Rattle.hv_sets.specs.declared.literal.Literal.{Literal}
use Rattle.hv_sets.specs.declared.operand.Operand.{Operand}
use Rattle.hv_sets.specs.declared.operand.Which.{Which}
use Rattle.hv_sets.specs.declared.operand.Which.TheVariants as W
use Rattle.hv_sets.specs.Cubes.{SpeakBelow}
use Rattle.hv_sets.specs.Cost.{clauses_of}
use Rattle.hv_sets.specs.Names.{AsksAbout}
use Rattle.hv_sets.specs.Query.{in_which}
use Rattle.hv_sets.specs.Truth.{in_clause, in_clauses, in_literal}
use Rattle.hv_indexes.specs.Places.{clause_at}
use Rattle.hv_propagation.specs.Clauses.{AreClauses}
use Rattle.hv_clauses.specs.Store.{tests_of, sizes_of}
use Rattle.hv_clauses.specs.Working.Choices.{Breaks}
use Rattle.hv_clauses.specs.Working.Operands.{InAll, clauses_in}
use Rattle.hv_propagation.specs.Effect.{late}
use Rattle.hv_propagation.specs.Marks.{known, over, Agrees}
use Rattle.hv_propagation.specs.Units.{first_of, value_of}
use Rattle.hv_propagation.proofs.Effects.{list_all_get}
use Rattle.hv_propagation.proofs.Marked.{has_atom-over_none, has_atom-over_some, length-over}
use Rattle.hv_propagation.proofs.Marked.{over-nil, value_true}
use Rattle.hv_clauses.proofs.OperandRounds.{left_after}

-- a true literal makes its clause true
true_in : (clause : List Literal) (state : List Bool) (l : Literal) → Contains clause l
    → in_literal l state ≡ true → in_clause clause state ≡ true
true_in clause state l c e = list_any_at
    (λ m. in_literal m state) clause c.0 l c.1 (ap (λ m. in_literal m state) c.2 ∙ e)

not_both : (b : Bool) → b ≡ true → b ≡ false → ⊥
not_both true e f = let g : true ≡ false = f in absurd cc
not_both false e f = let g : false ≡ true = e in absurd cc

-- where a literal is known to be true, no state that agrees with the marks breaks the clause
pub known_true : (effect marks : List ℕ) (clause : List Literal) (n : ℕ) (state : List Bool)
    → SpeakBelow n clause → length state ≡ n
    → ((l : Literal) × Contains clause l × (value_of effect marks l ≡ Some true))
    → Agrees marks state
    → in_clause clause (over effect state) ≡ false → ⊥
known_true effect marks clause n state below size found agrees broken =
    let within : (found.0).atom < n = All-contains (λ l. l.atom < n) clause found.0 below found.1 in
    not_both (in_clause clause (over effect state))
    (true_in clause (over effect state) found.0 found.1
    (value_true effect marks found.0 state found.2 agrees (omega arith))) broken

-- A sharper test: a clause that is true before is true after, unless the effect makes a literal of
-- it false; and one that is true after is true before, unless the effect makes a literal of it
-- true.
value_alone : (e : List ℕ) (l : Literal) (v : Bool) → known e l.atom ≡ Some v
    → value_of e [] l ≡ Some (cond l.positive v (not v))
value_alone e l v h = ap (λ o. option_map
    (λ value. cond l.positive value (not value)) (first_of o (known [] l.atom))) h

turned_literal : (e : List ℕ) (l : Literal) (s : List Bool) (v : Bool) → known e l.atom ≡ Some v
    → (in_literal l (over e s) ≡ in_literal l s)
    ⊎ (in_literal l (over e s) ≡ cond l.positive v (not v))
turned_literal e l s v h =
    elim (cases_lt l.atom (length s)) [
      | inl less ↦ inr (ap (λ f. cond l.positive f (not f))
          (has_atom-over_some e s l.atom v less h))
      | inr past ↦
          let size = length-over e s in
          inl (ap (λ f. cond l.positive f (not f))
          (has_atom_past (over e s) l.atom (omega arith) ∙ sym (has_atom_past s l.atom past)))
    ]

literal_after : (e : List ℕ) (l : Literal) (s : List Bool) → (value_of e [] l ≡ Some false → ⊥)
    → in_literal l s ≡ true
    → in_literal l (over e s) ≡ true
literal_after e l s held holds = by (known e l.atom) refl
  where
    flag : (b : Bool) → (b ≡ false → ⊥) → b ≡ true
    flag true h = refl
    flag false h = absurd (h refl)

    by : (o : Option Bool) → known e l.atom ≡ o → in_literal l (over e s) ≡ true
    by None none = ap (λ f. cond l.positive f (not f)) (has_atom-over_none e s l.atom none) ∙ holds
    by (Some v) some =
        elim (turned_literal e l s v some) [
          | inl same ↦ same ∙ holds
          | inr is ↦ is ∙ flag (cond l.positive v (not v))
              (λ no. held (value_alone e l v some ∙ ap Some no))
        ]

literal_before : (e : List ℕ) (l : Literal) (s : List Bool) → (value_of e [] l ≡ Some true → ⊥)
    → in_literal l (over e s) ≡ true
    → in_literal l s ≡ true
literal_before e l s held holds = by (known e l.atom) refl
  where
    by : (o : Option Bool) → known e l.atom ≡ o → in_literal l s ≡ true
    by None none = sym (ap (λ f. cond l.positive f (not f)) (has_atom-over_none e s l.atom none))
        ∙ holds
    by (Some v) some =
        elim (turned_literal e l s v some) [
          | inl same ↦ sym same ∙ holds
          | inr is ↦ absurd (held (value_alone e l v some ∙ ap Some (sym is ∙ holds)))
        ]

-- the value that turns a clause of an operand that is asked at this time against it
pub clause_held : (e : List ℕ) (after : Bool) (clause : List Literal) (s : List Bool)
    → All (λ l. value_of e [] l ≡ Some (not after) → ⊥) clause
    → in_clause clause (over (late e (not after)) s) ≡ true
    → in_clause clause (over (late e after) s) ≡ true
clause_held e true clause s all holds =
    let some = Any-from_list_any (λ l. in_literal l (over [] s)) clause holds in
    let at : Contains clause some.1 = (some.0, some.2, some.3) in
    list_any_at (λ l. in_literal l (over e s)) clause some.0 some.1 some.2
    (ap (λ l. in_literal l (over e s)) some.3
    ∙ literal_after e some.1 s (All-contains
    (λ l. value_of e [] l ≡ Some false → ⊥) clause some.1 all at)
    (sym (ap (in_literal some.1) (over-nil s)) ∙ some.4))
clause_held e false clause s all holds =
    let some = Any-from_list_any (λ l. in_literal l (over e s)) clause holds in
    let at : Contains clause some.1 = (some.0, some.2, some.3) in
    list_any_at (λ l. in_literal l (over [] s)) clause some.0 some.1 some.2
    (ap (λ l. in_literal l (over [] s)) some.3
    ∙ (ap (in_literal some.1) (over-nil s)
    ∙ literal_before e some.1 s (All-contains
    (λ l. value_of e [] l ≡ Some true → ⊥) clause some.1 all at) some.4))

-- so where its set is a positive operand at the other time, no state of the positive operands
-- breaks it
pub framed_true : (task : Strips) (formulas : ℕ → List (List Literal)) (effect : List ℕ)
    (positive : List Operand) (number : ℕ) (after : Bool)
    (place : ℕ) (state : List Bool) → place < length (formulas number)
    → AsksAbout positive (W.Set number) (not after)
    → All (λ l. value_of effect [] l ≡ Some (not after) → ⊥) (clause_at (formulas number) place)
    → InAll task formulas effect positive state
    → in_clause (clause_at (formulas number) place) (over (late effect after) state) ≡ false → ⊥
framed_true task formulas effect positive number after place state within named held inside broken =
    let clause = clause_at (formulas number) place in
    let o = named.0 in
    let holds : in_which task (tests_of formulas) o.which (over (late effect o.after) state)
    ≡ true =
    All-contains (λ o. in_which task (tests_of formulas) o.which (over (late effect o.after) state)
    ≡ true) positive o inside named.1 in
    let other : in_clauses (formulas number) (over (late effect (not after)) state) ≡ true =
    sym (ap (λ w. in_which task (tests_of formulas) w (over (late effect o.after) state)) named.2
    ∙ ap (λ b. in_clauses (formulas number) (over (late effect b) state)) named.3) ∙ holds in
    not_both (in_clause clause (over (late effect after) state))
    (clause_held effect after clause state held
    (list_all_get (λ c. in_clause c (over (late effect (not after)) state)) (formulas number) place
    [] other within)) broken

-- what a choice breaks at each place
pub breaks_at : (task : Strips) (formulas : ℕ → List (List Literal)) (effect : List ℕ)
    (operands : List Operand) (place : ℕ) (d : Operand) (number : ℕ)
    (state : List Bool) → place < length operands
    → Breaks task formulas effect operands number state
    → in_clause (clause_at (clauses_in task formulas (get_or operands place d).which)
    (left_after task formulas (take place operands) number % length
    (clauses_in task formulas (get_or operands place d).which)))
    (over (late effect (get_or operands place d).after) state) ≡ false
breaks_at task formulas effect [] place d number state within breaks = absurd (omega arith)
breaks_at task formulas effect (o ∷ os) zero d number state within breaks = breaks.0
breaks_at task formulas effect (o ∷ os) (suc place) d number state within breaks =
    breaks_at task formulas effect os place d (number / length (clauses_in task formulas o.which))
    state (omega arith) breaks.1

-- The same as the calls give it.
module _ (task : Strips) (formulas : ℕ → List (List Literal)) (effect : List ℕ) (which : Which)
    (number place : ℕ) (is : which ≡ W.Set number)
    (set listed : List (List Literal)) (item clause : List Literal)
    (of_store : set ≡ formulas number) (lists : listed ≡ set)
    (read : item ≡ get_or listed place item) (sliced : clause ≡ item)
    (less : place < clauses_of task (sizes_of formulas) which) where
  place_within : place < length (formulas number)
  place_within = subst (λ w. place < clauses_of task (sizes_of formulas) w) is less

  clause_is : clause ≡ clause_at (formulas number) place
  clause_is =
      sliced ∙ (read ∙ (ap (λ xs. get_or xs place item) (lists ∙ of_store)
      ∙ get_or_default (formulas number) place item [] place_within))

  broken_is : (after : Bool) (state : List Bool)
      → in_clause (clause_at (clauses_in task formulas which) place)
      (over (late effect after) state) ≡ false
      → in_clause (clause_at (formulas number) place) (over (late effect after) state) ≡ false
  broken_is after state broken =
      sym (ap (λ w. in_clause (clause_at (clauses_in task formulas w) place)
      (over (late effect after) state)) is) ∙ broken

  pub refuted_known : (after : Bool) (seen roots : List ℕ) (bound n : ℕ) (state : List Bool)
      → seen ≡ late effect after → AreClauses bound listed
      → bound ≡ n → length state ≡ n → ((l : Literal) × Contains clause l
      × (value_of seen roots l ≡ Some true)) → Agrees roots state
      → in_clause (clause_at (clauses_in task formulas which) place)
      (over (late effect after) state) ≡ false → ⊥
  refuted_known after seen roots bound n state through below bound_is size found agrees broken =
      let within : place < length listed = omega
      (arith, place_within, ap length (lists ∙ of_store)) in
      let speaks : SpeakBelow n clause =
      subst (λ k. SpeakBelow k clause) bound_is
      (subst (SpeakBelow bound) (sym (sliced ∙ read)) (below place item within)) in
      known_true seen roots clause n state speaks size found agrees
      (ap₂ (λ c e. in_clause c (over e state)) clause_is through ∙ broken_is after state broken)

  pub refuted_framed : (after : Bool) (positive : List Operand) (state : List Bool)
      → AsksAbout positive which (not after)
      → All (λ l. value_of effect [] l ≡ Some (not after) → ⊥) clause
      → InAll task formulas effect positive state
      → in_clause (clause_at (clauses_in task formulas which) place)
      (over (late effect after) state) ≡ false → ⊥
  refuted_framed after positive state named held inside broken =
      framed_true task formulas effect positive number after place state place_within
      (subst (λ w. AsksAbout positive w (not after)) is named)
      (subst (λ c. All (λ l. value_of effect [] l ≡ Some (not after) → ⊥) c) clause_is held) inside
      (broken_is after state broken)

pub refuted_by : (task : Strips) (formulas : ℕ → List (List Literal)) (effect : List ℕ)
    (listed operands : List Operand) (place : ℕ) (d : Operand)
    (number digit : ℕ) (state : List Bool) → listed ≡ operands → place < length listed
    → digit ≡ left_after task formulas (take place listed) number % length
    (clauses_in task formulas (get_or listed place d).which)
    → Breaks task formulas effect operands number state
    → in_clause (clause_at (clauses_in task formulas (get_or listed place d).which) digit)
    (over (late effect (get_or listed place d).after) state) ≡ false
refuted_by task formulas effect listed operands place d number digit state e within is breaks =
    ap (λ k. in_clause (clause_at (clauses_in task formulas (get_or listed place d).which) k)
    (over (late effect (get_or listed place d).after) state)) is
    ∙ breaks_at task formulas effect listed place d number state within
    (subst (λ os. Breaks task formulas effect os number state) (sym e) breaks)
