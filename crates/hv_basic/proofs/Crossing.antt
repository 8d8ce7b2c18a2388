-- Why an action that turns no literal of a formula leads neither into it nor out of it; and what
-- that says of a query which asks about the formula before the action and after it.
use Rattle.std.proofs.Common.{◌≡◌, ℕ, ◌≤◌, ◌∙◌, ◌⊎◌, ◌&&◌, ◌||◌, Bool, true, false, not, List, []}
use Rattle.std.proofs.Common.{◌∷◌, ◌<◌, Option, None, Some, arith}
use Rattle.std.proofs.Common.{length, map, get_or, slice_get, refl, sym, ap, subst, inl, inr}
use Rattle.std.proofs.lemmas.Bool.{and_parts, cases_lt, false_from_ne_true}
use Rattle.std.proofs.lemmas.List.Elements.{Contains-get_or}
use Rattle.std.proofs.lemmas.List.Folds.{Any-from_list_any, list_any_at}
use Rattle.std.proofs.lemmas.List.{get_or_default}
use Rattle.std.proofs.lemmas.Option.{IfSome_then, get_or_from_slice_get, same_Some}
use Rattle.std.proofs.lemmas.Option.{slice_get-map, slice_get_within}
use Rattle.std.specs.Global.{Vec}
use Rattle.std.specs.Option.{IfSome}
use Rattle.std.specs.List.{Contains, list_all}
use Rattle.hv_task.specs.declared.action.Action.{Action}
use Rattle.hv_task.specs.State.{AreBelow, has_atom, names_atom, successor}
use Rattle.hv_task.specs.Strips.{IsOver, Strips, atoms}
use Rattle.hv_task.proofs.Places.{has_atom-successor, has_atom_past, length-successor}
use Rattle.hv_task.proofs.Places.{names_atom-Decides}
use Rattle.hv_sets.specs.Query.{asked, in_operand, in_which, may_apply}
use Rattle.hv_sets.specs.Truth.{in_clause, in_clauses, in_literal}
use Rattle.hv_sets.specs.declared.literal.Literal.{Literal}
use Rattle.hv_sets.specs.declared.operand.Operand.{Operand}
use Rattle.hv_sets.specs.declared.operand.Which.TheVariants as W
use Rattle.hv_sets.specs.declared.query.Query.{Query}
use Rattle.hv_formula.specs.Clausal.{FormulaState}
use Rattle.hv_propagation.proofs.Effects.{list_all_from}
use Rattle.hv_explicit.proofs.Anchored.{passes_at}
use Rattle.hv_lines.proofs.Elements.{got_mapped, of_one, slice_get_some}
use Rattle.hv_rows.specs.Rows.{in_found_row}
use Rattle.hv_basic.specs.ChangeRows.{StandsInRow, changed_to}
use Rattle.hv_basic.specs.declared.framed.Frame.{Frame}
use Rattle.hv_basic.specs.Stores.{formula}
use Rattle.hv_basic.specs.Working.Candidates.{HaveAllClashes}
use Rattle.hv_basic.specs.Working.Excluded.{has_value}
use Rattle.hv_basic.specs.Working.Framed.{AreCrossing, AreTurning, IsFramed, CanTurn, sign_to}

-- an atom's flag after the action (s), by its flag before it (h), where the action adds the atom
-- (a) or deletes it (d)
out_true : (a d h s : Bool) → s ≡ (a || (not d && h)) → d ≡ false → h ≡ true → s ≡ true
out_true true d h s e f g = e
out_true false d h s e f g = e ∙ (ap (λ x. not x && h) f ∙ g)

out_false : (a d h s : Bool) → s ≡ (a || (not d && h)) → a ≡ false → not h ≡ true → not s ≡ true
out_false a d true s e f g = absurd (cc (g))
out_false a true false s e f g = ap not (e ∙ ap (λ x. x || false) f)
out_false a false false s e f g = ap not (e ∙ ap (λ x. x || false) f)

in_true : (a d h s : Bool) → s ≡ (a || (not d && h)) → a ≡ false → s ≡ true → h ≡ true
in_true a true h s e f g =
    let no : true ≡ false = sym g ∙ (e ∙ ap (λ x. x || false) f) in absurd (cc (no))
in_true a false h s e f g = sym (e ∙ ap (λ x. x || h) f) ∙ g

in_false : (a d h s : Bool) → s ≡ (a || (not d && h)) → d ≡ false → not s ≡ true → not h ≡ true
in_false true d h s e f g =
    let no : false ≡ true = sym (ap not e) ∙ g in absurd (cc (no))
in_false false d h s e f g = ap not (sym (e ∙ ap (λ x. not x && h) f)) ∙ g

-- the flag of an atom of the task follows the action, and any other stays
flag_next : (action : Action) (state : List Bool) (p : ℕ)
    → (has_atom (successor action state) p
    ≡ (names_atom action.add p || (not (names_atom action.del p) && has_atom state p)))
    ⊎ (has_atom (successor action state) p ≡ has_atom state p)
flag_next action state p =
    elim (cases_lt p (length state)) [
      | inl less ↦ inl (has_atom-successor action state p less)
      | inr past ↦
          inr (has_atom_past (successor action state) p
          (subst (λ n. n ≤ p) (sym (length-successor action state)) past)
          ∙ sym (has_atom_past state p past))
    ]

unnamed : (xs : List ℕ) (p : ℕ) → (Contains xs p → ⊥) → names_atom xs p ≡ false
unnamed xs p out =
    false_from_ne_true (names_atom xs p) (λ yes. out ((names_atom-Decides xs p).0 yes))

-- an atom that the action doesn't turn keeps its value
pub flag_kept : (into positive : Bool) (action : Action) (state : List Bool) (p : ℕ)
    → (Contains (changed_to (sign_to into positive) action) p → ⊥)
    → has_value positive (asked (Some action) into state) p ≡ true
    → has_value positive (asked (Some action) (not into) state) p ≡ true
flag_kept false true action state p out held =
    elim (flag_next action state p) [
      | inl e ↦
          out_true (names_atom action.add p) (names_atom action.del p) (has_atom state p)
          (has_atom (successor action state) p) e (unnamed action.del p out) held
      | inr same ↦ same ∙ held
    ]
flag_kept false false action state p out held =
    elim (flag_next action state p) [
      | inl e ↦
          out_false (names_atom action.add p) (names_atom action.del p) (has_atom state p)
          (has_atom (successor action state) p) e (unnamed action.add p out) held
      | inr same ↦ ap not same ∙ held
    ]
flag_kept true true action state p out held =
    elim (flag_next action state p) [
      | inl e ↦
          in_true (names_atom action.add p) (names_atom action.del p) (has_atom state p)
          (has_atom (successor action state) p) e (unnamed action.add p out) held
      | inr same ↦ sym same ∙ held
    ]
flag_kept true false action state p out held =
    elim (flag_next action state p) [
      | inl e ↦
          in_false (names_atom action.add p) (names_atom action.del p) (has_atom state p)
          (has_atom (successor action state) p) e (unnamed action.del p out) held
      | inr same ↦ ap not (sym same) ∙ held
    ]

module _ (into : Bool) (action : Action) (state : List Bool) where
  abbrev from : List Bool
  from = asked (Some action) into state

  abbrev to : List Bool
  to = asked (Some action) (not into) state

  -- a clause that is true at the one time, by a literal that the action doesn't turn, is true at
  -- the other
  clause_kept : (clause : List Literal)
      → ((l : Literal) → Contains clause l → CanTurn into l action → ⊥)
      → in_clause clause from ≡ true → in_clause clause to ≡ true
  clause_kept clause out held =
      let found = Any-from_list_any (λ (l : Literal). in_literal l from) clause held in
      let l = found.1 in
      list_any_at (λ (l : Literal). in_literal l to) clause found.0 l found.2
      (ap (λ (l : Literal). in_literal l to) found.3
      ∙ flag_kept into l.positive action state l.atom (out l (found.0, found.2, found.3)) found.4)

  clauses_kept : (clauses : List (List Literal))
      → ((c : List Literal) (l : Literal) → Contains clauses c → Contains c l
      → CanTurn into l action → ⊥)
      → in_clauses clauses from ≡ true → in_clauses clauses to ≡ true
  clauses_kept clauses out held =
      list_all_from (λ c. in_clause c to) clauses (λ k d less.
      let c = get_or clauses k d in
      let among = Contains-get_or clauses k d less in
      clause_kept c (λ l inside. out c l among inside)
      (passes_at (λ c. in_clause c from) clauses c held among))

-- the actions that can turn a literal are all that lead into the formula, or out of it
pub crossing_from : (task : Strips) (clauses : List (List Literal)) (into : Bool) (listed : List ℕ)
    → AreTurning task clauses into listed → AreCrossing task (in_clauses clauses) into listed
crossing_from task clauses into listed are = record {
  below = are.below;
  first = are.first;
  each = λ number action state at size applies held out.
      by number action state at held out (names_atom listed number) refl;
}
  where
    by : (number : ℕ) (action : Action) (state : List Bool)
        → slice_get task.actions number ≡ Some action
        → in_clauses clauses (asked (Some action) into state) ≡ true
        → in_clauses clauses (asked (Some action) (not into) state) ≡ false
        → (b : Bool) → names_atom listed number ≡ b → Contains listed number
    by number action state at held out true e = (names_atom-Decides listed number).0 e
    by number action state at held out false e =
        let kept = clauses_kept into action state clauses (λ c l among inside turns.
        let yes = (names_atom-Decides listed number).1
        (are.each number action c l at among inside turns) in
        let no : true ≡ false = sym yes ∙ e in absurd (cc (no))) held in
        let no : true ≡ false = sym kept ∙ out in absurd (cc (no))

not_true : (b : Bool) → not b ≡ true → b ≡ false
not_true false e = refl
not_true true e = absurd (cc (e))

-- the clauses of a formula of the store are those of its line
pub stored_clauses : (n : ℕ) (sets : List FormulaState) (xs : List (List (List Literal)))
    → sets ≡ map (formula n) xs → (number : ℕ) (set : FormulaState)
    → slice_get sets number ≡ Some set → set.clauses ≡ get_or xs number []
stored_clauses n sets xs is number set at =
    let found = got_mapped (formula n) (slice_get xs number) set
    (sym (slice_get-map (formula n) xs number) ∙ (ap (λ ys. slice_get ys number) (sym is) ∙ at)) in
    ap (λ (s : FormulaState). s.clauses) (sym found.2)
    ∙ sym (get_or_from_slice_get xs number found.0 [] found.1)

-- what was found of the clauses of a formula of the store, as it is said of those of its line
pub turning_crossing : (task : Strips) (sets : List FormulaState) (number : ℕ) (set : FormulaState)
    (clauses : List (List Literal)) (into : Bool) (found : Option (List ℕ))
    → slice_get sets number ≡ Some set → clauses ≡ set.clauses
    → IfSome found (AreTurning task clauses into)
    → IfSome found (λ listed. (lists : List (List (List Literal)))
    → sets ≡ map (formula (atoms task)) lists
    → AreCrossing task (in_clauses (get_or lists number [])) into listed)
turning_crossing task sets number set clauses into found at same turning =
    IfSome_then found turning (λ listed turns lists is.
    subst (λ cs. AreCrossing task (in_clauses cs) into listed)
    (same ∙ stored_clauses (atoms task) sets lists is number set at)
    (crossing_from task clauses into listed turns))

-- what an operand that names a set says of a state at its time
at_time : (task : Strips) (sets : ℕ → List Bool → Bool) (found : Option Action) (a : Action)
    (state : List Bool) (o : Operand) (number : ℕ) (after value : Bool) → found ≡ Some a
    → o.which ≡ W.Set number → o.after ≡ after → in_operand task sets found state o ≡ value
    → sets number (asked (Some a) after state) ≡ value
at_time task sets found a state o number after value at which time is =
    subst (λ x. in_which task sets x (asked (Some a) after state) ≡ value) which
    (subst (λ t. in_which task sets o.which (asked (Some a) t state) ≡ value) time
    (subst (λ f. in_which task sets o.which (asked f o.after state) ≡ value) at is))

-- where a set is asked about at both times, the actions that lead into it, or out of it, are all
-- that can have a counterexample
pub clashes_crossing : (task : Strips) (sets : ℕ → List Bool → Bool) (query : Query) (number : ℕ)
    (into : Bool) (listed : List ℕ) → IsFramed query.positive query.negative number into
    → AreCrossing task (sets number) into listed → HaveAllClashes task sets query listed
clashes_crossing task sets query number into listed framed are = record {
  below = are.below;
  first = are.first;
  each = λ n state less size yes.
      let a = slice_get_some task.actions n less in
      let action = slice_get task.actions n in
      let parts = and_parts (may_apply action state) _ yes in
      let sides = and_parts (list_all (λ p. in_operand task sets action state p) query.positive) _
      parts.1 in
      let held = passes_at (λ p. in_operand task sets action state p) query.positive framed.0.0
      sides.0 framed.0.1 in
      let out = not_true (in_operand task sets action state framed.1.0)
      (passes_at (λ p. not (in_operand task sets action state p)) query.negative framed.1.0 sides.1
      framed.1.1) in
      are.each n a.0 state a.1 size (subst (λ f. may_apply f state ≡ true) a.1 parts.0)
      (at_time task sets action a.0 state framed.0.0 number into true a.1 framed.0.2 framed.0.3 held)
      (at_time task sets action a.0 state framed.1.0 number (not into) false a.1 framed.1.2 framed.1.3 out);
}

-- what was found of a formula of the store, as it is said of its line
pub some_crossing : (task : Strips) (sets : List FormulaState) (xs : List (List (List Literal)))
    (number : ℕ) (into : Bool) (found : Option (List ℕ)) → sets ≡ map (formula (atoms task)) xs
    → IfSome found (λ listed. (lists : List (List (List Literal)))
    → sets ≡ map (formula (atoms task)) lists
    → AreCrossing task (in_clauses (get_or lists number [])) into listed)
    → IfSome found (AreCrossing task (in_clauses (get_or xs number [])) into)
some_crossing task sets xs number into None is some = some
some_crossing task sets xs number into (Some listed) is some = some xs is

-- what one positive operand and the negative ones ask about is asked about
framed_within : (operand : Operand) (positive negative : List Operand) (number : ℕ)
    (into : Bool) → Contains positive operand → IsFramed (operand ∷ []) negative number into
    → IsFramed positive negative number into
framed_within operand positive negative number into among framed = (
  (
    framed.0.0,
    of_one (Contains positive) operand among framed.0.0 framed.0.1,
    framed.0.2,
    framed.0.3,
  ),
  framed.1,
)

pub any_framed : (operand : Operand) (positive negative : List Operand) (found : Option Frame)
    → Contains positive operand
    → IfSome found (λ frame. IsFramed (operand ∷ []) negative frame.number frame.into)
    → IfSome found (λ frame. IsFramed positive negative frame.number frame.into)
any_framed operand positive negative None among framed = framed
any_framed operand positive negative (Some frame) among framed =
    framed_within operand positive negative frame.number frame.into among framed

-- an item by its place, whatever stands in where there is none
pub same_at : {X : Type 0} (xs : List X) (j i : ℕ) (d e : X) → j ≡ i → i < length xs
    → get_or xs j d ≡ get_or xs i e
same_at xs j i d e same less = ap (λ k. get_or xs k d) same ∙ get_or_default xs i d e less

-- the atoms that an action changes are atoms of the task
pub changed_below : (n : ℕ) (adds : Bool) (action : Action) → IsOver n action
    → AreBelow n (changed_to adds action)
changed_below n true action over = over.add
changed_below n false action over = over.del

pub one_action : (actions : List Action) (n k : ℕ) (one action : Action) → n ≡ k
    → slice_get actions n ≡ Some one → slice_get actions k ≡ Some action → action ≡ one
one_action actions n k one action same first second =
    same_Some action one (sym second ∙ (ap (λ i. slice_get actions i) (sym same) ∙ first))

-- in the row of a place past the rows there is no number
pub no_row : (rows : List (Vec ℕ)) (place number : ℕ) → length rows ≤ place
    → StandsInRow rows place number → ⊥
no_row rows place number past inside = by (slice_get rows place) refl
  where
    by : (found : Option (Vec ℕ)) → slice_get rows place ≡ found → ⊥
    by None e =
        let no : true ≡ false = sym inside ∙ ap (λ f. in_found_row f number) e in cc
    by (Some row) e =
        let within = slice_get_within rows place row e in omega (arith, within, past)
