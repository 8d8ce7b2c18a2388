-- Which atoms formulas before the action deny, and why an action that needs one of them has no
-- counterexample.
use Rattle.std.proofs.Common.{◌≡◌, ℕ, ◌+◌, ◌<◌, ◌∙◌, ◌⊎◌, Bool, true, false, List, [], ◌∷◌}
use Rattle.std.proofs.Common.{Some, arith, inl, inr, length, refl, slice_get, subst, sym}
use Rattle.std.proofs.lemmas.Bool.{cases_lt, not-true}
use Rattle.std.proofs.lemmas.List.{get_or_past}
use Rattle.std.proofs.lemmas.List.Elements.{All-contains}
use Rattle.std.proofs.lemmas.List.Folds.{Any-from_list_any}
use Rattle.std.proofs.lemmas.Option.{slice_get_within}
use Rattle.std.specs.Global.{Vec}
use Rattle.std.specs.List.{Contains}
use Rattle.hv_task.specs.declared.action.Action.{Action}
use Rattle.hv_task.specs.State.{applicable, has_atom}
use Rattle.hv_task.specs.Strips.{IsTask, Strips, atoms}
use Rattle.hv_task.proofs.Places.{has_all-Decides}
use Rattle.hv_sets.specs.Query.{in_which, is_clash, may_apply}
use Rattle.hv_sets.specs.Truth.{in_clause, in_clauses, in_literal}
use Rattle.hv_sets.specs.declared.literal.Literal.{Literal}
use Rattle.hv_sets.specs.declared.operand.Operand.{Operand}
use Rattle.hv_sets.specs.declared.operand.Which.TheVariants as W
use Rattle.hv_sets.specs.declared.query.Query.{Query}
use Rattle.hv_explicit.proofs.Anchored.{passes_at}
use Rattle.hv_lines.proofs.Elements.{all_from, cons_cases, of_one, slice_get_some}
use Rattle.hv_rows.specs.ActionRows.{AreActionRows}
use Rattle.hv_rows.specs.Rows.{IsInRow}
use Rattle.hv_rows.proofs.Rowed.{tested_row}
use Rattle.hv_basic.specs.Working.Asked.{with_action}
use Rattle.hv_basic.specs.Working.Candidates.{HaveAllClashes}
use Rattle.hv_basic.specs.Working.Denied.{AreAbsent, AreOpen, IsAbsentFrom, HasDenial}
use Rattle.hv_basic.specs.Working.Flags.{flag_or_false}
use Rattle.hv_basic.proofs.Enough.{clash_in}
use Rattle.hv_basic.proofs.Flagged.{over_at}

-- an atom that a clause denies is in no state of the formula
pub denied_out : (clauses : List (List Literal)) (atom : ℕ) (state : List Bool)
    → HasDenial clauses atom → in_clauses clauses state ≡ true → has_atom state atom ≡ false
denied_out clauses atom state denied held =
    let own : Literal = record { atom = atom; positive = false } in
    let clause = passes_at (λ c. in_clause c state) clauses (own ∷ []) held denied in
    let found = Any-from_list_any (λ (l : Literal). in_literal l state) (own ∷ []) clause in
    not-true (has_atom state atom)
    (of_one (λ (l : Literal). in_literal l state ≡ true → in_literal own state ≡ true) own
    (λ yes. yes) found.1 (found.0, found.2, found.3) found.4)

-- a flag that is set
flag_cases : (b : Bool) → (b ≡ true) ⊎ (b ≡ false)
flag_cases true = inl refl
flag_cases false = inr refl

-- the actions that need no atom with a flag are all that can have a counterexample
pub clashes_open : (task : Strips) (sets : ℕ → List Bool → Bool) (query : Query) (flags : List Bool)
    (listed : List ℕ) → AreAbsent task sets query.positive flags → AreOpen task flags listed
    → HaveAllClashes task sets query listed
clashes_open task sets query flags listed absent are = record {
  below = are.below;
  first = are.first;
  each = λ n state less size clash.
      let a = slice_get_some task.actions n less in
      are.each n a.0 a.1 (λ atom needed. by n state less clash a.0 a.1 atom needed
      (flag_cases (flag_or_false flags atom)));
}
  where
    by : (n : ℕ) (state : List Bool) → n < length task.actions
        → is_clash task sets (with_action query (Some n)) state ≡ true
        → (action : Action) → slice_get task.actions n ≡ Some action → (atom : ℕ)
        → Contains action.pre atom
        → (flag_or_false flags atom ≡ true) ⊎ (flag_or_false flags atom ≡ false)
        → flag_or_false flags atom ≡ false
    by n state less clash action at atom needed (inr off) = off
    by n state less clash action at atom needed (inl on) =
        let out = absent atom on in
        let w = clash_in task sets (with_action query (Some n)) out.0 state out.1 out.2.0 clash in
        let applies : applicable action state ≡ true =
        subst (λ f. may_apply f state ≡ true) at w.0 in
        let has : has_atom state atom ≡ true =
        All-contains (λ p. has_atom state p ≡ true) action.pre atom
        ((has_all-Decides action.pre state).0 applies) needed in
        let no : true ≡ false = sym has ∙ out.2.1 state w.1 in absurd (cc (no))

-- the rows of all atoms without a flag, and the row past the atoms, have the actions that need no
-- atom with a flag
pub open_in : (task : Strips) (rows : List (Vec ℕ)) (flags : List Bool) (listed : List ℕ)
    → AreActionRows task rows → length flags ≡ atoms task
    → ((k : ℕ) → Contains listed k → k < length task.actions)
    → (0 < length task.actions → Contains listed 0)
    → ((p : ℕ) → p < length rows → flag_or_false flags p ≡ false → (k : ℕ) → IsInRow rows p k
    → k < length task.actions → Contains listed k)
    → IsTask task → AreOpen task flags listed
open_in task rows flags listed are size below first has is = record {
  below = all_from (λ k. k < length task.actions) listed below;
  first = first;
  each = λ number action at none.
      let less = slice_get_within task.actions number action at in
      let w = tested_row (atoms task) rows action.pre number (are.each number action at) in
      elim (cons_cases (atoms task) action.pre w.0 w.1) [
        | inl last ↦
            let rows_size = are.size in
            has w.0 (omega (arith, rows_size, last))
            (get_or_past flags w.0 false (omega (arith, size, last))) number w.2 less
        | inr inside ↦
            let rows_size = are.size in
            let within = All-contains (λ p. p < atoms task) action.pre w.0
            (over_at task is number action at).pre inside in
            has w.0 (omega (arith, rows_size, within)) (none w.0 inside) number w.2 less
      ];
}

-- the row of one place more is put in
pub put_open_more : (rows : List (Vec ℕ)) (flags : List Bool) (actions i : ℕ) (old new : List ℕ)
    → ((k : ℕ) → Contains old k → Contains new k)
    → ((k : ℕ) → flag_or_false flags i ≡ false → IsInRow rows i k → k < actions → Contains new k)
    → ((p : ℕ) → p < i → flag_or_false flags p ≡ false → (k : ℕ) → IsInRow rows p k → k < actions
    → Contains old k)
    → (p : ℕ) → p < i + 1 → flag_or_false flags p ≡ false → (k : ℕ) → IsInRow rows p k
    → k < actions → Contains new k
put_open_more rows flags actions i old new kept here before p less off k inside below =
    elim (cases_lt p i) [
      | inl earlier ↦ kept k (before p earlier off k inside below)
      | inr upto ↦
          let same : p ≡ i = omega (arith, less, upto) in
          here k (subst (λ n. flag_or_false flags n ≡ false) same off)
          (subst (λ n. IsInRow rows n k) same inside) below
    ]

-- what a formula denies is in no state of an operand that names it
pub absent_from : (task : Strips) (sets : ℕ → List Bool → Bool) (operand : Operand) (number : ℕ)
    (clauses : List (List Literal)) (atom : ℕ) → operand.after ≡ false
    → operand.which ≡ W.Set number
    → ((state : List Bool) → sets number state ≡ true → in_clauses clauses state ≡ true)
    → HasDenial clauses atom → IsAbsentFrom task sets operand atom
absent_from task sets operand number clauses atom before which only denied = (
  before,
  λ state held. denied_out clauses atom state denied
      (only state (subst (λ w. in_which task sets w state ≡ true) which held)),
)
