-- A true statement stays true when a line is added, so what the lines claim is true of all of them.
use Rattle.std.proofs.Common.{◌≡◌, ℕ, ◌<◌, Bool, true, List, [], ◌∷◌, Some, sym, subst, inl, inr}
use Rattle.hv_task.specs.Strips.{Strips}
use Rattle.hv_bdd.specs.Nodes.{NodeList}
use Rattle.hv_lines.specs.declared.line.Line.{Line}
use Rattle.hv_lines.specs.declared.line.Line.TheVariants as L
use Rattle.hv_lines.specs.declared.line.Statement.{Statement}
use Rattle.hv_lines.specs.declared.line.Statement.TheVariants as T
use Rattle.hv_lines.specs.Numbering.{acts_count, expr_count, statement_at, SpeaksBelow, MayFollow}
use Rattle.hv_lines.specs.Numbering.{IsTable}
use Rattle.hv_lines.specs.Meaning.{SetOfStates, ActionSet, sets_of, IsTrueStatement, AllTrue}
use Rattle.hv_lines.proofs.Laws.{acts_more, sets_more, speaks_at, found_cases}

module _ (task : Strips) (nodes : NodeList) where
  -- an earlier set has the same states after a line was added
  pub kept_in : (line : Line) (older : List Line) (e : ℕ) → MayFollow older line
      → e < expr_count older → (state : List Bool)
      → sets_of task nodes older e state → sets_of task nodes (line ∷ older) e state
  kept_in line older e next below state inside =
      subst (λ (S : SetOfStates). S state) (sym (sets_more task nodes line older e next below))
      inside

  pub kept_out : (line : Line) (older : List Line) (e : ℕ) → MayFollow older line
      → e < expr_count older → (state : List Bool)
      → sets_of task nodes (line ∷ older) e state → sets_of task nodes older e state
  kept_out line older e next below state inside =
      subst (λ (S : SetOfStates). S state) (sets_more task nodes line older e next below) inside

  -- a true statement stays true
  pub kept_true : (line : Line) (older : List Line) (st : Statement) → MayFollow older line
      → SpeaksBelow (acts_count older) (expr_count older) st → IsTrueStatement task nodes older st
      → IsTrueStatement task nodes (line ∷ older) st
  kept_true line older (T.Sub e f) next speaks holds = λ state is_state inside.
      kept_in line older f next speaks.1 state
      (holds state is_state (kept_out line older e next speaks.0 state inside))
  kept_true line older (T.ActSub a b) next speaks holds = λ number below among.
      subst (λ (A : ActionSet). A number ≡ true) (sym (acts_more line older b next speaks.1))
      (holds number below (subst (λ (A : ActionSet). A number ≡ true)
      (acts_more line older a next speaks.0) among))
  kept_true line older (T.Dead e) next speaks holds = λ state is_state inside.
      holds state is_state (kept_out line older e next speaks state inside)
  kept_true line older T.Unsolvable next speaks holds = holds

  -- where every line claims what is true, so does each line of all the lines
  pub all_true_at : (lines : List Line) (k : ℕ) (st : Statement) → IsTable lines
      → AllTrue task nodes lines
      → statement_at lines k ≡ Some st → IsTrueStatement task nodes lines st
  all_true_at [] k st table all h = absurd (cc)
  all_true_at (L.Acts id y ∷ older) k st table all h =
      kept_true (L.Acts id y) older st table.0 (speaks_at older k st table.1 h)
      (all_true_at older k st table.1 all h)
  all_true_at (L.Expr id y ∷ older) k st table all h =
      kept_true (L.Expr id y) older st table.0 (speaks_at older k st table.1 h)
      (all_true_at older k st table.1 all h)
  all_true_at (L.Known id said w ps ∷ older) k st table all h =
      let line = L.Known id said w ps in
      elim (found_cases k id said st (statement_at older k) h) [
        | inl here ↦
            subst (IsTrueStatement task nodes (line ∷ older)) here.1
            (kept_true line older said table.0 table.0.back.0 all.0)
        | inr there ↦
            kept_true line older st table.0 (speaks_at older k st table.1 there.1)
            (all_true_at older k st table.1 all.1 there.1)
      ]
