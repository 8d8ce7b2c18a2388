-- What good lines are: a table, true statements, and formulas that can be stored.
use Rattle.std.proofs.Common.{◌≡◌, ◌<◌, ℕ, Bool, true, false, List, [], ◌∷◌, Some, None, cond, inl}
use Rattle.std.proofs.Common.{inr, nat_eq, subst, sym}
use Rattle.std.proofs.lemmas.Option.{same_Some}
use Rattle.hv_bdd.specs.Nodes.{node_count}
use Rattle.hv_task.specs.Plan.{IsUnsolvable}
use Rattle.hv_task.specs.Strips.{atoms}
use Rattle.hv_lines.specs.Good.{AreGood, ExprIsWithin, IsGood, IsKnown, IsOfItsFamily}
use Rattle.hv_lines.specs.Meaning.{AllTrue, AreTrue, IsTrueStatement}
use Rattle.hv_lines.specs.Numbering.{IsTable, expr_at}
use Rattle.hv_lines.specs.Queries.{NamesNodes}
use Rattle.hv_lines.specs.Order as O
use Rattle.hv_lines.specs.Setting.{Setting}
use Rattle.hv_lines.specs.declared.line.Expr.{Expr}
use Rattle.hv_lines.specs.declared.line.Expr.TheVariants as E
use Rattle.hv_lines.specs.declared.line.Line.{Line}
use Rattle.hv_lines.specs.declared.line.Line.TheVariants as L
use Rattle.hv_lines.specs.declared.line.Statement.{Statement}
use Rattle.hv_lines.specs.declared.line.Statement.TheVariants as T
use Rattle.hv_lines.specs.declared.line.Word.{Word}
use Rattle.hv_lines.specs.declared.line.Word.TheVariants as W
use Rattle.hv_lines.specs.Judged.{Accepts, Concludes, LineText}
use Rattle.hv_lines.proofs.Kept.{all_true_at}
use Rattle.hv_lines.proofs.Reasons.{good_next}
use Rattle.hv_lines.proofs.Truth.{verdict_true}
use Rattle.hv_rules.proofs.Sound.{sound}
use Rattle.hv_basic.specs.Stores.{CanBeStored, LineCanBeStored}

-- an accepted `k` line claims what is true
module _ (setting : Setting) (older : List Line) (id : ℕ) (ps : List ℕ) where
  claim_true : IsTable older → AllTrue setting.task setting.nodes older
      → (st : Statement) (w : Word)
      → IsGood setting older (L.Known id st w ps)
      → IsTrueStatement setting.task setting.nodes older st
  claim_true table all st W.B1 good = verdict_true setting older table st W.B1 (good O.Truth tt)
  claim_true table all st W.B2 good = verdict_true setting older table st W.B2 (good O.Truth tt)
  claim_true table all st W.B3 good = verdict_true setting older table st W.B3 (good O.Truth tt)
  claim_true table all st W.B4 good = verdict_true setting older table st W.B4 (good O.Truth tt)
  claim_true table all st W.B5 good = verdict_true setting older table st W.B5 (good O.Truth tt)
  claim_true table all st w good = sound setting.task setting.nodes older table st w ps
      (λ k said among says. all_true_at setting.task setting.nodes older k said table all says)
      (good O.Rule tt)

module _ (setting : Setting) where
  -- good lines are a table
  pub good_table : (lines : List Line) → AreGood setting lines → IsTable lines
  good_table [] good = tt
  good_table (line ∷ older) good =
      (good_next setting older line good.0, good_table older good.1)

  -- what good lines claim is true
  pub good_true : (lines : List Line) → AreGood setting lines
      → AllTrue setting.task setting.nodes lines
  good_true [] good = tt
  good_true (L.Acts id x ∷ older) good = good_true older good.1
  good_true (L.Expr id x ∷ older) good = good_true older good.1
  good_true (L.Known id st w ps ∷ older) good = (
    claim_true setting older id ps (good_table older good.1) (good_true older good.1) st w
        good.0,
    good_true older good.1,
  )

  pub good_each : (lines : List Line) → AreGood setting lines
      → AreTrue setting.task setting.nodes lines
  good_each lines good id statement says =
      all_true_at setting.task setting.nodes lines id statement (good_table lines good)
      (good_true lines good) says

  -- the nodes that good lines name are there
  node_named : (older : List Line) (id node : ℕ) (x : Expr) → IsGood setting older (L.Expr id x)
      → x ≡ E.Node node
      → node < node_count setting.nodes
  node_named older id node x good is =
      let known : IsKnown setting.task setting.nodes older (L.Expr id x) = good O.Reference in
      subst (ExprIsWithin setting.task setting.nodes) is known.1

  named_here : (older : List Line) (k : ℕ) (x : Expr) (id node : ℕ)
      → IsGood setting older (L.Expr k x)
      → (expr_at older id ≡ Some (E.Node node) → node < node_count setting.nodes) → (here : Bool)
      → cond here (Some x) (expr_at older id) ≡ Some (E.Node node) → node < node_count setting.nodes
  named_here older k x id node good before true at = node_named older k node x good
      (same_Some x (E.Node node) at)
  named_here older k x id node good before false at = before at

  pub good_nodes : (lines : List Line) → AreGood setting lines
      → NamesNodes (node_count setting.nodes) lines
  good_nodes [] good id node at = absurd cc
  good_nodes (L.Acts k x ∷ older) good id node at = good_nodes older good.1 id node at
  good_nodes (L.Expr k x ∷ older) good id node at =
      named_here older k x id node good.0 (good_nodes older good.1 id node) (nat_eq id k) at
  good_nodes (L.Known k st w ps ∷ older) good id node at = good_nodes older good.1 id node at

  -- what a good line says can be stored
  expr_stored : (x : Expr) → ExprIsWithin setting.task setting.nodes x → IsOfItsFamily x
      → CanBeStored (atoms setting.task) x
  expr_stored (E.Horn clauses) within family = (within, family)
  expr_stored (E.Dual clauses) within family = (within, family)
  expr_stored (E.Two clauses) within family = (within, family)
  expr_stored (E.States states) within family = within
  expr_stored (E.Constant constant) within family = tt
  expr_stored (E.Node node) within family = tt
  expr_stored (E.Not set) within family = tt
  expr_stored (E.And left right) within family = tt
  expr_stored (E.Or left right) within family = tt
  expr_stored (E.After set by) within family = tt
  expr_stored (E.Before set by) within family = tt

  pub line_stored : (older : List Line) (line : Line) → IsGood setting older line
      → LineCanBeStored (atoms setting.task) line
  line_stored older (L.Acts id x) good = tt
  line_stored older (L.Expr id x) good =
      let known : IsKnown setting.task setting.nodes older (L.Expr id x) = good O.Reference in
      expr_stored x known.1 (good O.Family)
  line_stored older (L.Known id st w ps) good = tt

  -- where good lines conclude, no list of actions is a plan
  pub good_concludes : (lines : List Line) → AreGood setting lines → Concludes lines
      → IsUnsolvable setting.task
  good_concludes lines good concludes =
      good_each lines good concludes.0 T.Unsolvable concludes.1

  -- what is accepted of a proof is good
  pub accepts_good : (pieces : List LineText) (lines : List Line) → Accepts setting pieces lines
      → AreGood setting lines
  accepts_good [] lines accepts = subst (λ ls. AreGood setting ls) (sym accepts) tt
  accepts_good (None ∷ older) lines accepts = absurd accepts
  accepts_good (Some bytes ∷ older) lines (inl skipped) = accepts_good older lines skipped.1
  accepts_good (Some bytes ∷ older) lines (inr (line, before, added, spelled, good, accepts)) =
      subst (λ ls. AreGood setting ls) (sym added) (good, accepts_good older before accepts)
