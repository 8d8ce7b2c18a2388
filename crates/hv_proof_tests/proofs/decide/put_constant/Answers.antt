use Rattle.std.proofs.Common.{◌≡◌, ◌<◌, ℕ, Bool, true, false, List, ◌∷◌, Option, Some, cond, nat_eq}
use Rattle.std.proofs.Common.{subst, sym}
use Rattle.hv_lines.specs.Numbering.{expr_at}
use Rattle.hv_lines.specs.Queries.{NamesNodes}
use Rattle.hv_lines.specs.declared.line.Constant.{Constant}
use Rattle.hv_lines.specs.declared.line.Expr.{Expr}
use Rattle.hv_lines.specs.declared.line.Expr.TheVariants as E
use Rattle.hv_lines.specs.declared.line.Line.{Line}
use Rattle.hv_lines.specs.declared.line.Line.TheVariants as L
use Rattle.hv_basic.specs.Stores.{IsStoreOf}
use Rattle.hv_proof_tests.proofs.decide.put_constant.Goals as goal

pub returns-clause-store : goal.returns-clause-store
returns-clause-store c =
    subst (λ (lines : List Line). IsStoreOf c.args.task.now lines c.add.new.self)
    (sym c.in_ok-push.ensures.ok)
    (c.in_ok-add.ensures.stands c.args.table.now.lines c.expr_count-id.result c.requires.store
    c.expr_count-id.ensures.count)

-- a constant names no node, and the sets before it name what they did
names : (here : Bool) (constant : Constant) (older : Option Expr) (node count : ℕ)
    → (older ≡ Some (E.Node node) → node < count)
    → cond here (Some (E.Constant constant)) older ≡ Some (E.Node node) → node < count
names true constant older node count before at = absurd cc
names false constant older node count before at = before at

pub returns-clause-nodes : goal.returns-clause-nodes
returns-clause-nodes c =
    subst (λ (lines : List Line). (count : ℕ) → NamesNodes count lines)
    (sym c.in_ok-push.ensures.ok)
    (λ count id node at. names (nat_eq id c.expr_count-id.result) c.args.constant
    (expr_at c.args.table.now.lines id) node count (c.requires.nodes count id node) at)
