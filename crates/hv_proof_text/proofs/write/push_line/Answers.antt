use Rattle.std.proofs.Common.{◌++◌, ◌∷◌, codes, decimal, map}
use Rattle.std.proofs.lemmas.Result.{on_ok_weaker}
use Rattle.hv_lines.specs.Spelling.{acts_fields, expr_fields, statement_fields, word_field}
use Rattle.hv_proof_text.proofs.Joined.{spelled, further}
use Rattle.hv_proof_text.proofs.write.push_line.Goals as goal

pub returns-in_ok-push_number-in-Acts-clause-ok : goal.returns-in_ok-push_number-in-Acts-clause-ok
returns-in_ok-push_number-in-Acts-clause-ok c =
    rw c.in-Acts.is
    (on_ok_weaker c.push_acts.result
    (spelled c.args.text.now (codes "a") c.push.new.text c.push_number.new.text
    c.push_acts.new.text c.in-Acts.id
    (acts_fields c.in-Acts.acts) c.in_ok-push-in-Acts.ensures.ok
    c.in_ok-push_number-in-Acts.ensures.ok)
    c.push_acts.ensures.ok)

pub returns-in_ok-push_number-in-Expr-clause-ok : goal.returns-in_ok-push_number-in-Expr-clause-ok
returns-in_ok-push_number-in-Expr-clause-ok c =
    rw c.in-Expr.is
    (on_ok_weaker c.push_expr.result
    (spelled c.args.text.now (codes "e") c.push-in-Expr.new.text
    c.push_number-in-Expr.new.text c.push_expr.new.text c.in-Expr.id
    (expr_fields c.in-Expr.expr) c.in_ok-push-in-Expr.ensures.ok
    c.in_ok-push_number-in-Expr.ensures.ok)
    c.push_expr.ensures.ok)

pub returns-in_ok-push_word-in-Known-clause-ok : goal.returns-in_ok-push_word-in-Known-clause-ok
returns-in_ok-push_word-in-Known-clause-ok c =
    rw c.in-Known.is
    (on_ok_weaker c.push_ids.result
    (λ e. spelled c.args.text.now (codes "k") c.push-in-Known.new.text
    c.push_number-in-Known.new.text c.push_ids.new.text c.in-Known.id
    (statement_fields c.in-Known.statement ++ word_field c.in-Known.word
    ∷ map decimal c.in-Known.premises)
    c.in_ok-push-in-Known.ensures.ok c.in_ok-push_number-in-Known.ensures.ok
    (further c.push_number-in-Known.new.text c.push_statement.new.text c.push_word.new.text
    c.push_ids.new.text
    (statement_fields c.in-Known.statement) (map decimal c.in-Known.premises)
    (word_field c.in-Known.word)
    c.in_ok-push_statement-in-Known.ensures.ok c.in_ok-push_word-in-Known.ensures.ok
    (rw c.as_slice.ensures at e)))
    c.push_ids.ensures.ok)
