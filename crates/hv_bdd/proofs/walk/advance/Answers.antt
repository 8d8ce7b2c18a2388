use Rattle.std.proofs.Common.{◌∙◌, ◌∷◌, [], Ok, sym, ap, arith}
use Rattle.hv_bdd.specs.Paths.{left_of}
use Rattle.hv_bdd.specs.Working.Paths.{literals_of}
use Rattle.hv_bdd.proofs.Fronted.{keeps_front}
use Rattle.hv_bdd.proofs.Stacked.{gives, left_later, none_left}
use Rattle.hv_bdd.proofs.walk.advance.Goals as goal

pub returns-then-not-branch-clause-over : goal.returns-then-not-branch-clause-over
returns-then-not-branch-clause-over c =
    let list = c.args.nodes.now in
    let e = c.args.end in
    let clauses = c.in_ok-start_or_turn.ensures in
    left_later list e c.args.root c.start_or_turn.new.cursor clauses.place
    ∙ (ap (λ path. left_of list e path []) (clauses.empty (ap (λ b. Ok b) c.if-not-branch.true))
    ∙ none_left list e [] (omega arith))

pub returns-clause-more : goal.returns-clause-more
returns-clause-more c =
    let list = c.args.nodes.now in
    let e = c.args.end in
    let clauses = c.in_ok-start_or_turn.ensures in
    let down = c.in_ok-descend.ensures in
    let path = c.descend.new.path.items in
    sym (clauses.more (ap (λ b. Ok b) c.if-not-branch.false))
    ∙ (sym down.left
    ∙ (gives list e path down.stack.some c.requires.end
    ∙ ap (λ left. literals_of list path ∷ left)
    (sym (left_later list e c.args.root
    (record { place = c.start_or_turn.new.cursor.place; path = c.descend.new.path })
    clauses.place))))

pub returns-clause-front : goal.returns-clause-front
returns-clause-front c =
    let clauses = c.in_ok-start_or_turn.ensures in
    keeps_front c.args.nodes.now c.args.cursor.now.path.items
    c.start_or_turn.new.cursor.path.items c.descend.new.path.items
    c.saturating_sub-kept.result (clauses.front (ap (λ b. Ok b) c.if-not-branch.false))
    c.in_ok-descend.ensures.front
    (omega arith)
