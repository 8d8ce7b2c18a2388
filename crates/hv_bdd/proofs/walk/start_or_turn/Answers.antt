use Rattle.std.proofs.Common.{◌≡◌, ◌∙◌, ◌++◌, ◌∷◌, [], List, ℕ, sym, ap, subst}
use Rattle.hv_bdd.specs.Working.Laws.{left_first}
use Rattle.hv_bdd.specs.Paths.{last_of, left_at, left_of, paths}
use Rattle.hv_bdd.proofs.Stacked.{no_paths, root_left}
use Rattle.hv_bdd.proofs.walk.start_or_turn.Goals as goal

pub returns-then-root-end-clause-none : goal.returns-then-root-end-clause-none
returns-then-root-end-clause-none c = λ _.
    left_first c.args.nodes.now c.args.end c.args.root c.args.cursor.now
    (c.if-cursor-ne0.false, c.requires.stands.first c.if-cursor-ne0.false)
    ∙ no_paths c.args.nodes.now c.args.end c.args.root c.requires.end c.if-root-end.true

pub returns-clause-more : goal.returns-clause-more
returns-clause-more c = λ _.
    let list = c.args.nodes.now in
    let e = c.args.end in
    let root = c.args.root in
    let empty = c.requires.stands.first c.if-cursor-ne0.false in
    subst (λ (s : List ℕ). left_of list e s (paths list e (last_of s))
    ≡ left_at list e root c.args.cursor.now)
    (sym (c.in_ok-push.ensures.items ∙ ap (λ s. s ++ root ∷ []) empty))
    (root_left list e root
    ∙ sym (left_first list e root c.args.cursor.now (c.if-cursor-ne0.false, empty)))
