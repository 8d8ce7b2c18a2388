use Rattle.std.proofs.Common.{◌∙◌, ◌++◌, ◌∷◌, [], ap, arith, subst, sym}
use Rattle.hv_bdd.specs.Working.Excluding.{AreLandings}
use Rattle.hv_bdd.proofs.Along.{fronts_none, level_after}
use Rattle.hv_bdd.proofs.Excluded.{landing_is, landings_more}
use Rattle.hv_bdd.proofs.node_exclusions.land.Goals as goal

pub returns-clause-fronts : goal.returns-clause-fronts
returns-clause-fronts c =
    let fronts = c.follow.new.self in
    fronts_none c.args.side.now.nodes.now c.args.side.now.inside c.args.node
    (c.args.literal ∷ []) fronts.reached fronts.levels.items c.in_ok-follow.ensures.fronts

pub returns-clause-levels : goal.returns-clause-levels
returns-clause-levels c =
    let sizes = c.in_ok-follow.ensures.fronts.sizes in
    let reached = c.in_ok-follow.ensures.reached in
    omega arith

pub returns-clause-landings : goal.returns-clause-landings
returns-clause-landings c =
    let list = c.args.side.now.nodes.now in
    let inside = c.args.side.now.inside in
    let node = c.args.node in
    let literal = c.args.literal in
    let fronts = c.follow.new.self in
    let nodes = c.extend_from_slice.new.self in
    let level = c.index.result.now in
    let same = c.in_ok-extend_from_slice.ensures.items
    ∙ (ap (λ xs. xs ++ c.as_slice.result.now) c.new-nodes.ensures.items
    ∙ c.as_slice.ensures.value) in
    subst (AreLandings list inside node) (sym c.in_ok-push.ensures.items)
    (landings_more list inside node c.args.landings.now.items
    (record { literal = literal; nodes = nodes }) c.requires.landings
    (landing_is list inside node literal nodes level c.requires.atom same
    (level_after list inside node literal fronts.reached fronts.levels.items level
    c.in_ok-follow.ensures.fronts c.in_ok-follow.ensures.reached (sym c.index.ensures))))
