use Rattle.std.proofs.Common.{◌∙◌, sym}
use Rattle.hv_reach.proofs.Waiting.{put_held, put_none}
use Rattle.hv_reach.proofs.atom_search.put.Goals as goal

pub returns-then-not-has : goal.returns-then-not-has
returns-then-not-has c = put_none c.args.held.now c.args.list.now c.args.atom
    (sym c.has.ensures ∙ c.if-not-has.true)

pub returns : goal.returns
returns c = put_held c.args.held.now c.args.list.now c.insert.new.self c.args.atom
    c.in_ok-insert.ensures.ok.has (sym c.has.ensures ∙ c.if-not-has.false)
