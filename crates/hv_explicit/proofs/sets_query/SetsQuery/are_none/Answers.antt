use Rattle.std.proofs.Common.{◌∙◌, ap, not, sym}
use Rattle.hv_explicit.proofs.Hits.{none_after, none_hit, not_hit, when_asked}
use Rattle.hv_explicit.proofs.sets_query.SetsQuery.are_none.Goals as goal

pub returns-then-not-acts : goal.returns-then-not-acts
returns-then-not-acts g c = λ b a stands_b stands_a.
    let s = c.args.self.now in
    ap not c.if-not-acts.true
    ∙ sym (none_hit s s.query.negative b a
    (λ hit. not_hit c.is_hit.result c.if-not-is_hit.true ((c.is_hit.ensures b stands_b).1 hit))
    (none_after s a (c.acts.ensures c.if-not-acts.true)))

pub returns-else-not-acts : goal.returns-else-not-acts
returns-else-not-acts g c = λ b a stands_b stands_a.
    let s = c.args.self.now in
    when_asked s s.query.negative b a c.is_hit-else-not-acts.result
    (λ hit. not_hit c.is_hit.result c.if-not-is_hit.true ((c.is_hit.ensures b stands_b).1 hit))
    (c.is_hit-else-not-acts.ensures a stands_a)
