use Rattle.std.proofs.Common.{◌≡◌, true, false}
use Rattle.hv_explicit.proofs.Hits.{some_hit}
use Rattle.hv_explicit.proofs.sets_query.SetsQuery.is_owned.Goals as goal

pub returns-then-is_found : goal.returns-then-is_found
returns-then-is_found g c = λ b a just_b just_a _.
    let s = c.args.self.now in
    some_hit s s.query.negative b a false (c.is_found.ensures b just_b c.if-is_found.true)

pub returns-then-not-acts : goal.returns-then-not-acts
returns-then-not-acts g c = λ b a just_b just_a yes.
    let f : false ≡ true = yes in absurd cc

pub returns : goal.returns
returns g c = λ b a just_b just_a yes.
    let s = c.args.self.now in
    some_hit s s.query.negative b a true (c.is_found-2.ensures a just_a yes)
