use Rattle.std.proofs.Common.{arith, length, ap}
use Rattle.hv_formula.proofs.Rest.{barren_all}
use Rattle.hv_formula.proofs.rest_ask.RestAskAsker.is_open.Goals as goal

pub returns-then-self-len-clause-barren : goal.returns-then-self-len-clause-barren
returns-then-self-len-clause-barren g c = λ _ s of h.
    let q = c.args.self.now in
    barren_all q.set.now.clauses (g.A.Asker.atoms q.asked) (g.A.Asker.wanted q.asked)
    (g.A.Asker.assumed q.asked) q.arranged (c.requires.3.made c.if-self.true)
    (omega (arith, c.if-self-len.true, c.len.ensures, ap length c.clauses.ensures.clauses))
    c.requires.4.here c.requires.2 s of h
