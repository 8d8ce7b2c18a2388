use Rattle.std.proofs.Common.{◌∙◌, arith, subst, sym, take}
use Rattle.hv_formula.specs.Rest.{AreTrueAlong, IsReadyFor}
use Rattle.hv_formula.proofs.Rest.{along_back, at_within, ready_back}
use Rattle.hv_formula.proofs.rest_ask.RestAskAsker.take_back.Goals as goal

pub take_back-requires-clause-stands : goal.take_back-requires-clause-stands
take_back-requires-clause-stands g c = c.requires.stands.0

pub take_back-requires-clause-depth : goal.take_back-requires-clause-depth
take_back-requires-clause-depth g c = c.requires.depth

pub index-requires : goal.index-requires
index-requires g c =
    let along = c.requires.stands.4 in
    let sizes = along.sizes in
    let made = c.args.self.now.points.ok.0 in
    omega (arith, c.requires.depth, sizes, made)

pub returns-clause-stands : goal.returns-clause-stands
returns-clause-stands g c =
    let q = c.args.self.now in
    let clauses = q.set.now.clauses in
    let ls = g.A.Asker.assumed q.asked in
    let order = q.arranged.order.items in
    let depth = c.args.depth in
    let at = c.index.result.now in
    let along = c.requires.stands.4 in
    let within = at_within clauses ls order q.points.items q.arranged.done depth at along
    c.requires.depth c.index.ensures in
    let back = along_back clauses ls order q.points.items q.arranged.done depth at along
    c.requires.depth c.index.ensures in (
      c.take_back.ensures.stands,
      c.take_back.ensures.atoms ∙ c.requires.stands.1,
      λ s. c.take_back.ensures.wanted s ∙ c.requires.stands.2 s,
      subst (λ these. IsReadyFor clauses these q.ready
          (record { order = q.arranged.order; places = q.arranged.places; done = at }))
          (sym c.take_back.ensures.assumed)
          (ready_back clauses ls q.ready q.arranged depth at c.requires.depth within
          c.requires.stands.3),
      subst (λ these. AreTrueAlong clauses these order c.truncate.new.self.items at)
          (sym c.take_back.ensures.assumed)
          (subst (λ points. AreTrueAlong clauses (take depth ls) order points at)
          (sym c.truncate.ensures.items) back),
    )

pub returns-clause-assumed : goal.returns-clause-assumed
returns-clause-assumed g c = c.take_back.ensures.assumed
