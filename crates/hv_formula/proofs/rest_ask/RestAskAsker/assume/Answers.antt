use Rattle.std.proofs.Common.{◌≡◌, ◌∙◌, ◌++◌, ◌∷◌, [], true, false, sym, subst}
use Rattle.hv_formula.specs.Rest.{AreTrueAlong}
use Rattle.hv_formula.proofs.Rest.{along_made, along_more}
use Rattle.hv_formula.proofs.rest_ask.RestAskAsker.assume.Goals as goal

pub returns-clause-stands : goal.returns-clause-stands
returns-clause-stands g c =
    let q = c.args.self.now in
    let clauses = q.set.now.clauses in
    let ls = g.A.Asker.assumed q.asked in
    let made = c.make_ready.new.arranged in
    let told = c.tell_of.new.arranged in
    let is = c.requires.stands in (
      c.in_ok-assume.ensures.stands,
      c.assume.ensures.atoms ∙ is.1,
      λ s. c.assume.ensures.wanted s ∙ is.2 s,
      record {
        made = λ _. c.tell_of.ensures.arranged;
        first = λ e.
            let f : true ≡ false = sym c.in_ok-make_ready.ensures.ready ∙ e in absurd cc;
      },
      subst (λ xs. AreTrueAlong clauses xs told.order.items c.push.new.self.items told.done)
          (sym c.in_ok-assume.ensures.assumed)
          (subst (λ xs. AreTrueAlong clauses (ls ++ c.args.literal ∷ []) told.order.items xs
          told.done)
          (sym c.in_ok-push.ensures.items)
          (along_more clauses ls c.args.literal made.order.items told.order.items q.points.items
          made.done
          told.done
          (along_made clauses ls q.arranged made q.points.items q.ready is.3.first
          c.in_ok-make_ready.ensures.made is.4)
          c.tell_of.ensures.keeps c.tell_of.ensures.grows c.tell_of.ensures.more)),
    )
