use Rattle.std.proofs.Common.{◌≡◌, length, arith, subst}
use Rattle.hv_clauses.specs.Working.Found.{IsSearchBegun}
use Rattle.hv_clauses.proofs.find.pays_to_list.Goals as goal

pub leads_far-requires-clause-begun : goal.leads_far-requires-clause-begun
leads_far-requires-clause-begun g c =
    let within = c.requires.begun.within in
    let same : c.args.place ≡ length c.args.marks.now.trail = omega arith in
    subst (λ n. IsSearchBegun c.args.problem.now n c.args.marks.now) same c.requires.begun
