use Rattle.hv_reach.proofs.atom_search.reached_atoms.Goals as goal

pub returns : goal.returns
returns c = λ p.
    let e = c.in_ok-list.ensures p in
    let r = c.in_ok-held.ensures p in
    (λ h. r.0 (e.0 h), λ h. e.1 (r.1 h))
