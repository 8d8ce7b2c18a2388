use Rattle.hv_reach.proofs.pair_table.mark_all.Goals as goal

pub returns-clause-least : goal.returns-clause-least
returns-clause-least c = λ r even all within.
    c.mark_square.ensures.least r even all
    (c.mark_diagonal-first.ensures.least r even (λ i d less. all i d less i d less) within)
