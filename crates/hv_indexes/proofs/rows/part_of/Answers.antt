use Rattle.hv_indexes.proofs.rows.part_of.Goals as goal

pub returns-clause-from : goal.returns-clause-from
returns-clause-from c = λ codes are size.
    c.begin_at.ensures codes c.args.key are size c.count_below-first.ensures

pub returns-clause-upto : goal.returns-clause-upto
returns-clause-upto c = λ codes are size.
    c.begin_at-2.ensures codes _ are size c.count_upto-next.ensures
