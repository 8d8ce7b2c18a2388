use Rattle.hv_reach.proofs.Served.{square}
use Rattle.hv_reach.proofs.pairs.take_pairs.Goals as goal

pub returns-clause-space : goal.returns-clause-space
returns-clause-space c =
    let s = c.requires.space in
    rw c.replace-rows.ensures.after (record {
      rows = square c.args.atoms c.in_ok-empty.empty.items c.in_ok-empty.ensures.table;
      flags = s.flags;
      course = s.course;
    })
