use Rattle.std.proofs.Common.{arith, refl, subst, sym, false}
use Rattle.std.specs.List.{Contains}
use Rattle.hv_replay.specs.Working.Leading.{set_asked}
use Rattle.hv_replay.proofs.log_query.stays.Goals as goal

pub find-requires-clause-anchor : goal.find-requires-clause-anchor
find-requires-clause-anchor c = λ _.
    let first = set_asked c.args.asking.now.number false in (
      first,
      subst (λ operands. Contains operands first) (sym c.requires.query.positive)
          (0, omega arith, refl),
      (refl, λ goals. absurd cc),
    )
