use Rattle.std.proofs.Common.{◌≡◌, true, false}
use Rattle.hv_command.proofs.Numbers.{names_none, names_number}
use Rattle.hv_command.proofs.job.as_number.Goals as goal

pub returns-then-is_within-clause-number : goal.returns-then-is_within-clause-number
returns-then-is_within-clause-number c =
    names_number c.args.least c.args.most c.args.word.now c.args.number c.requires
    (c.is_within.ensures.0 c.if-is_within.true)

pub returns-else-is_within-clause-number : goal.returns-else-is_within-clause-number
returns-else-is_within-clause-number c =
    names_none c.args.least c.args.most c.args.word.now c.args.number c.requires (λ good.
    let yes : c.is_within.result ≡ true = c.is_within.ensures.1 good in
    let no : c.is_within.result ≡ false = c.if-is_within.false in
    cc)
