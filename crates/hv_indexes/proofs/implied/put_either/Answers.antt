use Rattle.std.proofs.Common.{◌≡◌, sym, subst}
use Rattle.hv_indexes.specs.Working.Implied.{pair_code}
use Rattle.hv_indexes.specs.Working.Rows.{PutsCodes}
use Rattle.hv_indexes.proofs.implied.put_either.Goals as goal

pub returns-then-turned : goal.returns-then-turned
returns-then-turned c =
    subst (λ turned. PutsCodes (λ x. x ≡ pair_code turned c.args.first c.args.second)
    c.args.codes.now.items c.put.new.codes.items) (sym c.if-turned.true) c.in_ok-put.ensures

pub returns : goal.returns
returns c =
    subst (λ turned. PutsCodes (λ x. x ≡ pair_code turned c.args.first c.args.second)
    c.args.codes.now.items c.put-2.new.codes.items) (sym c.if-turned.false) c.in_ok-put-2.ensures
