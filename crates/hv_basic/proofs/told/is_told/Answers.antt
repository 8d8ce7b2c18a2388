use Rattle.std.proofs.Common.{refl}
use Rattle.hv_basic.proofs.told.is_told.Goals as goal

pub returns : goal.returns
returns c = λ yes. record {
  affordable = c.if-not-is_affordable.ensures refl;
  one_family = c.if-not-asks_one_family.ensures refl;
  positive = c.if-not-are_positive.ensures refl;
  own = c.has_own.ensures yes;
}
