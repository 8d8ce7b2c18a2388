use Rattle.std.proofs.Common.{◌↔◌, IsTrue, subst, sym}
use Rattle.hv_lines.specs.Good.{IsOfItsFamily}
use Rattle.hv_basic.proofs.kinds.is_of_its_family.Goals as goal

pub returns-in-Horn : goal.returns-in-Horn
returns-in-Horn c =
    subst (λ expr. IsTrue c.are_of.result ↔ IsOfItsFamily expr) (sym c.in-Horn.is) c.are_of.ensures

pub returns-in-Dual : goal.returns-in-Dual
returns-in-Dual c =
    subst (λ expr. IsTrue c.are_of-in-Dual.result ↔ IsOfItsFamily expr) (sym c.in-Dual.is)
    c.are_of-in-Dual.ensures

pub returns-in-Two : goal.returns-in-Two
returns-in-Two c =
    subst (λ expr. IsTrue c.are_of-in-Two.result ↔ IsOfItsFamily expr) (sym c.in-Two.is)
    c.are_of-in-Two.ensures
