use Rattle.std.proofs.Common.{◌≡◌, Bool, List, false, refl}
use Rattle.std.proofs.Math.Bool.{beq}
use Rattle.std.specs.Bool.{Decides}
use Rattle.std.specs.Cmp.{booleans_Decides}
use Rattle.std.specs.Cmp.Lexicographic.{pointwise}
use Rattle.std.proofs.lemmas.Bool.Decides.{same_from_decides}
use Rattle.std.proofs.lemmas.Slice.Eq.{slice_eq-Decides}
use Rattle.hv_task.proofs.state.StatePartialEq.eq.Goals as goal

-- the test of two lists of flags decides whether they are one
decides : (left right : List Bool) → Decides (pointwise beq left right) (left ≡ right)
decides left right = slice_eq-Decides booleans_Decides left right (pointwise beq left right) refl

pub returns-then-atoms : goal.returns-then-atoms
returns-then-atoms c =
    same_from_decides false (pointwise beq c.args.self.now c.args.other.now)
    ((λ never. cc), (λ same. absurd (c.if-atoms.true (cc))))
    (decides c.args.self.now c.args.other.now)

pub returns : goal.returns
returns c =
    same_from_decides c.same.result (pointwise beq c.args.self.now c.args.other.now) c.same.ensures
    (decides c.args.self.now c.args.other.now)
