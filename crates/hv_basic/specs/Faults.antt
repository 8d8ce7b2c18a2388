-- Why a statement has no shape.
use Rattle.std.specs.Prelude.{⊤}
use Rattle.hv_basic.specs.declared.shapes.ShapeFault.{ShapeFault}
use Rattle.hv_basic.specs.declared.shapes.ShapeFault.TheVariants as S

-- the shape isn't there, which this says; memory may run out at any time
abbrev pub IsShapeFault : Type 0 → ShapeFault → Type 0
IsShapeFault HasNone S.Shape = HasNone
IsShapeFault HasNone S.Memory = ⊤
