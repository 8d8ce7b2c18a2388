use Rattle.std.proofs.Common.{◌≡◌, ◌++◌, take}
use Rattle.std.specs.Fmt.{decimal}
use Rattle.std.specs.List.{flat_map}
use Rattle.hv_task_text.specs.Canonical.{with_lf}
use Rattle.hv_task_text.proofs.write.write_atoms.Given as goal

abbrev pub invariant-loop-place : goal.invariant-loop-place
invariant-loop-place l = l.text ≡ l.initial.text ++ flat_map
    (λ n. with_lf (l.word ++ decimal n)) (take l.place l.atoms)
