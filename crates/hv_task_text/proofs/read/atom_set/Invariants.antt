use Rattle.std.proofs.Common.{◌≡◌, ◌-◌, ℕ, List}
use Rattle.hv_grammar.specs.Parsers.{pure}
use Rattle.hv_grammar.specs.Positions.{CanRead}
use Rattle.hv_grammar.proofs.Going.{Goes}
use Rattle.hv_task.specs.AtomList.{set_of}
use Rattle.hv_task_text.specs.TaskFile.{atom_or, atom_set}
use Rattle.hv_task_text.proofs.Listed.{left}
use Rattle.hv_task_text.proofs.read.atom_set.Given as goal

abbrev pub invariant-lines : goal.invariant-lines
invariant-lines g l = (listed : List ℕ) × record {
  goes : Goes (atom_set l.fn.closing l.fn.kind l.fn.atoms) (g.R.Source.position l.fn.reader)
      (left l.fn.kind (atom_or l.fn.closing l.fn.kind l.fn.atoms)
      (λ all. pure (set_of l.fn.atoms all)) listed) (g.R.Source.position l.reader);
  can : CanRead (g.R.Source.position l.reader);
  set : l.set ≡ set_of l.fn.atoms listed;
}

abbrev pub decreases-lines : goal.decreases-lines
decreases-lines g l =
    (g.R.Source.position l.fn.reader).lines.limits.file
    - (g.R.Source.position l.reader).lines.number
