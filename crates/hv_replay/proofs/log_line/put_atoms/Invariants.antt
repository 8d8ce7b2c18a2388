use Rattle.std.proofs.Common.{◌≡◌, ◌++◌, length}
use Rattle.std.specs.Prelude.{option_map}
use Rattle.hv_bytes.specs.Working.Fields.{fields_behind}
use Rattle.hv_task.specs.State.{AreBelow}
use Rattle.hv_replay.specs.LogFile.{atoms_in}
use Rattle.hv_replay.proofs.log_line.put_atoms.Given as goal

abbrev pub invariant-fields : goal.invariant-fields
invariant-fields l = record {
  so_far : atoms_in l.fn.atoms 0 (fields_behind l.fn.fields (λ f. f.now))
      ≡ option_map (λ ns. l.states.begun ++ ns)
      (atoms_in l.fn.atoms l.least (fields_behind l.rest (λ f. f.now)));
  below : AreBelow l.least l.states.begun;
  whole : l.states.whole ≡ l.fn.states.whole;
}

abbrev pub decreases-fields : goal.decreases-fields
decreases-fields l = length (fields_behind l.rest (λ f. f.now))
