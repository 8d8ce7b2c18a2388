-- The text of the task that a translator file makes.
use Rattle.std.specs.Prelude.{◌≡◌, ◌≤◌, ℕ, List, Ok, length}
use Rattle.hv_bytes.specs.Standard.{most_file_bytes, standard}
use Rattle.hv_sas.specs.Answer.{IsSasReadFrom}
use Rattle.hv_sas.specs.Made.{strips_of}
use Rattle.hv_sas.specs.declared.sas_task.Sas.{Sas}
use Rattle.hv_task_text.specs.Canonical.{canonical_of}

-- The text is the canonical one of the task that is made of the finite-domain task that is read
-- from a translator file, and no longer than a file.
pub record IsSasText (file : List ℕ) (sas : Sas) (text : List ℕ) : Type 0 where
  pub read : IsSasReadFrom standard file (Ok sas)
  pub written : text ≡ canonical_of (strips_of sas)
  pub short : length text ≤ most_file_bytes
