-- Files by name, and what opening one of them gives.
use Rattle.std.specs.Prelude.{◌≡◌, ℕ, List, [], Option, None, Some, unwrap_or, option_map, find}
use Rattle.std.specs.Str.{bytes_eq}

-- what is under each name: nothing where the name isn't held
abbrev pub Names : Type 0
Names = List ℕ → Option (List ℕ)

-- the bytes under a name: none for a name that isn't held
abbrev pub bytes_of : Names → List ℕ → List ℕ
bytes_of held name = unwrap_or (held name) []

-- a file as it was added: its name and its bytes
pub record File : Type 0 where
  pub name : List ℕ
  pub bytes : List ℕ

-- of these files, newest first, the bytes of the newest one of each name
abbrev pub held_of : List File → Names
held_of files name = option_map (λ file. file.bytes) (find (λ file. bytes_eq file.name name) files)

-- after an open that succeeds the left bytes are those under the name, where known
abbrev pub Opens : Option Names → List ℕ → Option (List ℕ) → Type 0
Opens None name left = Unit {0}
Opens (Some held) name left = left ≡ Some (bytes_of held name)
