-- A state of a set, by its atoms or as a word.
use Rattle.std.specs.Prelude.{◌≤◌, ℕ, List, ⊤}
use Rattle.hv_explicit.specs.Working.Words.{word_atoms}
use Rattle.hv_explicit.specs.declared.sought.SomeState.{SomeState}
use Rattle.hv_explicit.specs.declared.sought.SomeState.TheVariants as S

-- the atoms of a state
abbrev pub state_atoms : SomeState → List ℕ
state_atoms (S.Listed state) = state.atoms.now
state_atoms (S.Word word) = word_atoms word.bits

-- a state is taken as a word only in a task with at most 64 atoms
abbrev pub IsOfFew : ℕ → SomeState → Type 0
IsOfFew atoms (S.Listed state) = ⊤
IsOfFew atoms (S.Word word) = atoms ≤ 64
