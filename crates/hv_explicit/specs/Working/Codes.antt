-- Working definitions beside those of `Codes`: for private contracts and proofs.
use Rattle.std.specs.Prelude.{◌≡◌, ◌==◌, ◌<◌, ◌+◌, ◌*◌, ◌%◌, ◌/◌, ◌-◌, ◌^◌, ◌&&◌, ◌||◌, ◌↔◌}
use Rattle.std.specs.Prelude.{◌∷◌, not, ℕ, zero, suc, Bool, true, List, [], length, cond}
use Rattle.std.specs.Prelude.{slice_index_or, bit_and, bit_xor}
use Rattle.std.specs.List.{Contains, fold}
use Rattle.std.specs.List.Sorted.{IsStrictlyIncreasing}
use Rattle.std.specs.Hash as fed
use Rattle.std.specs.Hash.DefaultHasher as sip
use Rattle.std.specs.declared.hash.DefaultHasher.{DefaultHasher}
use Rattle.hv_task.specs.declared.action.Action.{Action}
use Rattle.hv_task.specs.Atoms.{is_after}
use Rattle.hv_task.specs.State.{AreBelow, names_atom}
use Rattle.hv_task.specs.Strips.{IsOver}
use Rattle.hv_explicit.specs.Codes.{IsBelow}

-- the list has just the atoms of the set
abbrev pub IsSame : (ℕ → Bool) → List ℕ → Type 0
IsSame set held = (p : ℕ) → set p ≡ names_atom held p

-- the set is one of the listed ones
abbrev pub HasListed : (ℕ → Bool) → List (List ℕ) → Type 0
HasListed set states = (k : ℕ) × (k < length states) × IsSame set (slice_index_or states k [])

-- the two halves of a product of 128 bits, joined by xor
unfoldable pub folded : ℕ → ℕ → ℕ
folded a b = bit_xor (bit_and (a * b) (2 ^ 64 - 1)) (a * b / 2 ^ 64)

-- the number of an atom by a key: by the key 0 a bit of its own for each of 64
unfoldable pub weight : ℕ → ℕ → ℕ
weight key atom = cond (key == 0) (2 ^ (atom % 64))
    (folded (bit_xor (folded (bit_xor key atom) 0x9e37_79b9_7f4a_7c15) key) 0xd134_2543_de82_ef95)

-- the sum of the numbers of the atoms of a set that are below the bound
abbrev pub total : ℕ → (ℕ → Bool) → ℕ → ℕ
total key test zero = 0
total key test (suc p) = total key test p + cond (test p) (weight key p) 0

-- the same sum in 64 bits
abbrev pub code_sum : ℕ → (ℕ → Bool) → ℕ → ℕ
code_sum key test bound = total key test bound % 2 ^ 64

-- the code of a set of atoms: the sum of their numbers
abbrev pub IsCode : ℕ → (ℕ → Bool) → ℕ → Type 0
IsCode key set code = (n : ℕ) × IsBelow n set × (code ≡ code_sum key set n)

-- the code of the atoms of a list, by any bound of them
abbrev pub IsListCode : ℕ → List ℕ → ℕ → Type 0
IsListCode key held code =
    (bound : ℕ) → AreBelow bound held → code ≡ code_sum key (names_atom held) bound

-- the code of what an action makes of them
abbrev pub IsAfterCode : ℕ → Action → List ℕ → ℕ → Type 0
IsAfterCode key action held code =
    (bound : ℕ) → AreBelow bound held → IsOver bound action
    → code ≡ code_sum key (is_after action held) bound

-- the atoms that are left where some of those to be deleted, and not added, were taken out
abbrev pub without : List ℕ → List ℕ → List ℕ → ℕ → Bool
without del add held p = names_atom held p && not (names_atom del p && not (names_atom add p))

-- the atoms where some were added
abbrev pub with_more : List ℕ → (ℕ → Bool) → ℕ → Bool
with_more add test p = names_atom add p || test p

-- the hasher after one atom more
unfoldable pub with_atom : DefaultHasher → ℕ → DefaultHasher
with_atom hasher atom = fold sip.write hasher (fed.u64 atom)

-- the hasher after these atoms
abbrev pub with_atoms : DefaultHasher → List ℕ → DefaultHasher
with_atoms hasher [] = hasher
with_atoms hasher (atom ∷ atoms) = with_atoms (with_atom hasher atom) atoms

-- the SipHash of a list of atoms
abbrev pub sip_of : List ℕ → ℕ
sip_of held = sip.finish (with_atoms sip.initial held)

-- the SipHash of a set is that of its list
abbrev pub IsSip : (ℕ → Bool) → ℕ → Type 0
IsSip set code =
    (held : List ℕ) × IsStrictlyIncreasing held × ((a : ℕ) → Contains held a ↔ (set a ≡ true))
    × (code ≡ sip_of held)
