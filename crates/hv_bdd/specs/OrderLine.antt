-- The line of an order: each atom of the task once, each with one space before it.
use Rattle.std.specs.Prelude.{◌&&◌, ℕ, Bool, List, [], ◌∷◌, Option, None, Some, codes, cond}
use Rattle.std.specs.Prelude.{decimal, is_some, length, map, nat_eq, nat_lt, option_and_then}
use Rattle.std.specs.Prelude.{option_map, slice_index_or}
use Rattle.std.specs.List.{join_with_byte, list_all, range_with_len}
use Rattle.std.specs.Str.{bytes_eq}
use Rattle.hv_grammar.specs.Forms.{decimal_of, rest_behind}
use Rattle.hv_bdd.specs.Order.{position}

-- whether a line begins with a word
abbrev pub begins_with : List ℕ → List ℕ → Bool
begins_with word line = is_some (rest_behind word line)

-- the line of an order
abbrev pub order_line : List ℕ → List ℕ
order_line order = join_with_byte 32 (codes "order" ∷ map decimal order)

-- the atom that a field names, of a task with so many
abbrev pub named_atom : ℕ → List ℕ → Option ℕ
named_atom atoms field =
    option_and_then (λ n. cond (nat_lt n atoms) (Some n) None) (decimal_of field)

-- the atoms that fields name, where each names one
abbrev pub named_atoms : ℕ → List (List ℕ) → Option (List ℕ)
named_atoms atoms [] = Some []
named_atoms atoms (field ∷ fields) =
    option_and_then (λ n. option_map (λ ns. n ∷ ns) (named_atoms atoms fields))
    (named_atom atoms field)

-- whether a list of atoms has so many places, and each is the first at which its atom stands: so
-- each atom of a task with so many is in it once
abbrev pub is_order : ℕ → List ℕ → Bool
is_order atoms order =
    nat_eq (length order) atoms
    && list_all (λ place. nat_eq (position order (slice_index_or order place (length order))) place)
    (range_with_len 0 atoms)

-- the list, where it is an order of so many atoms
abbrev pub if_order : ℕ → List ℕ → Option (List ℕ)
if_order atoms order = cond (is_order atoms order) (Some order) None

-- the order of the fields of a line, where they are the word and each atom once
abbrev pub order_of_fields : ℕ → List (List ℕ) → Option (List ℕ)
order_of_fields atoms [] = None
order_of_fields atoms (word ∷ fields) =
    cond (bytes_eq word (codes "order")) (option_and_then (if_order atoms)
    (named_atoms atoms fields)) None
