-- Lists of lists that are kept as one: all items in a row, and where each piece ends.
use Rattle.std.specs.Prelude.{◌≤◌, ℕ, zero, suc, List, [], ◌∷◌, length, drop, slice_index}
use Rattle.std.specs.Prelude.{slice_range}
use Rattle.hv_sets.specs.Gathered.{Gathered}

-- the pieces of the items from this place on, by where each ends
abbrev pub pieces : {A : Type 0} → List A → ℕ → List ℕ → List (List A)
pieces items from [] = []
pieces items from (end ∷ ends) = slice_range items from end ∷ pieces items end ends

-- from this place on no piece ends before it begins, and the last one ends within the items
abbrev pub EndWithin : {A : Type 0} → List A → ℕ → List ℕ → Type 0
EndWithin items from [] = from ≤ length items
EndWithin items from (end ∷ ends) = (from ≤ end) × EndWithin items end ends

-- where the piece at a place begins: where the one before it ends, and the first one at this place
abbrev pub start_of : ℕ → List ℕ → ℕ → ℕ
start_of from ends zero = from
start_of from ends (suc place) = slice_index ends place

-- where the last of the pieces from this place on ends
abbrev pub last_end : ℕ → List ℕ → ℕ
last_end from [] = from
last_end from (end ∷ ends) = last_end end ends

-- all pieces, and the items behind them
abbrev pub gathered : {A : Type 0} → List A → List ℕ → Gathered A
gathered items ends = record {
  whole = pieces items 0 ends;
  begun = drop (last_end 0 ends) items;
}
