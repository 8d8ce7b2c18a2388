-- Lists of lists that are kept as one.
use Rattle.std.proofs.Common.{◌≡◌, ℕ, zero, suc, ◌+◌, ◌-◌, ◌<◌, ◌≤◌, ◌∙◌, List, [], ◌∷◌, ◌++◌}
use Rattle.std.proofs.Common.{length, get_or, take, drop, Some, refl, sym, ap, ap₂, arith}
use Rattle.std.proofs.Common.{length-append}
use Rattle.std.proofs.lemmas.List.{drop-append-le, length-drop, take-append-le, take_all, drop_all}
use Rattle.std.specs.Prelude.{slice_get, slice_range}
use Rattle.hv_sets.specs.Working.Pieces.{EndWithin, gathered, last_end, pieces, start_of}

-- the pieces end within the items
pub within : {A : Type 0} (items : List A) (from : ℕ) (ends : List ℕ) → EndWithin items from ends
    → from ≤ length items
within items from [] ended = ended
within items from (end ∷ ends) ended = let rest = within items end ends ended.1 in
    omega (arith, ended.0)

-- and so does the last of them
pub last_within : {A : Type 0} (items : List A) (from : ℕ) (ends : List ℕ)
    → EndWithin items from ends → last_end from ends ≤ length items
last_within items from [] ended = ended
last_within items from (end ∷ ends) ended = last_within items end ends ended.1

-- there are as many as ends
pub length-pieces : {A : Type 0} (items : List A) (from : ℕ) (ends : List ℕ)
    → length (pieces items from ends) ≡ length ends
length-pieces items from [] = refl
length-pieces items from (end ∷ ends) = ap suc (length-pieces items end ends)

-- a range is as before once more items follow
range_more : {A : Type 0} (items more : List A) (from end : ℕ) → from ≤ end → end ≤ length items
    → slice_range (items ++ more) from end ≡ slice_range items from end
range_more items more from end begins ends =
    let size = length-drop from items in
    ap (λ xs. take (end - from) xs) (drop-append-le from items more (omega arith))
    ∙ take-append-le (end - from) (drop from items) more (omega arith)

-- and so are the pieces
pub pieces-more : {A : Type 0} (items more : List A) (from : ℕ) (ends : List ℕ)
    → EndWithin items from ends → pieces (items ++ more) from ends ≡ pieces items from ends
pieces-more items more from [] ended = refl
pieces-more items more from (end ∷ ends) ended =
    ap₂ (λ x xs. x ∷ xs) (range_more items more from end ended.0 (within items end ends ended.1))
    (pieces-more items more end ends ended.1)

pub ends-more : {A : Type 0} (items more : List A) (from : ℕ) (ends : List ℕ)
    → EndWithin items from ends → EndWithin (items ++ more) from ends
ends-more items more from [] ended = let size = length-append items more in omega (arith, ended)
ends-more items more from (end ∷ ends) ended = (ended.0, ends-more items more end ends ended.1)

-- items that are put last belong to the piece that is begun
pub gathered-more : {A : Type 0} (items more : List A) (ends : List ℕ)
    → EndWithin items 0 ends
    → gathered (items ++ more) ends
    ≡ record { whole = (gathered items ends).whole; begun = (gathered items ends).begun ++ more }
gathered-more items more ends ended =
    ap₂ (λ xs ys. record { whole = xs; begun = ys }) (pieces-more items more 0 ends ended)
    (drop-append-le (last_end 0 ends) items more (last_within items 0 ends ended))

-- the range up to the end of the items is all that is left
range_rest : {A : Type 0} (items : List A) (from end : ℕ) → end ≡ length items
    → slice_range items from end ≡ drop from items
range_rest items from end at =
    let size = length-drop from items in take_all (end - from) (drop from items) (omega arith)

-- a piece that is ended
pub pieces-end : {A : Type 0} (items : List A) (from : ℕ) (ends : List ℕ) (end : ℕ)
    → end ≡ length items
    → pieces items from (ends ++ end ∷ [])
    ≡ pieces items from ends ++ drop (last_end from ends) items ∷ []
pieces-end items from [] end at = ap (λ xs. xs ∷ []) (range_rest items from end at)
pieces-end items from (next ∷ ends) end at =
    ap (λ xs. slice_range items from next ∷ xs) (pieces-end items next ends end at)

pub ends-end : {A : Type 0} (items : List A) (from : ℕ) (ends : List ℕ) (end : ℕ)
    → end ≡ length items
    → EndWithin items from ends → EndWithin items from (ends ++ end ∷ [])
ends-end items from [] end at ended = (omega (arith, ended), omega arith)
ends-end items from (next ∷ ends) end at ended = (ended.0, ends-end items next ends end at ended.1)

-- the last end of ends that one more follows is that one
pub last_end-push : (from : ℕ) (ends : List ℕ) (end : ℕ) → last_end from (ends ++ end ∷ []) ≡ end
last_end-push from [] end = refl
last_end-push from (next ∷ ends) end = last_end-push next ends end

pub gathered-end : {A : Type 0} (items : List A) (ends : List ℕ) (end : ℕ)
    → end ≡ length items
    → gathered items (ends ++ end ∷ [])
    ≡ record { whole = (gathered items ends).whole ++ (gathered items ends).begun ∷ []; begun = [] }
gathered-end items ends end at =
    let last = last_end-push 0 ends end in
    ap₂ (λ xs ys. record { whole = xs; begun = ys }) (pieces-end items 0 ends end at)
    (drop_all (last_end 0 (ends ++ end ∷ [])) items (omega arith))

-- a piece that is put last where none is begun
pub gathered-push : {A : Type 0} (items more : List A) (ends : List ℕ) (end : ℕ)
    → end ≡ length items + length more
    → EndWithin items 0 ends → (gathered items ends).begun ≡ []
    → gathered (items ++ more) (ends ++ end ∷ [])
    ≡ record { whole = (gathered items ends).whole ++ more ∷ []; begun = [] }
gathered-push items more ends end at ended none =
    let both = gathered-more items more ends ended in
    gathered-end (items ++ more) ends end (at ∙ sym (length-append items more))
    ∙ ap₂ (λ xs ys. record { whole = xs ++ ys ∷ []; begun = [] }) (ap (λ g. g.whole) both)
    (ap (λ g. g.begun) both ∙ ap (λ xs. xs ++ more) none)

pub ends-push : {A : Type 0} (items more : List A) (ends : List ℕ) (end : ℕ)
    → end ≡ length items + length more
    → EndWithin items 0 ends → EndWithin (items ++ more) 0 (ends ++ end ∷ [])
ends-push items more ends end at ended =
    ends-end (items ++ more) 0 ends end (at ∙ sym (length-append items more))
    (ends-more items more 0 ends ended)

-- where the last piece ends is the last of the ends
pub last_end_at : (from : ℕ) (ends : List ℕ) (k : ℕ) → length ends ≡ suc k
    → last_end from ends ≡ get_or ends k 0
last_end_at from [] k size = absurd (omega (arith, size))
last_end_at from (end ∷ []) zero size = refl
last_end_at from (end ∷ []) (suc k) size = absurd (omega (arith, size))
last_end_at from (end ∷ next ∷ ends) zero size = absurd (omega (arith, size))
last_end_at from (end ∷ next ∷ ends) (suc k) size = last_end_at end (next ∷ ends) k
    (omega (arith, size))

-- the piece at a place is a range of the items
pub piece_at : {A : Type 0} (items : List A) (from : ℕ) (ends : List ℕ) (place : ℕ)
    → place < length ends
    → slice_get (pieces items from ends) place
    ≡ Some (slice_range items (start_of from ends place) (get_or ends place 0))
piece_at items from [] place below = absurd (omega arith)
piece_at items from (end ∷ ends) zero below = refl
piece_at items from (end ∷ ends) (suc zero) below = piece_at items end ends zero (omega arith)
piece_at items from (end ∷ ends) (suc (suc place)) below = piece_at items end ends (suc place)
    (omega arith)

-- which ends after it begins, and within the items
pub piece_within : {A : Type 0} (items : List A) (from : ℕ) (ends : List ℕ) (place : ℕ)
    → EndWithin items from ends → place < length ends
    → (start_of from ends place ≤ get_or ends place 0) × (get_or ends place 0 ≤ length items)
piece_within items from [] place ended below = absurd (omega arith)
piece_within items from (end ∷ ends) zero ended below = (ended.0, within items end ends ended.1)
piece_within items from (end ∷ ends) (suc zero) ended below = piece_within items end ends zero
    ended.1 (omega arith)
piece_within items from (end ∷ ends) (suc (suc place)) ended below = piece_within items end ends
    (suc place) ended.1 (omega arith)
