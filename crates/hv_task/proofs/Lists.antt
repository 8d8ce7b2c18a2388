-- Lists to which one element is put.
use Rattle.std.proofs.Common.{◌≡◌, ℕ, suc, ◌+◌, ◌<◌, ◌∙◌, List, [], ◌∷◌, ◌++◌, Some, slice_get, sym}
use Rattle.std.proofs.Common.{take, ap, subst}
use Rattle.std.proofs.lemmas.List.{take_more}
use Rattle.std.proofs.lemmas.List.Elements.{All-nil}
use Rattle.std.proofs.lemmas.Option.{get_or_from_slice_get, slice_get_within}
use Rattle.std.specs.Global.{Vec}
use Rattle.hv_task.specs.State.{AreBelow}

-- one element more of the beginning of a list
pub take_next : {X : Type 0} (xs : List X) (k : ℕ) (x : X) → slice_get xs k ≡ Some x
    → take (k + 1) xs ≡ take k xs ++ x ∷ []
take_next xs k x at =
    take_more xs k x (slice_get_within xs k x at)
    ∙ ap (λ y. take k xs ++ y ∷ []) (get_or_from_slice_get xs k x x at)

-- an empty row more, where each number of each row is below the bound
pub rows_push : (bound : ℕ) (rows : List (Vec ℕ)) (v : Vec ℕ) → v.items ≡ []
    → ((p : ℕ) (row : Vec ℕ) → slice_get rows p ≡ Some row → AreBelow bound row.items)
    → (p : ℕ) (row : Vec ℕ) → slice_get (rows ++ v ∷ []) p ≡ Some row → AreBelow bound row.items
rows_push bound [] v e h Prim.Native.Nat.zero row is =
    let f : v ≡ row = cc in subst (λ xs. AreBelow bound xs) (sym e ∙ ap (λ (r : Vec ℕ). r.items) f)
    (All-nil (λ n. n < bound))
rows_push bound [] v e h (suc p) row is = absurd cc
rows_push bound (r ∷ rows) v e h Prim.Native.Nat.zero row is = h Prim.Native.Nat.zero row is
rows_push bound (r ∷ rows) v e h (suc p) row is = rows_push bound rows v e (λ q. h (suc q)) p row is
