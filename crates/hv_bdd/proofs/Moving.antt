-- Tuples whose nodes move one after the other.
use Rattle.std.proofs.Common.{◌≡◌, ℕ, ◌<◌, ◌+◌, ◌++◌, ◌∷◌, ◌∙◌, Bool, false, List, []}
use Rattle.std.proofs.Common.{ap, ap₂, arith, cond, drop, eqb, get_or, length, set, sym, take}
use Rattle.std.proofs.lemmas.Bool.{cond-false, ne_eqb}
use Rattle.std.proofs.lemmas.List.{append_assoc, drop-set-lt, drop_more, take_more_set}
use Rattle.hv_bdd.specs.Tuples.{Moves, move_all, move_one}

-- one node more has moved, into a row of its own
pub moved_into : {O : Type 0} (m : Moves O) (v : ℕ) (b : Bool) (os : List O) (nodes row : List ℕ)
    (k x : ℕ) (o : O) → k < length nodes → k < length row → length nodes ≡ length os
    → x ≡ move_one m v b (get_or os k o) (get_or nodes k 0)
    → take (k + 1) (set row k x) ++ move_all m v b (drop (k + 1) os) (drop (k + 1) nodes)
    ≡ take k row ++ move_all m v b (drop k os) (drop k nodes)
moved_into {O} m v b os nodes row k x o less room size is =
    let rest = drop (k + 1) os in
    let more = drop (k + 1) nodes in
    ap (λ (front : List ℕ). front ++ move_all m v b rest more) (take_more_set row k x room)
    ∙ (append_assoc (take k row) (x ∷ []) (move_all m v b rest more)
    ∙ (ap (λ y. take k row ++ (y ∷ move_all m v b rest more)) is
    ∙ sym (ap₂ (λ (left : List O) (nodes' : List ℕ). take k row ++ move_all m v b left nodes')
    (drop_more os k o (omega arith)) (drop_more nodes k 0 less))))

-- one node more has moved, in the tuple itself
pub moved_more : {O : Type 0} (m : Moves O) (v : ℕ) (b : Bool) (os : List O) (nodes : List ℕ)
    (k x : ℕ) (o : O) → k < length nodes → length nodes ≡ length os
    → x ≡ move_one m v b (get_or os k o) (get_or nodes k 0)
    → take (k + 1) (set nodes k x)
    ++ move_all m v b (drop (k + 1) os) (drop (k + 1) (set nodes k x))
    ≡ take k nodes ++ move_all m v b (drop k os) (drop k nodes)
moved_more m v b os nodes k x o less size is =
    ap (λ (back : List ℕ). take (k + 1) (set nodes k x) ++ move_all m v b (drop (k + 1) os) back)
    (drop-set-lt (k + 1) nodes k x (omega arith))
    ∙ moved_into m v b os nodes nodes k x o less less size is

-- a node that asks for another place rules nothing out that it didn't before
pub stays_put : {O : Type 0} (m : Moves O) (v : ℕ) (b : Bool) (o : O) (i : ℕ)
    → (m.top o i ≡ v → ⊥) → eqb i (cond (m.wants o) 0 1) ≡ false
    → eqb (move_one m v b o i) (cond (m.wants o) 0 1) ≡ false
stays_put m v b o i other alive =
    ap (λ n. eqb n (cond (m.wants o) 0 1))
    (cond-false (eqb (m.top o i) v) (m.child o i (m.seen o v b)) i (ne_eqb (m.top o i) v other))
    ∙ alive
