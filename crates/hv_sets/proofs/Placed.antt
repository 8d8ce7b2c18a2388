-- A literal that is put in stands where its atom belongs.
use Rattle.std.proofs.Common.{◌≡◌, ℕ, zero, suc, ◌<◌, ◌≤◌, ◌∙◌, List, [], ◌∷◌, cond, eqb, ltb}
use Rattle.std.proofs.Common.{length, get_or, refl, sym, ap, arith, Ok, Err}
use Rattle.std.proofs.lemmas.Bool.{cond-false, cond-true, eq-eqb, le-ltb, lt-ltb, ne_eqb}
use Rattle.std.proofs.lemmas.List.{length-map}
use Rattle.std.specs.List.{insert}
use Rattle.std.specs.List.Sorted.{IsStrictlyIncreasing}
use Rattle.hv_task.specs.Working.AtomList.{IsPlaceOf}
use Rattle.hv_task.proofs.Rising.{rises_apart}
use Rattle.hv_sets.specs.declared.literal.Literal.{Literal}
use Rattle.hv_sets.specs.Cubes.{atoms_of, put_in}

-- past literals of lesser atoms it goes on
later : (x l : Literal) (xs : List Literal) → x.atom < l.atom → put_in l (x ∷ xs) ≡ x ∷ put_in l xs
later x l xs less =
    cond-true (ltb x.atom l.atom) (x ∷ put_in l xs) (cond (eqb x.atom l.atom) (x ∷ xs) (l ∷ x ∷ xs))
    (lt-ltb x.atom l.atom less)

inserted_at : (xs : List Literal) (l : Literal) (place : ℕ) → place ≤ length xs
    → ((k : ℕ) → k < place → get_or (atoms_of xs) k 0 < l.atom)
    → ((k : ℕ) → place ≤ k → k < length xs → l.atom < get_or (atoms_of xs) k 0)
    → insert xs place l ≡ put_in l xs
inserted_at [] l zero within before after = refl
inserted_at [] l (suc place) within before after = absurd (omega arith)
inserted_at (x ∷ xs) l zero within before after =
    let more : l.atom < x.atom = after 0 (omega arith) (omega arith) in
    sym (cond-false (ltb x.atom l.atom) (x ∷ put_in l xs)
    (cond (eqb x.atom l.atom) (x ∷ xs) (l ∷ x ∷ xs)) (le-ltb x.atom l.atom (omega arith))
    ∙ cond-false (eqb x.atom l.atom) (x ∷ xs) (l ∷ x ∷ xs)
    (ne_eqb x.atom l.atom (λ same. omega arith)))
inserted_at (x ∷ xs) l (suc place) within before after =
    ap (λ rest. x ∷ rest) (inserted_at xs l place (omega arith)
    (λ k less. before (suc k) (omega arith))
    (λ k from less. after (suc k) (omega arith) (omega arith)))
    ∙ sym (later x l xs (before 0 (omega arith)))

stays_at : (xs : List Literal) (l : Literal) (place : ℕ) → place < length xs
    → ((k : ℕ) → k < place → get_or (atoms_of xs) k 0 < l.atom)
    → get_or (atoms_of xs) place 0 ≡ l.atom → put_in l xs ≡ xs
stays_at [] l place within before here = absurd (omega arith)
stays_at (x ∷ xs) l zero within before here =
    let same : x.atom ≡ l.atom = here in
    cond-false (ltb x.atom l.atom) (x ∷ put_in l xs)
    (cond (eqb x.atom l.atom) (x ∷ xs) (l ∷ x ∷ xs)) (le-ltb x.atom l.atom (omega arith))
    ∙ cond-true (eqb x.atom l.atom) (x ∷ xs) (l ∷ x ∷ xs) (eq-eqb x.atom l.atom same)
stays_at (x ∷ xs) l (suc place) within before here =
    later x l xs (before 0 (omega arith))
    ∙ ap (λ rest. x ∷ rest) (stays_at xs l place (omega arith)
    (λ k less. before (suc k) (omega arith)) here)

-- at the place where it belongs
pub placed_new : (xs : List Literal) (l : Literal) (place : ℕ)
    → IsPlaceOf (atoms_of xs) l.atom (Err place) → insert xs place l ≡ put_in l xs
placed_new xs l place fits =
    let size = length-map xs (λ (l : Literal). l.atom) in
    inserted_at xs l place (omega (arith, fits.0)) fits.1
    (λ k from less. fits.2 k from (omega arith))

-- where a literal of its atom stands nothing changes
pub placed_there : (xs : List Literal) (l : Literal) (place : ℕ)
    → IsStrictlyIncreasing (atoms_of xs) → IsPlaceOf (atoms_of xs) l.atom (Ok place)
    → xs ≡ put_in l xs
placed_there xs l place rises fits =
    let size = length-map xs (λ (l : Literal). l.atom) in
    sym (stays_at xs l place (omega (arith, fits.0))
    (λ k less. let apart = rises_apart (atoms_of xs) k place rises less fits.0 in
    omega (arith, fits.1)) fits.1)
