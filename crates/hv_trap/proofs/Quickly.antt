-- Clauses of one or two literals by the places of these.
use Rattle.std.proofs.Common.{zero, suc, ◌≡◌, ℕ, ◌+◌, ◌-◌, ◌<◌, ◌≤◌, ◌∙◌, ◌&&◌, ◌||◌, Bool, true, false, not}
use Rattle.std.proofs.Common.{List, [], ◌∷◌, ◌++◌, length, get_or, cond, refl, sym, ap, arith}
use Rattle.std.specs.List.{list_all, list_any}
use Rattle.hv_sets.specs.Cubes.{SpeakBelow}
use Rattle.hv_sets.specs.Truth.{in_clause, in_clauses, in_literal}
use Rattle.hv_sets.specs.declared.literal.Literal.{Literal}
use Rattle.hv_trap.specs.declared.quick.LiteralPair.{LiteralPair}
use Rattle.hv_trap.specs.Working.Quick.{ArePairs, AreTruths, IsPlacedPair, truth_place, is_true_by}

twice : (b : Bool) → (b || false) ≡ (b || b)
twice true = refl
twice false = refl

last : (b : Bool) → (b || false) ≡ b
last true = refl
last false = refl

-- of one or two, one is that at the first place or that at the last
ends : (p : Literal → Bool) (xs : List Literal) (d e : Literal) → 0 < length xs → length xs ≤ 2
    → (p (get_or xs 0 d) || p (get_or xs (length xs - 1) e)) ≡ list_any p xs
ends p [] d e some few = absurd (omega arith)
ends p (x ∷ []) d e some few = sym (twice (p x))
ends p (x ∷ y ∷ []) d e some few = ap (λ b. p x || b) (sym (last (p y)))
ends p (x ∷ y ∷ z ∷ more) d e some few = absurd (omega arith)

-- the places of the first and the last literal tell whether a short clause is true
pub pair_tells : (bound : ℕ) (clause : List Literal) (pair : LiteralPair) (d e : Literal)
    → 0 < length clause → length clause ≤ 2 → pair.first ≡ truth_place (get_or clause 0 d)
    → pair.second ≡ truth_place (get_or clause (length clause - 1) e) → SpeakBelow bound clause
    → IsPlacedPair bound clause pair
pair_tells bound clause pair d e some few first second below state truths size are =
    let one = get_or clause 0 d in
    let two = get_or clause (length clause - 1) e in
    ap (λ p. get_or truths p false || get_or truths pair.second false) first
    ∙ ap (λ p. get_or truths (truth_place one) false || get_or truths p false) second
    ∙ ap (λ b. b || get_or truths (truth_place two) false)
    (are one (let low = below 0 d some in omega arith))
    ∙ ap (λ b. in_literal one state || b)
    (are two (let low = below (length clause - 1) e (omega arith) in omega arith))
    ∙ ends (λ l. in_literal l state) clause d e some few

-- one pair more
pub pairs_more : (bound : ℕ) (clauses : List (List Literal)) (pairs : List LiteralPair)
    (clause : List Literal) (pair : LiteralPair) → ArePairs bound clauses pairs
    → IsPlacedPair bound clause pair → ArePairs bound (clauses ++ clause ∷ []) (pairs ++ pair ∷ [])
pairs_more bound [] [] clause pair are is = (is, tt)
pairs_more bound [] (q ∷ qs) clause pair are is = absurd are
pairs_more bound (c ∷ cs) [] clause pair are is = absurd are
pairs_more bound (c ∷ cs) (q ∷ qs) clause pair are is =
    (are.0, pairs_more bound cs qs clause pair are.1 is)

pub pairs_count : (bound : ℕ) (clauses : List (List Literal)) (pairs : List LiteralPair)
    → ArePairs bound clauses pairs → length pairs ≡ length clauses
pairs_count bound [] [] are = refl
pairs_count bound [] (q ∷ qs) are = absurd are
pairs_count bound (c ∷ cs) [] are = absurd are
pairs_count bound (c ∷ cs) (q ∷ qs) are =
    let rest = pairs_count bound cs qs are.1 in omega arith

-- all together
pub pairs_tell : (state truths : List Bool) (clauses : List (List Literal))
    (pairs : List LiteralPair) → AreTruths state truths → ArePairs (length state) clauses pairs
    → list_all (is_true_by truths) pairs ≡ in_clauses clauses state
pairs_tell state truths [] [] told are = refl
pairs_tell state truths [] (q ∷ qs) told are = absurd are
pairs_tell state truths (c ∷ cs) [] told are = absurd are
pairs_tell state truths (c ∷ cs) (q ∷ qs) told are =
    ap (λ b. b && list_all (is_true_by truths) qs) (are.0 state truths refl told)
    ∙ ap (λ b. in_clause c state && b) (pairs_tell state truths cs qs told are.1)

-- and each
pub pair_tells_at : (state truths : List Bool) (clauses : List (List Literal))
    (pairs : List LiteralPair) (k : ℕ) (other : LiteralPair) → AreTruths state truths
    → ArePairs (length state) clauses pairs → k < length clauses
    → is_true_by truths (get_or pairs k other) ≡ in_clause (get_or clauses k []) state
pair_tells_at state truths [] [] k other told are less = absurd (omega arith)
pair_tells_at state truths [] (q ∷ qs) k other told are less = absurd are
pair_tells_at state truths (c ∷ cs) [] k other told are less = absurd are
pair_tells_at state truths (c ∷ cs) (q ∷ qs) zero other told are less =
    are.0 state truths refl told
pair_tells_at state truths (c ∷ cs) (q ∷ qs) (suc k) other told are less =
    pair_tells_at state truths cs qs k other told are.1 (omega arith)

-- the truths of a state, by its atoms
pub truths_of : (state truths : List Bool)
    → ((p : ℕ) → p < length state → (get_or truths p false ≡ not (get_or state p false))
    × (get_or truths (p + 64) false ≡ get_or state p false))
    → AreTruths state truths
truths_of state truths by literal less = by_sign literal.positive
  where
    by_sign : (sign : Bool)
        → get_or truths (cond sign (literal.atom + 64) literal.atom) false
        ≡ cond sign (get_or state literal.atom false)
        (not (get_or state literal.atom false))
    by_sign true = (by literal.atom less).1
    by_sign false = (by literal.atom less).0
