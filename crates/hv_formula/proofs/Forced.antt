-- Literals that are listed by rising atoms say what was known.
use Rattle.std.proofs.Common.{◌≡◌, ℕ, ◌+◌, ◌<◌, ◌≤◌, ◌∙◌, Bool, true, not, cond, List, [], ◌∷◌}
use Rattle.std.proofs.Common.{◌++◌, Some, None, length, replicate, get_or, sym, ap, arith, inl, inr}
use Rattle.std.proofs.Common.{slice_get}
use Rattle.std.proofs.Common.{subst, ◌&&◌, ◌||◌, false, refl}
use Rattle.std.proofs.lemmas.Bool.{cases_lt}
use Rattle.std.proofs.lemmas.List.{length-map}
use Rattle.std.proofs.lemmas.List.{map-append}
use Rattle.std.proofs.lemmas.List.Elements.{All-cons, All-nil, All-push, All-weaker}
use Rattle.std.proofs.lemmas.List.Elements.{Contains-get_or}
use Rattle.std.proofs.lemmas.Option.{get_or_from_slice_get}
use Rattle.std.specs.List.Sorted.{IsStrictlyIncreasing}
use Rattle.std.specs.Option.{option_map}
use Rattle.hv_sets.specs.declared.literal.Literal.{Literal}
use Rattle.hv_sets.specs.Cubes.{atoms_of}
use Rattle.hv_sets.specs.Truth.{in_clauses, in_literal}
use Rattle.hv_sets.proofs.Cubes.{atom_at}
use Rattle.hv_propagation.specs.Clauses.{AreClauses}
use Rattle.hv_propagation.specs.Forced.{AreForced}
use Rattle.hv_formula.specs.Working.Closure.{IsLone, ListsBelow}
use Rattle.hv_propagation.specs.Marks.{known, Agrees}
use Rattle.hv_propagation.specs.Trail.{Knowledge, marked, marks_of}
use Rattle.hv_propagation.specs.Units.{IsSettled, first_of, value_of, AreSettled}
use Rattle.hv_task.proofs.Listing.{rises-push}
use Rattle.hv_propagation.proofs.Around.{forced_around}
use Rattle.hv_propagation.specs.Working.Laws.{known_past, value_marked, known-set_other}
use Rattle.hv_propagation.specs.Working.Laws.{known-set_same}
use Rattle.hv_propagation.proofs.Trailed.{known-replicate}
use Rattle.hv_propagation.proofs.Trailed.{length-marked, length-marks, written-push, written_none}

module _ (ls : List Literal) (bound : ℕ) (listed : ListsBelow bound ls) where
  -- nothing is said of the atoms from the bound on
  pub none_from : (n p : ℕ) → bound ≤ p → known (marked n ls) p ≡ None
  none_from n p h =
      written_none ls (replicate n 0) p (λ k d less same. let low = listed.below k d less in
      omega arith) ∙ known-replicate n p

  module _ (l : Literal) (at : l.atom ≡ bound) where
    pub listed_more : ListsBelow (bound + 1) (ls ++ l ∷ [])
    listed_more =
        let size = length-map ls (λ (x : Literal). x.atom) in
        record {
          rises = subst IsStrictlyIncreasing (sym
              (map-append (λ (x : Literal). x.atom) ls (l ∷ [])))
              (rises-push (atoms_of ls) l.atom listed.rises
              (λ k within. let low = listed.below k l (omega arith) in
              let here = atom_at ls k l (omega arith) in omega arith));
          below = All-push (λ (x : Literal). x.atom < bound + 1) ls l
              (All-weaker (λ (x : Literal). x.atom < bound) (λ (x : Literal). x.atom < bound + 1)
              (λ x less. omega arith) ls listed.below) (omega arith);
        }

    pub said_more : (n : ℕ) → bound < n → known (marked n (ls ++ l ∷ [])) bound ≡ Some l.positive
    said_more n less =
        let wide = length-marked n ls in
        ap (λ m. known m bound) (written-push ls l (replicate n 0))
        ∙ (ap (known _) (sym at) ∙ known-set_same (marked n ls) l.atom l.positive (omega arith))

    pub said_others : (n p : ℕ) → (p ≡ bound → ⊥)
        → known (marked n (ls ++ l ∷ [])) p ≡ known (marked n ls) p
    said_others n p other =
        ap (λ m. known m p) (written-push ls l (replicate n 0))
        ∙ known-set_other (marked n ls) l.atom p l.positive (λ e. other (e ∙ at))

-- what is said of each atom of the task is said of each number
pub said_everywhere : (k : Knowledge) (ls : List Literal) (n : ℕ) → n ≡ length k.roots
    → ((p : ℕ) → p < n → known (marked n ls) p ≡ known (marks_of k) p) → (p : ℕ)
    → known (marked n ls) p ≡ known (marks_of k) p
said_everywhere k ls n wide same p =
    let a = length-marked n ls in
    let b = length-marks k in
    elim (cases_lt p n) [
      | inl less ↦ same p less
      | inr past ↦ known_past (marked n ls) p (omega arith)
          ∙ sym (known_past (marks_of k) p (omega arith))
    ]

-- where the same is known, the same is settled
module _ (m k : List ℕ) (same : (p : ℕ) → known k p ≡ known m p) where
  value_same : (e : List ℕ) (l : Literal) → value_of e k l ≡ value_of e m l
  value_same e l = ap (λ o. option_map (λ value. cond l.positive value (not value))
      (first_of (known e l.atom) o)) (same l.atom)

  one_settled : (e : List ℕ) (clause : List Literal) → IsSettled e m clause → IsSettled e k clause
  one_settled e clause settled =
      elim settled [
        | inl at ↦ inl (at.0, at.1, value_same e at.0 ∙ at.2)
        | inr two ↦ inr (
          two.0,
          two.1,
          two.2,
          two.3,
          two.4,
          value_same e two.0
              ∙ two.5,
          value_same e two.1 ∙ two.6,
        )
      ]

  pub all_settled : (e : List ℕ) (clauses : List (List Literal)) → AreSettled e clauses m
      → AreSettled e clauses k
  all_settled e clauses settled = λ j d less. one_settled e (get_or clauses j d) (settled j d less)

  pub agrees_same : (state : List Bool) → Agrees m state → Agrees k state
  agrees_same state agrees = λ p b h. agrees p b (sym (same p) ∙ h)

pub forced_from : (atoms : ℕ) (clauses : List (List Literal)) (k : Knowledge) (ls : List Literal)
    → length k.roots ≡ atoms
    → IsStrictlyIncreasing (atoms_of ls) →
    ((p : ℕ) → known (marked (length k.roots) ls) p ≡ known (marks_of k) p)
    → AreSettled [] clauses (marks_of k)
    → ((state : List Bool) → length state ≡ atoms → in_clauses clauses state ≡ true
    → Agrees (marks_of k) state)
    → AreForced atoms clauses ls
forced_from atoms clauses k ls wide rises same settled follows =
    let equal : (p : ℕ) → known (marked atoms ls) p ≡ known (marks_of k) p = subst
    (λ n. (p : ℕ) → known (marked n ls) p ≡ known (marks_of k) p) wide same in
    record {
      rises = rises;
      settled = all_settled (marks_of k) (marked atoms ls) equal [] clauses settled;
      follows = λ state size holds. agrees_same (marks_of k) (marked atoms ls) equal state
          (follows state size holds);
    }

-- a clause of one literal forces that literal
lone_forced : (atoms : ℕ) (l : Literal) → l.atom < atoms
    → AreForced atoms ((l ∷ []) ∷ []) (l ∷ [])
lone_forced atoms l less =
    forced_around atoms ((l ∷ []) ∷ []) (l ∷ []) (λ k past. omega (arith, past))
    (λ state size holds. alone (in_literal l state) holds)
    (All-cons (λ clause. IsSettled [] (marked atoms (l ∷ [])) clause) (l ∷ []) []
    (inl (
      l,
      Contains-get_or (l ∷ []) 0 l (omega arith),
      value_marked [] (marked atoms (l ∷ [])) l (known-replicate 0 l.atom) said,
    ))
    (All-nil (λ clause. IsSettled [] (marked atoms (l ∷ [])) clause)))
  where
    said : known (marked atoms (l ∷ [])) l.atom ≡ Some l.positive
    said = let wide = length-marked atoms [] in
        known-set_same (marked atoms []) l.atom l.positive (omega (arith, wide, less))

    alone : (b : Bool) → ((b || false) && true) ≡ true → (b && true) ≡ true
    alone true e = refl
    alone false e = e

-- what is handed out where the clauses are one literal
pub lone_found : (atoms : ℕ) (clauses : List (List Literal)) (found : List Literal)
    → AreClauses atoms clauses → IsLone clauses → slice_get clauses 0 ≡ Some found
    → AreForced atoms clauses found
lone_found atoms clauses found below alone at =
    let l : Literal = alone.0 in
    let here : AreClauses atoms ((l ∷ []) ∷ []) = subst (AreClauses atoms) alone.1 below in
    let less : l.atom < atoms = here 0 (l ∷ []) (omega arith) 0 l (omega arith) in
    let first : slice_get ((l ∷ []) ∷ []) 0 ≡ Some found =
    ap (λ cs. slice_get cs 0) (sym alone.1) ∙ at in
    let same : l ∷ [] ≡ found =
    get_or_from_slice_get ((l ∷ []) ∷ []) 0 found found first in
    subst (AreForced atoms clauses) same
    (subst (λ cs. AreForced atoms cs (l ∷ [])) (sym alone.1) (lone_forced atoms l less))

one_only : {A : Type 0} (xs : List A) (d : A) → length xs ≡ 1 → xs ≡ get_or xs 0 d ∷ []
one_only [] d one = absurd (omega (arith, one))
one_only (x ∷ []) d one = refl
one_only (x ∷ y ∷ xs) d one = absurd (omega (arith, one))

-- one clause with one literal
pub lone_is : (clauses : List (List Literal)) (clause : List Literal) → length clauses ≡ 1
    → slice_get clauses 0 ≡ Some clause → length clause ≡ 1 → (d : Literal)
    → clauses ≡ (get_or clause 0 d ∷ []) ∷ []
lone_is clauses clause one at short d =
    one_only clauses clause one ∙ ap (λ c. c ∷ [])
    (get_or_from_slice_get clauses 0 clause clause at ∙ one_only clause d short)
