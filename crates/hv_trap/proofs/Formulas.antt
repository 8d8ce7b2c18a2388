-- The formula of the greatest trap: how many clauses it has, and of what size, and the lines of
-- which it is a part.
use Rattle.std.proofs.Common.{◌≡◌, ℕ, zero, suc, ◌+◌, ◌*◌, ◌-◌, ◌≤◌, ◌∙◌, ◌⊎◌, Bool, true, false}
use Rattle.std.proofs.Common.{List, [], ◌∷◌, if◌then◌else◌, length, get_or, refl, sym, ap, subst}
use Rattle.std.proofs.Common.{inl, inr, arith, length-append}
use Rattle.std.proofs.lemmas.Bool.{and_parts}
use Rattle.std.proofs.lemmas.List.Elements.{All-append, All-cons, All-nil}
use Rattle.std.proofs.lemmas.List.FromFn.{length-range_with_len}
use Rattle.std.specs.List.{All, Contains, flat_map, range_with_len}
use Rattle.hv_task.specs.Strips.{Strips, atoms, is_goal}
use Rattle.hv_sets.specs.Kinds.{IsTwoClause}
use Rattle.hv_sets.specs.Truth.{in_clauses}
use Rattle.hv_sets.specs.declared.literal.Literal.{Literal}
use Rattle.hv_propagation.specs.Clauses.{AreClauses}
use Rattle.hv_lines.specs.Spelling.{FitsLiteral}
use Rattle.hv_lines.proofs.Lengths.{IsSmall}
use Rattle.hv_lines.proofs.Elements.{cons_cases, nothing_in}
use Rattle.hv_lines.proofs.Lists.{length-pieces}
use Rattle.hv_trap.specs.Conjunctions.{conjunctions, denying_clause, denial_in, denials, denials_of}
use Rattle.hv_trap.specs.Conjunctions.{is_short, denies_one, over_greater, over_one, over_two}
use Rattle.hv_trap.specs.Trap.{AreTrapClauses, Stays}
use Rattle.hv_trap.specs.Working.Trap.{Enclose}
use Rattle.hv_trap.proofs.Enclosing.{enclose_below}
use Rattle.hv_trap.proofs.Trapped.{trap_encloses, trap_goalless, trap_stays}

-- how many conjunctions there are

-- those over two atoms of so many
abbrev triples : ℕ → ℕ
triples zero = 0
triples (suc n) = 3 * n + triples n

triples_rise : (n m : ℕ) → triples n ≤ triples (n + m)
triples_rise n zero = let same : n + 0 ≡ n = omega arith in
    subst (λ k. triples n ≤ triples k) (sym same) (omega arith)
triples_rise n (suc m) =
    let same : n + suc m ≡ suc (n + m) = omega arith in
    subst (λ k. triples n ≤ triples k) (sym same) (omega (arith, triples_rise n m))

length-row : (p a n : ℕ) → length (flat_map (over_two p) (range_with_len a n)) ≡ 3 * n
length-row p a zero = refl
length-row p a (suc n) = omega (arith, length-row p (a + 1) n)

length-rows : (n a k : ℕ) → a + k ≡ n → length (flat_map (over_greater n) (range_with_len a k))
    ≡ triples k
length-rows n a zero is = refl
length-rows n a (suc k) is =
    let left : n - (a + 1) ≡ k = omega (arith, is) in
    let row : length (over_greater n a) ≡ 3 * k = length-row a (a + 1) (n - (a + 1))
    ∙ ap (λ x. 3 * x) left in
    omega (
      arith,
      length-append (over_greater n a) (flat_map (over_greater n) (range_with_len (a + 1) k)),
      row,
      length-rows n (a + 1) k (omega (arith, is)),
    )

most_triples : triples 64 ≡ 6048
most_triples = refl

few_conjunctions : (n : ℕ) → n ≤ 64 → length (conjunctions n) ≤ 6112
few_conjunctions n few =
    let singles : length (flat_map over_one (range_with_len 0 n)) ≤ length (range_with_len 0 n) =
    length-pieces over_one (range_with_len 0 n) (λ x. omega arith) in
    let upto : n + (64 - n) ≡ 64 = omega (arith, few) in
    let most : triples n ≤ triples 64 = subst
    (λ k. triples n ≤ triples k) upto (triples_rise n (64 - n)) in
    omega (
      arith,
      few,
      length-append (flat_map over_one (range_with_len 0 n))
          (flat_map (over_greater n) (range_with_len 0 n)),
      singles,
      length-range_with_len 0 n,
      length-rows n 0 n (omega arith),
      most,
      most_triples,
    )

one_denial : (b : Bool) (c : List Literal) → length (if b then denying_clause c ∷ [] else []) ≤ 1
one_denial true c = omega arith
one_denial false c = omega arith

few_denials : (set : List Literal → Bool) (n : ℕ) → n ≤ 64 → length (denials set n) ≤ 6112
few_denials set n few =
    let pieces : length (denials set n) ≤ length (conjunctions n) =
    length-pieces (denial_in set) (conjunctions n) (λ c. one_denial (set c) c) in
    omega (arith, pieces, few_conjunctions n few)

-- each clause has at most two literals

denied_two : (n : ℕ) (c : List Literal) → is_short n c ≡ true → length (denying_clause c) ≤ 2
denied_two n [] short = absurd (cc (short))
denied_two n (l ∷ []) short = omega arith
denied_two n (l ∷ m ∷ []) short = omega arith
denied_two n (l ∷ m ∷ k ∷ c) short = absurd (cc (short))

one_two : (n : ℕ) (c : List Literal) (b : Bool) → (b ≡ true → is_short n c ≡ true)
    → All (λ x. length x ≤ 2) (if b then denying_clause c ∷ [] else [])
one_two n c false short = All-nil (λ x. length x ≤ 2)
one_two n c true short = All-cons (λ x. length x ≤ 2) (denying_clause c) []
    (denied_two n c (short refl)) (All-nil (λ x. length x ≤ 2))

denials_two : (n : ℕ) (set : List Literal → Bool)
    → ((c : List Literal) → set c ≡ true → is_short n c ≡ true)
    → (cs : List (List Literal)) → All (λ x. length x ≤ 2) (denials_of set cs)
denials_two n set short [] = All-nil (λ x. length x ≤ 2)
denials_two n set short (c ∷ cs) =
    All-append (λ x. length x ≤ 2) (denial_in set c) (denials_of set cs)
    (one_two n c (set c) (short c)) (denials_two n set short cs)

-- of three literals of such a clause two are the same

pair_of : {X : Type 0} (a b x : X) → Contains (a ∷ b ∷ []) x → (a ≡ x) ⊎ (b ≡ x)
pair_of a b x c =
    elim (cons_cases a (b ∷ []) x c) [
      | inl same ↦ inl same
      | inr there ↦ elim (cons_cases b [] x there)
          [ inl same ↦ inr same | inr none ↦ absurd (nothing_in x none) ]
    ]

same_two : {X : Type 0} (a b l k m : X) → (a ≡ l) ⊎ (b ≡ l) → (a ≡ k) ⊎ (b ≡ k) → (a ≡ m) ⊎ (b ≡ m)
    → (l ≡ k) ⊎ ((k ≡ m) ⊎ (l ≡ m))
same_two a b l k m (inl x) (inl y) z = inl (sym x ∙ y)
same_two a b l k m (inr x) (inr y) z = inl (sym x ∙ y)
same_two a b l k m (inl x) (inr y) (inl z) = inr (inr (sym x ∙ z))
same_two a b l k m (inl x) (inr y) (inr z) = inr (inl (sym y ∙ z))
same_two a b l k m (inr x) (inl y) (inl z) = inr (inl (sym y ∙ z))
same_two a b l k m (inr x) (inl y) (inr z) = inr (inr (sym x ∙ z))

two_clause : (clause : List Literal) → length clause ≤ 2 → IsTwoClause clause
two_clause [] few l k m cl ck cm = absurd (nothing_in l cl)
two_clause (a ∷ []) few l k m cl ck cm =
    elim (cons_cases a [] l cl) [
      | inl x ↦ elim (cons_cases a [] k ck)
          [ inl y ↦ inl (sym x ∙ y) | inr none ↦ absurd (nothing_in k none) ]
      | inr none ↦ absurd (nothing_in l none)
    ]
two_clause (a ∷ b ∷ []) few l k m cl ck cm = same_two a b l k m (pair_of a b l cl)
    (pair_of a b k ck) (pair_of a b m cm)
two_clause (a ∷ b ∷ c ∷ clause) few l k m cl ck cm = absurd (omega (arith, few))

-- the clauses of the greatest trap of a task of at most 64 atoms
pub record IsTrapFormula (task : Strips) (clauses : List (List Literal)) : Type 0 where
  pub few_atoms : atoms task ≤ 64
  pub few : length clauses ≤ 6112
  pub two : All (λ c. length c ≤ 2) clauses
  pub below : AreClauses (atoms task) clauses
  pub stays : (number : ℕ) → Stays task clauses number
  pub goalless : (state : List Bool) → is_goal task state ≡ true → in_clauses clauses state ≡ true

pub trap_few : (task : Strips) (clauses : List (List Literal)) → AreTrapClauses task clauses
    → atoms task ≤ 64 → length clauses ≤ 6112
trap_few task clauses trap few = omega (
  arith,
  ap length trap.2,
  few_denials trap.0 (atoms task)
      few,
)

pub trap_formula : (task : Strips) (clauses : List (List Literal)) → atoms task ≤ 64
    → AreTrapClauses task clauses → IsTrapFormula task clauses
trap_formula task clauses few trap =
    let has : Enclose task trap.0 clauses = trap_encloses task clauses trap in
    record {
      few_atoms = few;
      few = trap_few task clauses trap few;
      two = subst (All (λ c. length c ≤ 2)) (sym trap.2)
          (denials_two (atoms task) trap.0 (λ c is.
          (and_parts (is_short (atoms task) c) (denies_one task.goal c)
          (has.candidates c is)).0)
          (conjunctions (atoms task)));
      below = enclose_below task trap.0 clauses has;
      stays = trap_stays task clauses trap;
      goalless = trap_goalless task clauses trap;
    }

module _ (task : Strips) (clauses : List (List Literal)) (formula : IsTrapFormula task clauses)
  where
    pub formula_small : All IsSmall clauses
    formula_small = λ i d less. record {
      few = formula.two i d less;
      atoms = λ j l within. let below = formula.below i d less j l within in
          omega (arith, below, formula.few_atoms);
    }

    pub formula_fits : All (All FitsLiteral) clauses
    formula_fits = λ i d less j l within. let below = formula.below i d less j l within in
        omega (arith, below, formula.few_atoms)

    pub formula_two : All IsTwoClause clauses
    formula_two = λ i d less. two_clause (get_or clauses i d) (formula.two i d less)
