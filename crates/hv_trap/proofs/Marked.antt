-- Clauses that are marked as left, from one state to the next.
use Rattle.std.proofs.Common.{◌≡◌, ℕ, ◌<◌, ◌∙◌, ◌&&◌, Bool, true, false, cond, List, [], ◌∷◌}
use Rattle.std.proofs.Common.{length, get_or, replicate, refl, sym, ap, subst, inl, inr}
use Rattle.std.proofs.lemmas.Bool.{cases_Bool}
use Rattle.std.proofs.lemmas.List.{get_or-replicate, length-replicate}
use Rattle.std.specs.List.{filter}
use Rattle.hv_task.specs.Strips.{Strips}
use Rattle.hv_sets.specs.Truth.{in_clause}
use Rattle.hv_sets.specs.declared.literal.Literal.{Literal}
use Rattle.hv_trap.specs.Working.Marks.{AreMarkedLeft}
use Rattle.hv_trap.specs.Working.Trap.{EncloseTrap, Escapes}
use Rattle.hv_trap.proofs.Enclosing.{visit_encloses}

filter_all : {X : Type 0} (xs : List X) → filter (λ _. true) xs ≡ xs
filter_all [] = refl
filter_all (x ∷ xs) = ap (λ rest. x ∷ rest) (filter_all xs)

filter_twice : {X : Type 0} (p q : X → Bool) (xs : List X)
    → filter (λ x. p x && q x) xs ≡ filter q (filter p xs)
filter_twice p q [] = refl
filter_twice p q (x ∷ xs) =
    elim (cases_Bool (p x)) [
      | inl is ↦ rw is (ap (λ rest. cond (q x) (x ∷ rest) rest) (filter_twice p q xs))
      | inr fails ↦ rw fails (filter_twice p q xs)
    ]

-- all are left at first
pub left_at_first : (task : Strips) (clauses : List (List Literal)) (left : List Bool)
    → left ≡ replicate (length clauses) true → EncloseTrap task clauses → AreMarkedLeft task clauses left
left_at_first task clauses left is has = record {
  stays = λ _. true;
  count = ap length is ∙ length-replicate (length clauses) true;
  marks = λ k less. ap (λ m. get_or m k false) is
      ∙ get_or-replicate (length clauses) k true false less;
  enclose = subst (EncloseTrap task) (sym (filter_all clauses)) has;
}

-- fewer, by a state from which an action leads to one in which all clauses are true
pub left_more : (task : Strips) (clauses : List (List Literal)) (number : ℕ) (state : List Bool)
    (old new : List Bool) → number < length task.actions → EncloseTrap task clauses
    → Escapes task clauses number state → AreMarkedLeft task clauses old → length new ≡ length clauses
    → ((k : ℕ) → k < length clauses
    → get_or new k false ≡ (get_or old k false && in_clause (get_or clauses k []) state))
    → AreMarkedLeft task clauses new
left_more task clauses number state old new within outer escape was size marked = record {
  stays = λ c. was.stays c && in_clause c state;
  count = size;
  marks = λ k less. marked k less
      ∙ ap (λ b. b && in_clause (get_or clauses k []) state) (was.marks k less);
  enclose = visit_encloses task clauses (filter was.stays clauses)
      (filter (λ c. was.stays c && in_clause c state) clauses) number state state refl
      (filter_twice was.stays (λ c. in_clause c state) clauses) within outer was.enclose escape;
}
