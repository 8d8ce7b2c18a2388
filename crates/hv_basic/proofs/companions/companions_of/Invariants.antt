use Rattle.std.proofs.Common.{◌≡◌, ◌<◌, ℕ, [], List, false, get_or, length}
use Rattle.std.specs.List.{Contains}
use Rattle.hv_sets.specs.declared.literal.Literal.{Literal}
use Rattle.hv_basic.specs.Working.Excluded.{HaveStrangers, AreSquare, IsOfTwo, goes_with}
use Rattle.hv_basic.proofs.companions.companions_of.Given as goal

abbrev pub invariant-loop-place : goal.invariant-loop-place
invariant-loop-place l = record {
  size : length l.rows.items ≡ l.atoms;
  square : AreSquare l.rows.items;
  apart : (i : ℕ) → i < l.place → HaveStrangers l.rows.items (get_or l.clauses i []);
  only : (p q : ℕ) → p < l.atoms → q < l.atoms → goes_with l.rows.items p q ≡ false
      → (clause : List Literal) × Contains l.clauses clause × IsOfTwo clause p q;
}
