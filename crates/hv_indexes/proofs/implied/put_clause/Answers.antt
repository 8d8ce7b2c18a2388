use Rattle.std.proofs.Common.{◌≡◌, ℕ, inl, inr}
use Rattle.hv_sets.specs.Cubes.{opposite}
use Rattle.hv_indexes.specs.Implied.{literal_number}
use Rattle.hv_indexes.specs.Working.Implied.{IsImpliedCode}
use Rattle.hv_indexes.specs.Rows.{code}
use Rattle.hv_indexes.proofs.Implying.{none_codes, pair_codes}
use Rattle.hv_indexes.proofs.Gathered.{puts_both}
use Rattle.hv_indexes.proofs.implied.put_clause.Goals as goal

pub returns-in-None : goal.returns-in-None
returns-in-None c = λ x. (
  λ old. inl old,
  λ either. elim either [
    | inl old ↦ old
    | inr is ↦ absurd (none_codes c.args.clause.now c.in-None.ensures x is)
  ],
)

pub returns-in_ok-put-in-Some-2 : goal.returns-in_ok-put-in-Some-2
returns-in_ok-put-in-Some-2 c =
    let a = c.in-Some.first in
    let b = c.in-Some.second in
    puts_both (λ (x : ℕ). x ≡ code (literal_number (opposite a)) (literal_number b))
    (λ (x : ℕ). x ≡ code (literal_number (opposite b)) (literal_number a))
    (IsImpliedCode c.args.clause.now)
    c.args.codes.now.items c.put.new.codes.items c.put-in-Some.new.codes.items
    c.in_ok-put-in-Some.ensures
    c.in_ok-put-in-Some-2.ensures
    (pair_codes c.args.clause.now a b c.in-Some.ensures)
