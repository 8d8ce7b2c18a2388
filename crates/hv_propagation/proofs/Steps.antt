-- Single steps: what a literal that is forced and what a clause that was looked through make of the
-- marks.
use Rattle.std.proofs.Common.{◌≡◌, ℕ, ◌<◌, ◌∙◌, Bool, true, false, not, List, length, get_or, None}
use Rattle.std.proofs.Common.{Some, refl, sym, ap, arith}
use Rattle.std.proofs.lemmas.Bool.{false_from_ne_true}
use Rattle.std.proofs.lemmas.List.Folds.{list_any_at}
use Rattle.std.specs.List.{All}
use Rattle.hv_sets.specs.declared.literal.Literal.{Literal}
use Rattle.hv_sets.specs.Cubes.{opposite}
use Rattle.hv_sets.specs.Truth.{in_clause, in_literal}
use Rattle.hv_propagation.specs.Marks.{known, over, Agrees, KeepsKnown}
use Rattle.hv_propagation.specs.Units.{value_of, IsConcluded}
use Rattle.hv_propagation.proofs.Holding.{opposite_is}
use Rattle.hv_propagation.proofs.Marked.{agrees_write, extends_same, extends_write}
use Rattle.hv_propagation.proofs.Marked.{has_atom-literal, value_false, value_from_opposite}
use Rattle.hv_propagation.proofs.Marked.{value_none, value_open}
use Rattle.hv_propagation.specs.Working.Laws.{value_marked}
use Rattle.hv_propagation.proofs.Rounds.{conclude_same, never}

-- one mark more, at the atom of a literal
pub record IsMarked (literal : Literal) (old new : List ℕ) : Type 0 where
  pub size : length new ≡ length old
  pub here : known new literal.atom ≡ Some literal.positive
  pub others : (p : ℕ) → (p ≡ literal.atom → ⊥) → known new p ≡ known old p

module _ (e m : List ℕ) (l : Literal) where
  -- a literal that is known to be true or false
  pub force_known : (v : Bool) → l.atom < length m → value_of e m l ≡ Some v
      → IsConcluded (λ s. in_literal l (over e s) ≡ true) (λ k. value_of e k l ≡ Some true) m m v
  force_known v within h = record {
    size = refl;
    grows = extends_same m;
    follows = λ state size holds agrees. agrees;
    broken = λ is state size holds agrees.
        never (sym holds ∙ value_false e m l state (h ∙ ap Some is) agrees (omega (arith, size)));
    done = λ is. h ∙ ap Some is;
  }

  module _ (k : List ℕ) (nothing : value_of e m l ≡ None) (marks : IsMarked l m k) where
    -- what follows where the literal is true
    pub follows_write : l.atom < length m → (state : List Bool) → length state ≡ length m
        → in_literal l (over e state) ≡ true
        → Agrees m state → Agrees k state
    follows_write within state size holds agrees =
        agrees_write m k l.atom l.positive state marks.here marks.others
        (has_atom-literal l state (sym (value_open e m l state nothing (omega (arith, size)))
        ∙ holds)) agrees

    pub grows_write : KeepsKnown m k
    grows_write = extends_write m k l.atom (value_none e m l nothing).1 marks.others

    -- a literal of which nothing is known
    pub force_open : l.atom < length m
        → IsConcluded (λ s. in_literal l (over e s) ≡ true)
        (λ n. value_of e n l ≡ Some true) m k true
    force_open within = record {
      size = marks.size;
      grows = grows_write;
      follows = follows_write within;
      broken = λ is. never is;
      done = λ is. value_marked e k l (value_none e m l nothing).0 marks.here;
    }

-- where a clause is false each literal is
pub all_false : (clause : List Literal) (state : List Bool) → in_clause clause state ≡ false
    → All (λ l. in_literal l state ≡ false) clause
all_false clause state h = λ k d less.
    false_from_ne_true (in_literal (get_or clause k d) state)
    (λ is. never (sym (list_any_at (λ l. in_literal l state) clause k d less is) ∙ h))

-- a literal is made false by its opposite
pub deny_one : (e : List ℕ) (l : Literal) (m k : List ℕ) (r : Bool)
    → IsConcluded (λ s. in_literal (opposite l) (over e s) ≡ true)
    (λ n. value_of e n (opposite l) ≡ Some true) m k r
    → IsConcluded (λ s. in_literal l (over e s) ≡ false) (λ n. value_of e n l ≡ Some false) m k r
deny_one e l m k r one =
    conclude_same (λ s. in_literal (opposite l) (over e s) ≡ true)
    (λ s. in_literal l (over e s) ≡ false)
    (λ n. value_of e n (opposite l) ≡ Some true) (λ n. value_of e n l ≡ Some false) m k r
    (λ s size holds. opposite_is l (over e s) ∙ ap not holds)
    (λ n size h. value_from_opposite e n l true h) one
