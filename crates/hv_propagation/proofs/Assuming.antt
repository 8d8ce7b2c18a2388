-- What is known after one literal more, and once it is taken back.
use Rattle.std.proofs.Common.{◌≡◌, ◌∙◌, ◌<◌, ◌++◌, [], ◌∷◌, ℕ, None, length, take, sym, ap, subst}
use Rattle.hv_sets.specs.declared.literal.Literal.{Literal}
use Rattle.hv_propagation.specs.Marks.{known}
use Rattle.hv_propagation.specs.Trail.{Grows, Knowledge, marks_of}
use Rattle.hv_propagation.proofs.Chasing.{grown_more, marked_more, undone_same}
use Rattle.hv_propagation.proofs.Steps.{IsMarked}

module _ (k new : Knowledge) (l : Literal)
    (is : new ≡ record { roots = k.roots; trail = k.trail ++ l ∷ [] })
    (less : l.atom < length k.roots) where
  pub marked_by : IsMarked l (marks_of k) (marks_of new)
  marked_by = subst (λ (n : Knowledge). IsMarked l (marks_of k) (marks_of n)) (sym is)
      (marked_more k l less)

  pub grown_by_one : known (marks_of k) l.atom ≡ None → Grows k new
  grown_by_one none = subst (λ (n : Knowledge). Grows k n) (sym is) (grown_more k l less none)

-- what was known before is known again
pub taken_back : (point : ℕ) (k mid last : Knowledge) → point ≡ length k.trail → Grows k mid
    → last ≡ record { roots = mid.roots; trail = take point mid.trail } → last ≡ k
taken_back point k mid last at grown is =
    undone_same k mid last grown (is ∙ ap (λ n. let z : Knowledge = record
    { roots = mid.roots; trail = take n mid.trail } in z) at)
