-- Tuples place by place, and as lists side by side.
use Rattle.std.proofs.Common.{◌≡◌, ℕ, zero, suc, ◌<◌, Bool, true, List, [], ◌∷◌, length, get_or, Some}
use Rattle.std.proofs.Common.{refl, sym, ap, arith, subst}
use Rattle.std.specs.List.{All}
use Rattle.std.proofs.lemmas.List.Elements.{All-head, All-tail}
use Rattle.hv_sets.specs.declared.operand.Which.{Which}
use Rattle.hv_sets.specs.declared.operand.Which.TheVariants as W
use Rattle.hv_bdd.specs.declared.asked.Asked.{Asked}
use Rattle.hv_bdd.specs.Working.Graphs.{AreNodes, in_asked, limit}
use Rattle.hv_bdd.specs.Live.{asks_goal, moves, root, roots}
use Rattle.hv_bdd.specs.Working.Search.{IsAskable, IsTupleSearch, IsTuple, TupleSearch}
use Rattle.hv_bdd.specs.Tuples.{IsReached, is_live, least, next}
use Rattle.hv_bdd.proofs.Chained.{first_within}
use Rattle.hv_bdd.proofs.Graphs.{is_true_to}
use Rattle.hv_bdd.proofs.Moved.{IsTrueTo, next_is, reached_nodes, rises}
use Rattle.hv_bdd.specs.Order.{atom_at}

-- so many nodes, each of its operand
nodes_from : (lim : Asked → ℕ) (os : List Asked) (ts : List ℕ) → length ts ≡ length os
    → ((k : ℕ) (o : Asked) → k < length ts → get_or ts k 0 < lim (get_or os k o))
    → AreNodes lim os ts
nodes_from lim [] [] size each = tt
nodes_from lim [] (i ∷ ts) size each = absurd (omega arith)
nodes_from lim (o ∷ os) [] size each = absurd (omega arith)
nodes_from lim (o ∷ os) (i ∷ ts) size each = (
  each 0 o (omega arith),
  nodes_from lim os ts (omega arith)
      (λ k p less. each (suc k) p (omega arith)),
)

size_from : (lim : Asked → ℕ) (os : List Asked) (ts : List ℕ) → AreNodes lim os ts
    → length ts ≡ length os
size_from lim [] [] are = refl
size_from lim [] (i ∷ ts) are = absurd are
size_from lim (o ∷ os) [] are = absurd are
size_from lim (o ∷ os) (i ∷ ts) are = ap suc (size_from lim os ts are.1)

each_from : (lim : Asked → ℕ) (os : List Asked) (ts : List ℕ) → AreNodes lim os ts
    → (k : ℕ) (o : Asked) → k < length ts
    → get_or ts k 0 < lim (get_or os k o)
each_from lim [] [] are k p less = absurd (omega arith)
each_from lim [] (i ∷ ts) are k p less = absurd are
each_from lim (o ∷ os) [] are k p less = absurd are
each_from lim (o ∷ os) (i ∷ ts) are zero p less = are.0
each_from lim (o ∷ os) (i ∷ ts) are (suc k) p less = each_from lim os ts are.1 k p (omega arith)

module _ (s : TupleSearch) where
  abbrev pub lim : Asked → ℕ
  lim o = limit s.setting o.which

  pub nodes_of : (ts : List ℕ) → IsTuple s ts → AreNodes lim s.asked ts
  nodes_of ts t = nodes_from lim s.asked ts t.size t.each

  pub tuple_of : (ts : List ℕ) → AreNodes lim s.asked ts → IsTuple s ts
  tuple_of ts are = record {
    size = size_from lim s.asked ts are;
    each = each_from lim
        s.asked ts are;
  }

  module _ (search : IsTupleSearch s) where
    pub truths : IsTrueTo Asked (moves s.setting) lim (in_asked s.setting)
    truths = is_true_to s.setting search.reduced

    -- a move leads to a tuple that asks for a later place
    pub next_rises : (ts u : List ℕ) (b : Bool) → IsTuple s ts
        → next (moves s.setting) s.asked ts b ≡ Some u
        → least (moves s.setting) s.asked ts < least (moves s.setting) s.asked u
    next_rises ts u b t e =
        let says = next_is (moves s.setting) lim (in_asked s.setting) truths s.asked ts u b e in
        subst (λ x. least (moves s.setting) s.asked ts < least (moves s.setting) s.asked x) says.3
        (rises (moves s.setting) lim (in_asked s.setting) truths
        (least (moves s.setting) s.asked ts) b s.asked ts says.0 (nodes_of ts t) (omega arith))

    -- the roots are nodes
    root_within : (w : Which) → IsAskable s.setting w → root s.setting w < limit s.setting w
    root_within W.Empty a = omega arith
    root_within W.Start a =
        first_within s.setting.list.atoms (atom_at s.setting.list) (λ v. true)
        (λ v. true) s.setting.list.atoms 0 (omega arith)
    root_within W.Goal a =
        first_within s.setting.list.atoms (atom_at s.setting.list) (asks_goal s.setting)
        (λ v. true) s.setting.list.atoms 0 (omega arith)
    root_within (W.Set number) a = a

    roots_by : (os : List Asked) → All (λ (o : Asked). IsAskable s.setting o.which) os
        → AreNodes lim os (roots s.setting os)
    roots_by [] all = tt
    roots_by (o ∷ os) all = (
      root_within o.which (All-head (λ (o : Asked). IsAskable s.setting o.which) o os all),
      roots_by os
          (All-tail (λ (o : Asked). IsAskable s.setting o.which) o os all),
    )

    pub roots_nodes : AreNodes lim s.asked (roots s.setting s.asked)
    roots_nodes = roots_by s.asked search.asked

    pub roots_tuple : (ts : List ℕ) → ts ≡ roots s.setting s.asked → IsTuple s ts
    roots_tuple ts is = subst (IsTuple s) (sym is)
        (tuple_of (roots s.setting s.asked) roots_nodes)

    -- what is reached is a tuple, and live
    pub reached_tuple : (ts : List ℕ) → IsReached (moves s.setting) s.asked
        (roots s.setting s.asked) ts → IsTuple s ts
    reached_tuple ts reached =
        tuple_of ts (reached_nodes (moves s.setting) lim (in_asked s.setting) truths s.asked
        (roots s.setting s.asked) ts roots_nodes reached).0

    pub reached_live : (ts : List ℕ) → IsReached (moves s.setting) s.asked
        (roots s.setting s.asked) ts
        → is_live (moves s.setting) s.asked ts ≡ true
    reached_live ts reached =
        (reached_nodes (moves s.setting) lim (in_asked s.setting) truths s.asked
        (roots s.setting s.asked) ts roots_nodes reached).1
