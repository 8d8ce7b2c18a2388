-- What the nodes of the operands say of a state.
use Rattle.std.specs.Prelude.{◌≡◌, ◌<◌, ◌+◌, ◌-◌, ◌&&◌, ◌||◌, ℕ, zero, suc, Bool, true, List, []}
use Rattle.std.specs.Prelude.{◌∷◌, Option, cond, length, nat_eq, nat_lt, not, ⊤}
use Rattle.std.proofs.Math.Bool.{beq}
use Rattle.hv_task.specs.State.{has_atom}
use Rattle.hv_sets.specs.declared.finding.Finding.{Finding}
use Rattle.hv_sets.specs.declared.finding.Finding.TheVariants as F
use Rattle.hv_sets.specs.declared.operand.Which.{Which}
use Rattle.hv_sets.specs.declared.operand.Which.TheVariants as W
use Rattle.hv_bdd.specs.declared.asked.Asked.{Asked}
use Rattle.hv_bdd.specs.Nodes.{in_node, node_count}
use Rattle.hv_bdd.specs.Order.{atom_at}
use Rattle.hv_bdd.specs.Live.{TupleSetting, asks_goal, moves, bit_or, roots, start_bit}
use Rattle.hv_bdd.specs.Tuples.{Moves, TuplesPass}

-- In a chain over so many places with these atoms, some places are asked for, each with the
-- bit that is wanted there.
module _ (n : ℕ) (atom_at : ℕ → ℕ) (asks bits : ℕ → Bool) where
  -- the state has the wanted bit at each place that is asked for, of so many from one on
  abbrev pub matches : List Bool → ℕ → ℕ → Bool
  matches s zero v = true
  matches s (suc more) v =
      (not (asks v) || beq (has_atom s (atom_at v)) (bits v)) && matches s more (v + 1)

  -- the state is in a node of the chain
  abbrev pub in_chain : List Bool → ℕ → Bool
  in_chain s i = cond (nat_lt i 2) (nat_eq i 1)
      (beq (has_atom s (atom_at (i - 2))) (bits (i - 2)) && matches s (n - (i - 1)) (i - 1))

-- the state with the marked bits
abbrev pub with_marks : List (Option Bool) → List Bool → List Bool
with_marks marks [] = []
with_marks [] (bit ∷ bits) = bit ∷ bits
with_marks (mark ∷ marks) (bit ∷ bits) = bit_or mark bit ∷ with_marks marks bits

module _ (S : TupleSetting) where
  -- how many nodes the graph of an operand has
  abbrev pub limit : Which → ℕ
  limit W.Empty = 2
  limit W.Start = S.list.atoms + 2
  limit W.Goal = S.list.atoms + 2
  limit (W.Set number) = node_count S.list

  -- the state is in a node of an operand
  abbrev pub in_graph : Which → List Bool → ℕ → Bool
  in_graph W.Empty s i = nat_eq i 1
  in_graph W.Start s i = in_chain S.list.atoms (atom_at S.list) (λ v. true) (start_bit S) s i
  in_graph W.Goal s i = in_chain S.list.atoms (atom_at S.list) (asks_goal S) (λ v. true) s i
  in_graph (W.Set number) s i = in_node S.list i s

  -- the same, where the operand may be asked about the state after the action
  abbrev pub in_asked : Asked → List Bool → ℕ → Bool
  in_asked o s i = in_graph o.which (cond o.after (with_marks S.changed s) s) i

module _ {O : Type 0} (limit : O → ℕ) where
  -- the tuple has a node of each operand
  abbrev pub AreNodes : List O → List ℕ → Type 0
  AreNodes [] [] = ⊤
  AreNodes [] (i ∷ nodes) = ⊥
  AreNodes (o ∷ os) [] = ⊥
  AreNodes (o ∷ os) (i ∷ nodes) = (i < limit o) × AreNodes os nodes

module _ {O : Type 0} (truth : O → List Bool → ℕ → Bool) (wants : O → Bool) where
  -- the state is in the nodes of the positive operands, and in none of the negative ones
  abbrev pub AgreesWithNodes : List Bool → List O → List ℕ → Type 0
  AgreesWithNodes s [] nodes = ⊤
  AgreesWithNodes s (o ∷ os) [] = ⊤
  AgreesWithNodes s (o ∷ os) (i ∷ nodes) = (truth o s i ≡ wants o) × AgreesWithNodes s os nodes

-- the state is one of the task and has the bits that are needed
abbrev pub FitsBits : {O : Type 0} → Moves O → List Bool → Type 0
FitsBits m s =
    (length s ≡ m.atoms) × ((v : ℕ) → v < m.atoms → m.allows v (has_atom s (m.atom_at v)) ≡ true)

-- the state has the bits that are needed, and is in each positive operand and in no negative one
abbrev pub Suits : TupleSetting → List Asked → List Bool → Type 0
Suits S os s = FitsBits (moves S) s
    × AgreesWithNodes (in_asked S) (λ o. o.positive) s os (roots S os)

-- the exact answer of a search through live tuples
abbrev pub IsLiveAnswer : Finding → TupleSetting → List Asked → ℕ → List Bool → Type 0
IsLiveAnswer F.Over S os budget found = TuplesPass (moves S) os (roots S os) budget
IsLiveAnswer F.Clash S os budget found =
    (TuplesPass (moves S) os (roots S os) budget → ⊥) × Suits S os found
IsLiveAnswer F.Empty S os budget found =
    (TuplesPass (moves S) os (roots S os) budget → ⊥) × ((s : List Bool) → Suits S os s → ⊥)
