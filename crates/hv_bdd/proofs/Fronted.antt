-- What stays of the literals of a path where its stack turns.
use Rattle.std.proofs.Common.{◌≡◌, ℕ, zero, suc, ◌<◌, ◌≤◌, ◌+◌, ◌-◌, ◌∙◌, Bool, true, false, not}
use Rattle.std.proofs.Common.{List, [], ◌∷◌, ◌++◌, get_or, length, take, refl, sym, ap, arith, inl}
use Rattle.std.proofs.Common.{inr, subst}
use Rattle.std.proofs.lemmas.Bool.{cases_lt}
use Rattle.std.proofs.lemmas.List.{length-take, take-append-le}
use Rattle.std.proofs.lemmas.List.Elements.{All-nil}
use Rattle.std.proofs.Math.Bool.{beq}
use Rattle.hv_sets.specs.Cubes.{SpeakBelow}
use Rattle.hv_sets.specs.Walks.{IsNew, in_cubes}
use Rattle.hv_sets.specs.declared.cursor.Cursor.{Cursor}
use Rattle.hv_sets.specs.declared.literal.Literal.{Literal}
use Rattle.hv_paths.specs.Along.{KeepsFront}
use Rattle.hv_bdd.specs.declared.set.DiagramSet.{DiagramSet}
use Rattle.hv_bdd.specs.Nodes.{IsNode, NodeList, in_node}
use Rattle.hv_bdd.specs.Paths.{is_high, paths}
use Rattle.hv_bdd.specs.Working.Paths.{literals_of}
use Rattle.hv_bdd.specs.Reduced.{IsReduced, node_at}
use Rattle.hv_bdd.specs.Working.Turning.{StandsWith, TurnsTo}
use Rattle.hv_bdd.specs.Working.Laws.{in_paths, stands_first}
use Rattle.hv_bdd.proofs.Stacked.{literals_few}

-- the lesser of two prefixes
pub take_take : {A : Type 0} (i j : ℕ) (xs : List A) → i ≤ j → take i (take j xs) ≡ take i xs
take_take zero j xs h = refl
take_take (suc i) zero xs h = absurd (omega (arith, h))
take_take (suc i) (suc j) [] h = refl
take_take (suc i) (suc j) (x ∷ xs) h = ap (λ ys. x ∷ ys) (take_take i j xs (omega (arith, h)))

module _ (list : NodeList) where
  pub length_literals : (stack : List ℕ) → length (literals_of list stack) ≡ length stack - 1
  unfolding literals_of
  length_literals [] = refl
  length_literals (n ∷ []) = refl
  length_literals (n ∷ m ∷ more) = let e = length_literals (m ∷ more) in omega arith

  -- the literals of the first nodes are the first literals
  literals_take : (k : ℕ) (stack : List ℕ)
      → take k (literals_of list stack) ≡ literals_of list (take (suc k) stack)
  unfolding literals_of
  literals_take zero [] = refl
  literals_take (suc k) [] = refl
  literals_take zero (n ∷ []) = refl
  literals_take (suc k) (n ∷ []) = refl
  literals_take zero (n ∷ m ∷ more) = refl
  literals_take (suc k) (n ∷ m ∷ more) =
      ap (λ ls. record { atom = (node_at list n).atom; positive = is_high list n m } ∷ ls)
      (literals_take k (m ∷ more))

  literal_next : (stack : List ℕ) (k : ℕ) (d : Literal) → suc k < length stack
      → get_or (literals_of list stack) k d
      ≡ record {
        atom = (node_at list (get_or stack k 0)).atom;
        positive = is_high list (get_or stack k 0) (get_or stack (suc k) 0);
      }
  unfolding literals_of
  literal_next [] k d less = absurd (omega (arith, less))
  literal_next (n ∷ []) k d less = absurd (omega (arith, less))
  literal_next (n ∷ m ∷ more) zero d less = refl
  literal_next (n ∷ m ∷ more) (suc k) d less = literal_next (m ∷ more) k d (omega (arith, less))

  -- the literal at a place
  pub literal_at : (stack : List ℕ) (k : ℕ) (d : Literal) → k + 1 < length stack
      → get_or (literals_of list stack) k d
      ≡ record {
        atom = (node_at list (get_or stack k 0)).atom;
        positive = is_high list (get_or stack k 0) (get_or stack (k + 1) 0);
      }
  literal_at stack k d less =
      subst (λ j. get_or (literals_of list stack) k d
      ≡ record {
        atom = (node_at list (get_or stack k 0)).atom;
        positive = is_high list (get_or stack k 0) (get_or stack j 0);
      })
      (let f : suc k ≡ k + 1 = omega arith in f)
      (literal_next stack k d (omega (arith, less)))

  -- a stack that turned and went down keeps the literals before its turn
  pub keeps_front : (old turned new : List ℕ) (kept : ℕ) → TurnsTo old turned
      → take (length turned) new ≡ turned → kept ≡ length turned - 2
      → KeepsFront kept (literals_of list old) (literals_of list new)
  keeps_front old turned new kept t down is =
      let few = length_literals old in
      let many = length_literals new in
      let size = ap length down ∙ refl in
      let long = length-take (length turned) new in
      let some = t.some in
      let upto = t.upto in
      record {
        old_room = omega arith;
        new_room = omega arith;
        same = elim (cases_lt kept 1) [
          | inl none ↦
              subst (λ k. take k (literals_of list new) ≡ take k (literals_of list old))
              (let f : 0 ≡ kept = omega arith in f) refl
          | inr more ↦
              let at : length turned - 1 ≡ suc kept = omega arith in
              literals_take kept new
              ∙ (ap (literals_of list)
              (sym (take_take (suc kept) (length turned) new (omega arith))
              ∙ (ap (take (suc kept)) down
              ∙ subst (λ n. take n turned ≡ take n old) at t.same))
              ∙ sym (literals_take kept old))
        ];
      }

-- further nodes behind leave the first ones
pub front_push : (front stack new : List ℕ) (node : ℕ) → take (length front) stack ≡ front
    → new ≡ stack ++ node ∷ [] → take (length front) new ≡ front
front_push front stack new node is e =
    let size = ap length is in
    let long = length-take (length front) stack in
    ap (take (length front)) e
    ∙ (take-append-le (length front) stack (node ∷ []) (omega arith) ∙ is)

-- the walk before its first step
pub first_walk : (list : NodeList) (node end : ℕ) (cursor : Cursor) (literals : List Literal)
    → IsNode list node → end < 2 → IsNew cursor → literals ≡ []
    → StandsWith list node end cursor literals
first_walk list node end cursor literals within less new none = record {
  from = within;
  to = less;
  walk = stands_first list end cursor new;
  path = none
      ∙ sym (ap (literals_of list) new.1 ∙ literals_few list [] (omega arith));
  below = subst (SpeakBelow list.atoms) (sym none) (All-nil (λ (l : Literal). l.atom < list.atoms));
}

-- the paths as cubes are the set or its complement
pub inside_paths : (list : NodeList) (node : ℕ) → IsReduced list → IsNode list node
    → (s : List Bool) → in_cubes (paths list 1 node) s ≡ in_node list node s
inside_paths list node reduced within s = in_paths list 1 reduced (omega arith) s node within
    ∙ beq_true (in_node list node s)
  where
    beq_true : (b : Bool) → beq b true ≡ b
    beq_true true = refl
    beq_true false = refl

-- and so of a set, whose list is reduced
pub inside_set : (set : DiagramSet) (s : List Bool)
    → in_cubes (paths set.nodes.now 1 set.node) s ≡ in_node set.nodes.now set.node s
inside_set set s = inside_paths set.nodes.now set.node set.reduced set.within s

pub outside_paths : (list : NodeList) (node : ℕ) → IsReduced list → IsNode list node
    → (s : List Bool) → in_cubes (paths list 0 node) s ≡ not (in_node list node s)
outside_paths list node reduced within s = in_paths list 0 reduced (omega arith) s node within
    ∙ beq_false (in_node list node s)
  where
    beq_false : (b : Bool) → beq b false ≡ not b
    beq_false true = refl
    beq_false false = refl

pub outside_set : (set : DiagramSet) (s : List Bool)
    → in_cubes (paths set.nodes.now 0 set.node) s ≡ not (in_node set.nodes.now set.node s)
outside_set set s = outside_paths set.nodes.now set.node set.reduced set.within s
