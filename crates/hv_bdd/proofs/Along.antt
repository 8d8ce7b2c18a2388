-- Fronts after each of some literals.
use Rattle.std.proofs.Common.{◌≡◌, ℕ, ◌<◌, ◌≤◌, ◌+◌, ◌∙◌, ◌++◌, Bool, true}
use Rattle.std.proofs.Common.{List, [], ◌∷◌, length, get_or, take, refl, sym, ap, arith, inl}
use Rattle.std.proofs.Common.{inr, subst, suc}
use Rattle.std.proofs.Math.Seq.{take-suc}
use Rattle.std.proofs.lemmas.Bool.{and_parts, cases_order, false_from_ne_true}
use Rattle.std.proofs.lemmas.List.{length_push, take-append-le, take_all}
use Rattle.std.specs.Global.{Vec}
use Rattle.hv_sets.specs.declared.literal.Literal.{Literal}
use Rattle.hv_sets.specs.Cubes.{SpeakBelow}
use Rattle.hv_sets.specs.Truth.{in_cube, in_literal}
use Rattle.hv_sets.proofs.Truths.{in_push}
use Rattle.hv_paths.specs.Along.{IsBarren}
use Rattle.hv_bdd.specs.Nodes.{IsNode, NodeList, in_node}
use Rattle.hv_bdd.specs.declared.level.Level.{Level}
use Rattle.hv_bdd.specs.Exclusions.{AreExclusions}
use Rattle.hv_bdd.specs.Fronts.{AreBelowBound, AreFronts, HoldCube, IsLevel, StandsAlong}
use Rattle.hv_bdd.specs.Working.Fronts.{GoesDeeper, IsMetNowhere, IsNextLevel, MovesTo, Turns}

none_below : (bound : ℕ) → AreBelowBound bound []
none_below bound k less = absurd (omega (arith, less))

module _ (list : NodeList) (inside : Bool) (node : ℕ) where
  moved_front : (cube : List Literal) (old new : List ℕ) → MovesTo list inside old new
      → HoldCube list inside node cube old → HoldCube list inside node cube new
  moved_front cube old new moves front s in_it is =
      let w = front s in_it is in moves s (w.0) (w.1) (w.2)

  turned_front : (cube : List Literal) (l : Literal) (old new : List ℕ)
      → Turns list inside l old new
      → HoldCube list inside node cube old → HoldCube list inside node (cube ++ l ∷ []) new
  turned_front cube l old new turns front s in_it is =
      let parts = and_parts (in_cube cube s) (in_literal l s) (sym (in_push cube l s) ∙ in_it) in
      let w = front s (parts.0) is in turns s (w.0) (parts.1) (w.1) (w.2)

  -- where the cube meets no node, no state that is looked for is in it
  pub none_wanted : (atoms : ℕ) (wanted : List Bool → Bool) (cube : List Literal)
      → ((s : List Bool) → wanted s ≡ true → in_node list node s ≡ inside)
      → IsMetNowhere list inside node cube → IsBarren atoms wanted cube
  none_wanted atoms wanted cube side none s of h =
      false_from_ne_true (wanted s) (λ want. none s h (side s want))

  -- the level is moved, and has a next one
  level_moved : (cube : List Literal) (l : Literal) (old new next : Level)
      → IsLevel list inside node cube old
      → IsNextLevel list inside (node + 1) l old new next
      → IsLevel list inside node cube new
  level_moved cube l old new next is step = record {
    start_below = subst (λ xs. AreBelowBound (node + 1) xs) (sym step.same) is.start_below;
    moved_below = step.moved_below;
    start = subst (λ xs. HoldCube list inside node cube xs) (sym step.same) is.start;
    moved = λ _. elim step.moved [
      | inl m ↦ moved_front cube old.start.items new.moved.items m is.start
      | inr m ↦ moved_front cube old.moved.items new.moved.items (m.1) (is.moved (m.0))
    ];
  }

  level_next : (cube : List Literal) (l : Literal) (old new next : Level)
      → IsLevel list inside node cube old
      → IsNextLevel list inside (node + 1) l old new next
      → IsLevel list inside node (cube ++ l ∷ []) next
  level_next cube l old new next is step = record {
    start_below = step.next_below;
    moved_below = subst (λ xs. AreBelowBound (node + 1) xs) (sym step.unready)
        (none_below (node + 1));
    start = turned_front cube l new.moved.items next.start.items step.turns (elim step.moved [
      | inl m ↦ moved_front cube old.start.items new.moved.items m is.start
      | inr m ↦ moved_front cube old.moved.items new.moved.items (m.1) (is.moved (m.0))
    ]);
    moved = λ e. absurd (step.next_unready e);
  }

  -- there is one more level
  pub fronts_more : (ls : List Literal) (l : Literal) (place : ℕ) (levels levels' : List Level)
      → place < length ls → get_or ls place l ≡ l → AreFronts list inside node ls place levels
      → GoesDeeper list inside (node + 1) l place levels levels'
      → AreFronts list inside node ls (place + 1) levels'
  fronts_more ls l place levels levels' less at is deeper = record {
    within = is.within;
    few = omega (arith, less);
    sizes = deeper.size;
    each = each;
  }
    where
      here : (d : Level) → IsLevel list inside node (take place ls) (get_or levels place d)
      here d = is.each place d (omega arith)

      more : take place ls ++ l ∷ [] ≡ take (place + 1) ls
      more =
          let e : suc place ≡ place + 1 = omega arith in
          ap (λ x. take place ls ++ x ∷ []) (sym at)
          ∙ (sym (take-suc ls place l less) ∙ ap (λ n. take n ls) e)

      each : (i : ℕ) (d : Level) → i ≤ place + 1
          → IsLevel list inside node (take i ls) (get_or levels' i d)
      each i d upto = elim (cases_order i place) [
        | inl same ↦
            subst (λ j. IsLevel list inside node (take j ls) (get_or levels' j d)) (sym same)
            (level_moved (take place ls) l (get_or levels place d) (get_or levels' place d)
            (get_or levels' (place + 1) d) (here d) (deeper.next d))
        | inr (inl early) ↦
            subst (λ x. IsLevel list inside node (take i ls) x)
            (sym (deeper.before i d early)) (is.each i d (omega (arith, early)))
        | inr (inr late) ↦
            let end : i ≡ place + 1 = omega (arith, late, upto) in
            subst (λ j. IsLevel list inside node (take j ls) (get_or levels' j d)) (sym end)
            (subst (λ xs. IsLevel list inside node xs (get_or levels' (place + 1) d)) more
            (level_next (take place ls) l (get_or levels place d) (get_or levels' place d)
            (get_or levels' (place + 1) d) (here d) (deeper.next d)))
      ]

  -- the first of them are those of other literals that begin in the same way
  pub fronts_kept : (ls ls' : List Literal) (reached reached' : ℕ) (levels : List Level)
      → reached' ≤ reached → reached' ≤ length ls'
      → ((i : ℕ) → i ≤ reached' → take i ls ≡ take i ls')
      → AreFronts list inside node ls reached levels
      → AreFronts list inside node ls' reached' levels
  fronts_kept ls ls' reached reached' levels less few same is = record {
    within = is.within;
    few = few;
    sizes = omega (arith, less, is.sizes);
    each = λ i d upto.
        subst (λ xs. IsLevel list inside node xs (get_or levels i d)) (same i upto)
        (is.each i d (omega (arith, less, upto)));
  }

  -- that before any literal
  pub fronts_none : (ls : List Literal) (reached : ℕ) (levels : List Level)
      → AreFronts list inside node ls reached levels → AreFronts list inside node [] 0 levels
  fronts_none ls reached levels is =
      fronts_kept ls [] reached 0 levels (omega arith) (omega arith)
      (λ i upto. let e : 0 ≡ i = omega (arith, upto) in
      subst (λ n. take n ls ≡ take n []) e refl) is

  -- that after one literal
  pub level_after : (l : Literal) (reached : ℕ) (levels : List Level) (level : Level)
      → AreFronts list inside node (l ∷ []) reached levels → reached ≡ 1
      → get_or levels 1 level ≡ level → IsLevel list inside node (l ∷ []) level
  level_after l reached levels level are is at =
      subst (IsLevel list inside node (l ∷ [])) at
      (subst (λ xs. IsLevel list inside node xs (get_or levels 1 level))
      (take_all 1 (l ∷ []) (omega arith)) (are.each 1 level (omega (arith, is))))

  -- a literal more, whose level isn't made
  pub fronts_pushed : (old new : List Literal) (l : Literal) (reached : ℕ) (levels : List Level)
      → new ≡ old ++ l ∷ [] → AreFronts list inside node old reached levels
      → AreFronts list inside node new reached levels
  fronts_pushed old new l reached levels is front =
      let size = ap length is ∙ length_push old l in
      let few = front.few in
      fronts_kept old new reached reached levels (omega arith) (omega (arith, size, few))
      (λ i upto. sym (take-append-le i old (l ∷ []) (omega (arith, upto, few)))
      ∙ ap (take i) (sym is))
      front

  -- that of the node itself
  pub fronts_first : (ls : List Literal) (level : Level) (levels : List Level)
      → IsNode list node → levels ≡ level ∷ [] → level.start.items ≡ node ∷ []
      → level.moved.items ≡ node ∷ [] → AreFronts list inside node ls 0 levels
  fronts_first ls level levels within is start moved = record {
    within = within;
    few = omega arith;
    sizes = subst (λ xs. 0 < length xs) (sym is) (omega arith);
    each = λ i d upto.
        let e : 0 ≡ i = omega (arith, upto) in
        subst (λ j. IsLevel list inside node (take j ls) (get_or levels j d)) e
        (subst (λ xs. IsLevel list inside node [] (get_or xs 0 d)) (sym is) one);
  }
    where
      below : AreBelowBound (node + 1) (node ∷ [])
      below k less =
          let e : 0 ≡ k = omega (arith, less) in
          subst (λ j. get_or (node ∷ []) j 0 < node + 1) e (omega arith)

      holds : HoldCube list inside node [] (node ∷ [])
      holds s h is = (node, (0, omega arith, refl), is)

      one : IsLevel list inside node [] level
      one = record {
        start_below = subst (λ xs. AreBelowBound (node + 1) xs) (sym start) below;
        moved_below = subst (λ xs. AreBelowBound (node + 1) xs) (sym moved) below;
        start = subst (λ xs. HoldCube list inside node [] xs) (sym start) holds;
        moved = λ r. subst (λ xs. HoldCube list inside node [] xs) (sym moved) holds;
      }

  -- the same question after a call
  pub along_again : (atoms atoms' : ℕ) (wanted wanted' : List Bool → Bool)
      (assumed literals : List Literal) (reached : ℕ) (levels : List Level)
      (table : List (Vec ℕ)) (refuted : Bool) → atoms ≡ list.atoms → atoms' ≡ atoms
      → ((s : List Bool) → wanted' s ≡ wanted s) → assumed ≡ literals
      → SpeakBelow list.atoms literals → AreFronts list inside node literals reached levels
      → AreExclusions list inside node table
      → (refuted ≡ true → IsBarren atoms wanted literals)
      → StandsAlong list inside node atoms' wanted' assumed literals reached levels table refuted
  along_again atoms atoms' wanted wanted' assumed literals reached levels table refuted over equal
      same is below fronts known none = record {
        over = equal ∙ over;
        same = is;
        below = below;
        fronts = fronts;
        known = known;
        none = λ r s of h. same s ∙ none r s (of ∙ equal) h;
      }
