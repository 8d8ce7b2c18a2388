-- The cube of literals whose atoms differ is what they say together.
use Rattle.std.proofs.Common.{◌≡◌, ℕ, ◌<◌, ◌≤◌, ◌+◌, ◌∙◌, ◌&&◌, Bool, true, false, List, [], ◌∷◌}
use Rattle.std.proofs.Common.{cond, eqb, ltb, refl, ap, arith}
use Rattle.std.specs.Prelude.{⊤}
use Rattle.std.proofs.lemmas.Bool.{eqb-true}
use Rattle.std.proofs.lemmas.List.Elements.{All-cons, All-head, All-nil, All-tail, All-weaker}
use Rattle.std.specs.List.{All, fold}
use Rattle.hv_sets.specs.Cubes.{cube_of, put_in}
use Rattle.hv_sets.specs.Truth.{in_cube, in_literal}
use Rattle.hv_sets.specs.declared.literal.Literal.{Literal}
use Rattle.hv_bdd.specs.Nodes.{NodeList}
use Rattle.hv_bdd.specs.Order.{place}

-- laws of the conjunction of truth values
and_swap : (a b c : Bool) → (a && (b && c)) ≡ (b && (a && c))
and_swap true b c = refl
and_swap false true c = refl
and_swap false false c = refl

and_assoc : (a b c : Bool) → ((a && b) && c) ≡ (a && (b && c))
and_assoc true b c = refl
and_assoc false b c = refl

-- a literal of an atom that isn't there adds itself
module _ (l : Literal) where
  abbrev pub Differs : Literal → Type 0
  Differs k = k.atom ≡ l.atom → ⊥

  pub in_put : (ls : List Literal) (s : List Bool) → All Differs ls
      → in_cube (put_in l ls) s ≡ (in_literal l s && in_cube ls s)
  in_put [] s all = refl
  in_put (k ∷ ks) s all =
      by (ltb k.atom l.atom) (eqb k.atom l.atom) refl (in_put ks s (All-tail Differs k ks all))
      (All-head Differs k ks all)
    where
      by : (a b : Bool) → eqb k.atom l.atom ≡ b
          → in_cube (put_in l ks) s ≡ (in_literal l s && in_cube ks s) → Differs k
          → in_cube (cond a (k ∷ put_in l ks) (cond b (k ∷ ks) (l ∷ k ∷ ks))) s
          ≡ (in_literal l s && (in_literal k s && in_cube ks s))
      by true b e rest differs = ap (λ x. in_literal k s && x) rest
          ∙ and_swap (in_literal k s) (in_literal l s) (in_cube ks s)
      by false true e rest differs = absurd (differs (eqb-true k.atom l.atom e))
      by false false e rest differs = refl

  -- whatever holds of each literal holds after
  pub All-put : (P : Literal → Type 0) (ls : List Literal) → P l → All P ls → All P (put_in l ls)
  All-put P [] one all = All-cons P l [] one all
  All-put P (k ∷ ks) one all =
      by (ltb k.atom l.atom) (eqb k.atom l.atom) (All-put P ks one (All-tail P k ks all))
    where
      by : (a b : Bool) → All P (put_in l ks)
          → All P (cond a (k ∷ put_in l ks) (cond b (k ∷ ks) (l ∷ k ∷ ks)))
      by true b rest = All-cons P k (put_in l ks) (All-head P k ks all) rest
      by false true rest = all
      by false false rest = All-cons P l (k ∷ ks) one all

-- literals whose atoms rise in the order, from this place on
module _ (list : NodeList) where
  abbrev pub RisesPast : ℕ → List Literal → Type 0
  RisesPast v [] = ⊤
  RisesPast v (l ∷ ls) =
      (v ≤ place list l.atom) × (l.atom < list.atoms) × RisesPast (place list l.atom + 1) ls

  abbrev pub Before : ℕ → Literal → Type 0
  Before v l = place list l.atom < v

  in_folded : (ls : List Literal) (cube : List Literal) (v : ℕ) (s : List Bool)
      → All (Before v) cube → RisesPast v ls
      → in_cube (fold (λ c l. put_in l c) cube ls) s ≡ (in_cube cube s && in_cube ls s)
  in_folded [] cube v s before rises = by (in_cube cube s)
    where
      by : (b : Bool) → b ≡ (b && true)
      by true = refl
      by false = refl
  in_folded (l ∷ ls) cube v s before rises =
      let upto = rises.0 in
      let differs : All (Differs l) cube =
      All-weaker (Before v) (Differs l) (λ k less same. let e = ap (place list) same in omega arith)
      cube before in
      let more : All (Before (place list l.atom + 1)) (put_in l cube) =
      All-put l (Before (place list l.atom + 1)) cube (omega arith)
      (All-weaker (Before v) (Before (place list l.atom + 1)) (λ k less. omega arith) cube
      before) in
      in_folded ls (put_in l cube) (place list l.atom + 1) s more rises.2
      ∙ (ap (λ x. x && in_cube ls s) (in_put l cube s differs)
      ∙ (and_assoc (in_literal l s) (in_cube cube s) (in_cube ls s)
      ∙ and_swap (in_literal l s) (in_cube cube s) (in_cube ls s)))

  -- so the cube of such literals is what they say together
  pub in_cube_of : (ls : List Literal) (v : ℕ) (s : List Bool) → RisesPast v ls
      → in_cube (cube_of ls) s ≡ in_cube ls s
  in_cube_of ls v s rises = in_folded ls [] v s (All-nil (Before v)) rises
