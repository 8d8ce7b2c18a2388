-- Why the index of a list of operands tells what they name.
use Rattle.std.proofs.Common.{◌≡◌, ◌∙◌, ◌⊎◌, ◌↔◌, ◌&&◌, Bool, true, false, List, [], ◌∷◌, ◌++◌}
use Rattle.std.proofs.Common.{Decides, IsTrue, get_or, refl, sym, ap, ap₂, subst, inl, inr}
use Rattle.std.proofs.Common.{if◌then◌else◌}
use Rattle.std.proofs.lemmas.Bool.Decides.{Decides-eqb}
use Rattle.std.proofs.lemmas.List.Elements.{Contains-append_left, Contains-push}
use Rattle.std.proofs.lemmas.List.Elements.{Contains-push_cases}
use Rattle.std.proofs.lemmas.List.Folds.{list_any_at}
use Rattle.std.proofs.lemmas.Map.Views.{Contains-from_any}
use Rattle.std.proofs.lemmas.Bool.{and_parts}
use Rattle.std.specs.Cmp.{booleans_Decides}
use Rattle.std.specs.List.{Contains, list_any}
use Rattle.indexmap.specs.IndexSet.{insert_key}
use Rattle.hv_sets.specs.declared.operand.Operand.{Operand}
use Rattle.hv_sets.specs.declared.operand.Which.{Which}
use Rattle.hv_sets.specs.declared.operand.Which.TheVariants as W
use Rattle.hv_sets.specs.contracts.operand.WhichPartialEq as which
use Rattle.std.specs.contracts.prelude.BoolPartialEq as bool
use Rattle.hv_sets.specs.Names.{AsksAbout}
use Rattle.hv_sets.specs.Working.Names.{AreAsked}

-- whether two sets are one, as the code compares them
abbrev pub same_which : Which → Which → Bool
same_which v w = (which.TheImpl.ghosts).eq v w

-- whether two pairs are one
abbrev pub same_pair : Which × Bool → Which × Bool → Bool
same_pair x y = same_which x.0 y.0 && (bool.TheImpl.ghosts).eq x.1 y.1

which_Decides : (v w : Which) → Decides (same_which v w) (v ≡ w)
which_Decides W.Empty W.Empty = (λ _. refl, λ _. refl)
which_Decides W.Start W.Start = (λ _. refl, λ _. refl)
which_Decides W.Goal W.Goal = (λ _. refl, λ _. refl)
which_Decides (W.Set i) (W.Set j) = (
  λ e. ap W.Set ((Decides-eqb i j).0 e),
  λ e. (Decides-eqb i j).1
      (let f : i ≡ j = cc in f),
)
which_Decides W.Empty W.Start = (λ e. let f : false ≡ true = e in absurd cc, λ e. absurd cc)
which_Decides W.Empty W.Goal = (λ e. let f : false ≡ true = e in absurd cc, λ e. absurd cc)
which_Decides W.Empty (W.Set j) = (λ e. let f : false ≡ true = e in absurd cc, λ e. absurd cc)
which_Decides W.Start W.Empty = (λ e. let f : false ≡ true = e in absurd cc, λ e. absurd cc)
which_Decides W.Start W.Goal = (λ e. let f : false ≡ true = e in absurd cc, λ e. absurd cc)
which_Decides W.Start (W.Set j) = (λ e. let f : false ≡ true = e in absurd cc, λ e. absurd cc)
which_Decides W.Goal W.Empty = (λ e. let f : false ≡ true = e in absurd cc, λ e. absurd cc)
which_Decides W.Goal W.Start = (λ e. let f : false ≡ true = e in absurd cc, λ e. absurd cc)
which_Decides W.Goal (W.Set j) = (λ e. let f : false ≡ true = e in absurd cc, λ e. absurd cc)
which_Decides (W.Set i) W.Empty = (λ e. let f : false ≡ true = e in absurd cc, λ e. absurd cc)
which_Decides (W.Set i) W.Start = (λ e. let f : false ≡ true = e in absurd cc, λ e. absurd cc)
which_Decides (W.Set i) W.Goal = (λ e. let f : false ≡ true = e in absurd cc, λ e. absurd cc)

pub pair_Decides : (x y : Which × Bool) → Decides (same_pair x y) (x ≡ y)
pair_Decides x y = (
  λ e.
      let parts = and_parts (same_which x.0 y.0) ((bool.TheImpl.ghosts).eq x.1 y.1) e in
      ap₂ (λ (w : Which) (b : Bool). (w, b)) ((which_Decides x.0 y.0).0 parts.0)
      ((booleans_Decides x.1 y.1).0 parts.1),
  λ e.
      ap₂ (λ a b. a && b) ((which_Decides x.0 y.0).1 (ap (λ (p : Which × Bool). p.0) e))
      ((booleans_Decides x.1 y.1).1 (ap (λ (p : Which × Bool). p.1) e)),
)

-- a look-up finds just the pairs of the index
pub found_Decides : (named : List (Which × Bool)) (x : Which × Bool)
    → Decides (list_any (same_pair x) named) (Contains named x)
found_Decides named x = (
  Contains-from_any (λ y z. (pair_Decides y z).0) x named,
  λ c. list_any_at (same_pair x) named c.0 x c.1
      ((pair_Decides x (get_or named c.0 x)).1 (sym c.2)),
)

-- so it answers what the operands name
pub names_is : (named : List (Which × Bool)) (operands : List Operand) (which : Which)
    (after : Bool) (answer : Bool)
    → AreAsked named operands → answer ≡ list_any (same_pair (which, after)) named
    → IsTrue answer ↔ AsksAbout operands which after
names_is named operands which after answer of is =
    let found = found_Decides named (which, after) in
    (λ e. (of which after).0 (found.0 (sym is ∙ e)), λ n. is ∙ found.1 ((of which after).1 n))

-- the index stays where the operands do
pub names_kept : (named now : List (Which × Bool)) (operands items : List Operand)
    → AreAsked named operands → now ≡ named
    → items ≡ operands → AreAsked now items
names_kept named now operands items of same stays =
    subst (λ list. AreAsked list items) (sym same) (subst (AreAsked named) (sym stays) of)

-- and takes one pair more with one operand more
module _ (named : List (Which × Bool)) (operands : List Operand) (item : Operand)
    (of : AreAsked named operands) where
  inserted : Decides (list_any (same_pair (item.which, item.after)) named)
      (Contains named (item.which, item.after))
  inserted = found_Decides named (item.which, item.after)

  contains_new : Contains (insert_key same_pair named (item.which, item.after))
      (item.which, item.after)
  contains_new = by (list_any (same_pair (item.which, item.after)) named) refl
    where
      by : (b : Bool) → list_any (same_pair (item.which, item.after)) named ≡ b
          → Contains (if b then named else named ++ (item.which, item.after) ∷ [])
          (item.which, item.after)
      by true e = inserted.0 e
      by false e = Contains-push named (item.which, item.after)

  contains_old : (x : Which × Bool) → Contains named x
      → Contains (insert_key same_pair named (item.which, item.after)) x
  contains_old x c = by (list_any (same_pair (item.which, item.after)) named)
    where
      by : (b : Bool) → Contains (if b then named else named ++ (item.which, item.after) ∷ []) x
      by true = c
      by false = Contains-append_left named ((item.which, item.after) ∷ []) x c

  from_new : (x : Which × Bool) → Contains (insert_key same_pair named (item.which, item.after)) x
      → Contains named x ⊎ ((item.which, item.after) ≡ x)
  from_new x = by (list_any (same_pair (item.which, item.after)) named)
    where
      by : (b : Bool) → Contains (if b then named else named ++ (item.which, item.after) ∷ []) x
          → Contains named x ⊎ ((item.which, item.after) ≡ x)
      by true c = inl c
      by false c = Contains-push_cases named (item.which, item.after) x c

  pub names_more : AreAsked (insert_key same_pair named (item.which, item.after))
      (operands ++ item ∷ [])
  names_more which after = (
    λ c. elim (from_new (which, after) c) [
      | inl old ↦ let n = (of which after).0 old in
          (n.0, Contains-append_left operands (item ∷ []) n.0 n.1, n.2, n.3)
      | inr is ↦ (
        item,
        Contains-push operands item,
        ap (λ (p : Which × Bool). p.0) is,
        ap
            (λ (p : Which × Bool). p.1) is,
      )
    ],
    λ n. elim (Contains-push_cases operands item n.0 n.1) [
      | inl old ↦ contains_old (which, after) ((of which after).1 (n.0, old, n.2, n.3))
      | inr is ↦
          let same : (item.which, item.after) ≡ (which, after) =
          ap₂ (λ (w : Which) (b : Bool). (w, b)) (ap (λ (o : Operand). o.which) is ∙ n.2)
          (ap (λ (o : Operand). o.after) is ∙ n.3) in
          subst (Contains (insert_key same_pair named (item.which, item.after))) same contains_new
    ],
  )
