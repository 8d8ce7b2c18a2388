-- The start of the search for reached pairs.
use Rattle.std.proofs.Common.{◌≡◌, ◌<◌, ◌∙◌, ℕ, suc, ◌∷◌, length, get_or, arith, List, Bool, true}
use Rattle.std.proofs.Common.{false, inl, inr, refl, set, sym}
use Rattle.std.proofs.lemmas.Bool.{cases_Bool, cases_eq}
use Rattle.std.proofs.lemmas.List.Elements.{All-cons, All-contains, All-contains_itself}
use Rattle.std.specs.List.{All, Contains}
use Rattle.hv_task.specs.declared.action.Action.{Action}
use Rattle.hv_task.specs.State.{AreBelow, has_atom}
use Rattle.hv_task.specs.Strips.{Strips}
use Rattle.hv_task.specs.AtomList.{IsListOf}
use Rattle.hv_task.proofs.Listing.{within_state}
use Rattle.hv_reach.proofs.Sets.{set_grows, set_has}
use Rattle.hv_reach.specs.Reached.{ArePaired, ClosedPairs, HasPairsOf, has_pair}
use Rattle.hv_reach.specs.Working.Table.{HaveTheirPairs, IsEven, IsJoined, IsPairStep, KeepAllPairs}

pub listed_held : (s : List Bool) (held : List ℕ) → IsListOf s held
    → All (λ p. has_atom s p ≡ true) held
listed_held s held listed = λ k d less. ((listed.has (get_or held k d)).0
    (All-contains_itself held k d less)).1

pub listed_below : (s : List Bool) (held : List ℕ) (n : ℕ) → length s ≡ n → IsListOf s held
    → AreBelow n held
listed_below s held n size listed = λ k d less. let w =
    ((listed.has (get_or held k d)).0 (All-contains_itself held k d less)).0 in omega arith

pub listed_paired : (s : List Bool) (held : List ℕ) (r : ℕ → ℕ → Bool) → IsListOf s held
    → ((p q : ℕ) → has_atom s p ≡ true → has_atom s q ≡ true → r p q ≡ true) → ArePaired r held held
listed_paired s held r listed begins = λ i d less j e below.
    begins (get_or held i d) (get_or held j e) (listed_held s held listed i d less)
    (listed_held s held listed j e below)

pub paired_listed : (s : List Bool) (held : List ℕ) (r : ℕ → ℕ → Bool) → IsListOf s held
    → ArePaired r held held
    → (p q : ℕ) → has_atom s p ≡ true → has_atom s q ≡ true → r p q ≡ true
paired_listed s held r listed paired p q hp hq =
    All-contains (λ y. r p y ≡ true) held q
    (All-contains (λ x. All (λ y. r x y ≡ true) held) held p paired (in_list p hp))
    (in_list q hq)
  where
    in_list : (x : ℕ) → has_atom s x ≡ true → Contains held x
    in_list x h = (listed.has x).1 (within_state s x h, h)

-- no action asks for pairs that aren't in: each waits for an atom whose flag is raised, or it has a
-- precondition that isn't in
pub ready_start : (n : ℕ) (actions : List Action) (old new : List (List Bool))
    (flags raised : List Bool) (moved : Bool) → IsPairStep n old flags new raised moved
    → ((p q : ℕ) → has_pair old p q ≡ false) → n < length raised
    → HaveTheirPairs n actions new (set raised n true)
ready_start n actions old new flags raised moved step none less k a is =
    elim (cases_eq (length a.pre) 0) [
      | inl free ↦ inr (n, inr (refl, free), set_has raised n less)
      | inr some ↦
          let p = get_or a.pre 0 0 in
          let f : length a.pre ≡ 0 → ⊥ = some in
          let first : 0 < length a.pre = omega arith in
          elim (cases_Bool (has_pair new p p)) [
            | inl here ↦
                inr (
                  p,
                  inl (All-contains_itself a.pre 0 0 first),
                  set_grows raised n p less
                      (raised_first p here),
                )
            | inr out ↦ inl record {
              both = λ pairs. absurd (missing p out (pairs 0 0 first 0 0 first));
              other = λ q free pairs joined. absurd (missing p out (pairs 0 0 first 0 0 first));
            }
          ]
    ]
  where
    missing : (p : ℕ) → has_pair new p p ≡ false → has_pair new p p ≡ true → ⊥
    missing p out here = let e : false ≡ true = sym out ∙ here in cc

    raised_first : (p : ℕ) → has_pair new p p ≡ true → has_atom raised p ≡ true
    raised_first p here =
        elim (step.raises p p here) [
          | inl e ↦ let e : false ≡ true = sym (none p p) ∙ e in absurd cc
          | inr e ↦ e.0
        ]

-- all pairs of a list with one more
pub pairs_with : (set : ℕ → ℕ → Bool) (ps : List ℕ) (q : ℕ) → IsEven set → HasPairsOf set ps
    → IsJoined set ps q → HasPairsOf set (q ∷ ps)
pairs_with set ps q even pairs joined =
    All-cons (λ p. All (λ x. set p x ≡ true) (q ∷ ps)) q ps
    (All-cons (λ x. set q x ≡ true) q ps joined.0
    (λ i d less. even (get_or ps i d) q (joined.1 i d less)))
    (λ i d less. All-cons (λ x. set (get_or ps i d) x ≡ true) q ps (joined.1 i d less)
    (pairs i d less))

pub pairs_without : (set : ℕ → ℕ → Bool) (ps : List ℕ) (q : ℕ) → HasPairsOf set (q ∷ ps)
    → HasPairsOf set ps × IsJoined set ps q
pairs_without set ps q pairs = (
  λ i d less j e below. pairs (suc i) d (omega arith) (suc j) e (omega arith),
  (
    pairs 0 0 (omega arith) 0 0 (omega arith),
    λ i d less. pairs (suc i) d (omega arith) 0 0
        (omega arith),
  ),
)

-- a closed set keeps what the actions give
pub keeps_closed : (task : Strips) (start : List Bool) (set : ℕ → ℕ → Bool)
    → ClosedPairs task start set → KeepAllPairs task.actions set
keeps_closed task start set closed k a is = record {
  both = closed.both k a is;
  other = λ q free pairs joined. closed.other k a q is free
      (pairs_with set a.pre q closed.even pairs joined);
}

-- an even set that has the pairs of the start and keeps what the actions give is closed
pub closed_kept : (task : Strips) (start : List Bool) (set : ℕ → ℕ → Bool) → IsEven set
    → ((p q : ℕ) → has_atom start p ≡ true → has_atom start q ≡ true → set p q ≡ true)
    → KeepAllPairs task.actions set → ClosedPairs task start set
closed_kept task start set even begins keeps = record {
  even = even;
  begins = begins;
  both = λ k a is. (keeps k a is).both;
  other = λ k a q is free pairs. let w = pairs_without set a.pre q pairs in
      (keeps k a is).other q free w.0 w.1;
}
