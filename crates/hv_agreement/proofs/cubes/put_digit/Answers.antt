use Rattle.std.proofs.Common.{◌≡◌, ◌<◌, Bool, true, false, List, get_or, inl, inr, refl, subst, sym}
use Rattle.std.proofs.lemmas.List.Elements.{All-contains, Contains-get_or}
use Rattle.hv_sets.specs.declared.literal.Literal.{Literal}
use Rattle.hv_sets.specs.Cubes.{Adds, SpeakBelow}
use Rattle.hv_agreement.proofs.cubes.put_digit.Goals as goal

below_added : (yes : Bool) (old : List Literal) (l : Literal) (new : List Literal)
    → (yes ≡ true → Adds old l new) → (yes ≡ false → new ≡ old) → SpeakBelow 3 old → l.atom < 3
    → SpeakBelow 3 new
below_added true old l new added same below less = λ k d within.
    elim (((added refl).has (get_or new k d)).0 (Contains-get_or new k d within)) [
      | inl had ↦ All-contains (λ (m : Literal). m.atom < 3) old (get_or new k d) below had
      | inr e ↦ subst (λ (m : Literal). m.atom < 3) (sym e) less
    ]
below_added false old l new added same below less =
    subst (λ (ls : List Literal). SpeakBelow 3 ls) (sym (same refl)) below

pub returns : goal.returns
returns c =
    below_added _ _ _ _ c.in_ok-add.ensures.added c.in_ok-add.ensures.refused c.requires.cube
    c.requires.atom
