-- A walk that is at one state alone.
use Rattle.std.proofs.Common.{◌≡◌, ◌∙◌, ℕ, Bool, true, false, List, refl, sym, ap, subst}
use Rattle.hv_task.proofs.Places.{beq-Decides}
use Rattle.hv_sets.specs.declared.literal.Literal.{Literal}
use Rattle.hv_sets.specs.Truth.{in_cube, is_same}
use Rattle.hv_sets.specs.Walks.{IsStateOf, Meets}
use Rattle.hv_paths.specs.Along.{IsCubeOfOne}

-- whether that state is looked for says whether some state of its cube is
pub alone_meets : (yes : Bool) (atoms : ℕ) (wanted : List Bool → Bool) (cube : List Literal)
    (one found : List Bool) → IsStateOf atoms one → IsCubeOfOne atoms cube one → yes ≡ wanted one
    → (yes ≡ true → found ≡ one) → Meets yes atoms wanted cube found
alone_meets true atoms wanted cube one found size alone is same =
    let e = same refl in
    subst (λ s. Meets true atoms wanted cube s) (sym e) (record {
      of_task = size;
      of_cube = alone one size ∙ (beq-Decides one one).1 refl;
      of_set = sym is;
    })
alone_meets false atoms wanted cube one found size alone is same =
    λ state of h.
    let e : one ≡ state = (beq-Decides one state).0 (sym (alone state of) ∙ h) in
    ap wanted (sym e) ∙ sym is
