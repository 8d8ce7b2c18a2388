-- The test for listed states tells whether a state is one of them.
use Rattle.std.proofs.Common.{◌≡◌, ℕ, ◌<◌, ◌∙◌, Bool, List, [], length, get_or, sym, ap, arith}
use Rattle.std.proofs.lemmas.List.{get_or-map, length-map}
use Rattle.std.proofs.lemmas.List.Folds.{list_any_at, Any-from_list_any}
use Rattle.std.specs.Bool.{Decides}
use Rattle.hv_task.specs.State.{state_of}
use Rattle.hv_task.proofs.Places.{beq-Decides}
use Rattle.hv_sets.specs.Truth.{InStates, in_states, is_same}

pub in_states-Decides : (n : ℕ) (states : List (List ℕ)) (state : List Bool)
    → Decides (in_states n states state) (InStates n states state)
in_states-Decides n states state = (
  λ e.
      let found = Any-from_list_any (λ held. is_same (state_of n held) state) states e in
      let size = length-map states (state_of n) in
      let is = (beq-Decides (state_of n found.1) state).0 found.4 in (
        found.0,
        omega (arith, found.2),
        get_or-map (state_of n) states found.0 found.1 state found.2
            ∙ (ap (state_of n) found.3 ∙ is),
      ),
  λ c.
      let size = length-map states (state_of n) in
      let within : c.0 < length states = omega (arith, c.1) in
      let is : state_of n (get_or states c.0 [])
      ≡ state = sym (get_or-map (state_of n) states c.0 [] state within) ∙ c.2 in
      list_any_at (λ held. is_same (state_of n held) state) states c.0 [] within
      ((beq-Decides (state_of n (get_or states c.0 [])) state).1 is),
)
