-- How values that were tried join.
use Rattle.std.proofs.Common.{◌≡◌, ℕ, ◌+◌, ◌∙◌, ◌⊎◌, Bool, true, false, not, List, length, Option}
use Rattle.std.proofs.Common.{None, Some}
use Rattle.std.proofs.Common.{refl, sym, ap, subst, arith, inl, inr}
use Rattle.std.proofs.lemmas.Bool.{cases_lt}
use Rattle.hv_task.specs.State.{has_atom}
use Rattle.hv_propagation.specs.Completion.{Completes, IsCompleted, IsTried}
use Rattle.hv_propagation.specs.declared.completion.Completion.{Completion}
use Rattle.hv_propagation.specs.declared.completion.Completion.TheVariants as C
use Rattle.hv_propagation.specs.Working.Completion.{IsAssumed}
use Rattle.hv_propagation.specs.Marks.{filled, known, over, Agrees, AllKnown, KeepsKnown, low}
use Rattle.hv_propagation.proofs.Marked.{agrees_extends, agrees_filled, agrees_low, agrees_over}
use Rattle.hv_propagation.proofs.Marked.{agrees_write, extends_same, extends_write, length-over}
use Rattle.hv_indexes.proofs.Mated.{sign_or}

-- something is known of an atom, and still is when the marks have grown
pub stays_known : (old new : List ℕ) (atom : ℕ)
    → ((value : Bool) → known old atom ≡ Some value → known new atom ≡ Some value)
    → (known old atom ≡ None → ⊥) → known new atom ≡ None → ⊥
stays_known old new atom grows was none = split (known old atom) refl
  where
    split : (x : Option Bool) → known old atom ≡ x → ⊥
    split None e = was e
    split (Some value) e = let k = grows value e in absurd cc

module _ (Holds : List Bool → Type 0) (Settled : List ℕ → Type 0) where
  -- a value was marked, and all that follows was concluded
  module _ (atom : ℕ) (value : Bool) (old marked closed : List ℕ) (unknown : known old atom ≡ None)
      (size : length marked ≡ length old) (here : known marked atom ≡ Some value)
      (others : (p : ℕ) → (p ≡ atom → ⊥) → known marked p ≡ known old p) where
    -- that no state is left refutes the value
    pub assumed_broken : Settled old
        → ((state : List Bool) → length state ≡ length marked → Holds state → Agrees marked state
        → ⊥)
        → IsAssumed Holds Settled atom value old old false
    assumed_broken settled broken =
        record {
          size = refl;
          grows = extends_same old;
          settled = settled;
          here = λ e. absurd (let f : false ≡ true = e in cc);
          kept = λ _. refl;
          refuted = λ _ state long holds agrees is.
              broken state (long ∙ sym size) holds
              (agrees_write old marked atom value state here others is agrees);
        }

    pub assumed_closed : length closed ≡ length marked → KeepsKnown marked closed → Settled closed
        → IsAssumed Holds Settled atom value old closed true
    assumed_closed long grows settled =
        record {
          size = long ∙ size;
          grows = λ a b k. grows a b (extends_write old marked atom unknown others a b k);
          settled = settled;
          here = λ _. grows atom value here;
          kept = λ e. absurd (let f : true ≡ false = e in cc);
          refuted = λ e. absurd (let f : true ≡ false = e in cc);
        }

  -- a value was refuted and the other one tried: a state that meets the condition can be made to
  -- agree with the marks, and has one of the two values
  pub tried_both : (atom : ℕ) (value : Bool) (old mid new : List ℕ) (result : Bool)
      → Completes C.Try Holds Settled (length old) → Settled old
      → IsAssumed Holds Settled atom value old mid false
      → IsAssumed Holds Settled atom (not value) mid new result
      → IsTried Holds Settled (λ marks. known marks atom ≡ None → ⊥) old new result
  tried_both atom value old mid new result completes settled first second =
      let same : mid ≡ old = first.kept refl in
      record {
        size = second.size ∙ ap length same;
        grows = λ a b k. second.grows a b
            (subst (λ marks. known marks a ≡ Some b) (sym same) k);
        settled = second.settled;
        done = λ e none. (let is = second.here e in absurd cc);
        refuted = λ e state size holds.
            let t = over old state in
            let long : length t ≡ length old = length-over old state ∙ size in
            let agrees : Agrees old t = agrees_over old state (sym size) in
            let meets : Holds t = completes.0 old state refl size settled holds in
            split t (sign_or value (has_atom t atom)) long agrees meets same e;
      }
    where
      split : (t : List Bool) → (has_atom t atom ≡ value) ⊎ (has_atom t atom ≡ not value)
          → length t ≡ length old → Agrees old t → Holds t → mid ≡ old → result ≡ false → ⊥
      split t (inl is) long agrees meets same e = first.refuted refl t long meets agrees is
      split t (inr is) long agrees meets same e =
          second.refuted e t (long ∙ ap length (sym same)) meets
          (subst (λ marks. Agrees marks t) (sym same) agrees) is

  -- a value that was kept settles its atom
  pub tried_kept : (atom : ℕ) (value : Bool) (old new : List ℕ)
      → IsAssumed Holds Settled atom value old new true
      → IsTried Holds Settled (λ marks. known marks atom ≡ None → ⊥) old new true
  tried_kept atom value old new kept =
      record {
        size = kept.size;
        grows = kept.grows;
        settled = kept.settled;
        done = λ _ none. (let is = kept.here refl in absurd cc);
        refuted = λ e. absurd (let f : true ≡ false = e in cc);
      }

  -- where no atom was tried, none is missing
  pub tried_none : (marks : List ℕ) → Settled marks
      → IsTried Holds Settled (AllKnown 0) marks marks true
  tried_none marks settled =
      record {
        size = refl;
        grows = extends_same marks;
        settled = settled;
        done = λ _ a less. absurd (omega (arith, less));
        refuted = λ e. absurd (let f : true ≡ false = e in cc);
      }

  -- what no state meets after some tries, none met before
  pub tried_refuted : (First Second Last : List ℕ → Type 0) (old mid new : List ℕ)
      → IsTried Holds Settled First old mid true → IsTried Holds Settled Second mid new false
      → IsTried Holds Settled Last old new false
  tried_refuted First Second Last old mid new first second =
      record {
        size = second.size ∙ first.size;
        grows = λ a value k. second.grows a value (first.grows a value k);
        settled = second.settled;
        done = λ e. absurd (let f : false ≡ true = e in cc);
        refuted = λ e state long holds. second.refuted e state (long ∙ sym first.size) holds;
      }

  -- what was tried for one more atom
  pub tried_more : (old mid new : List ℕ) (atom : ℕ)
      → IsTried Holds Settled (AllKnown atom) old mid true
      → IsTried Holds Settled (λ marks. known marks atom ≡ None → ⊥) mid new true
      → IsTried Holds Settled (AllKnown (atom + 1)) old new true
  tried_more old mid new atom first second =
      record {
        size = second.size ∙ first.size;
        grows = λ a value k. second.grows a value (first.grows a value k);
        settled = second.settled;
        done = λ _ a less. (elim (cases_lt a atom) [
          | inl before ↦ stays_known mid new a (second.grows a) (first.done refl a before)
          | inr back ↦ subst (λ p. known new p ≡ None → ⊥) (let e : atom ≡ a = omega arith in e)
              (second.done refl)
        ]);
        refuted = λ e. absurd (let f : true ≡ false = e in cc);
      }

  -- the atoms of which nothing is known have one value
  pub completed_filled : (how : Completion) (value : Bool) → how ≡ C.Fill value
      → (old new : List ℕ) (built : List Bool) → new ≡ old
      → Completes how Holds Settled (length old) → Settled old → built ≡ filled value new
      → IsCompleted Holds old built true
  completed_filled how value is old new built same completes settled at =
      let by_how : Completes (C.Fill value) Holds Settled (length old) =
      subst (λ k. Completes k Holds Settled (length old)) is completes in
      let it : filled value old ≡ built = ap (filled value) (sym same) ∙ sym at in
      record {
        found = λ _. (
          subst Holds it (by_how old refl settled),
          subst
              (λ s. Agrees old s) it (agrees_filled value old),
        );
        refuted = λ e. absurd (let f : true ≡ false = e in cc);
      }

  -- something is known of each atom
  pub completed_tried : (how : Completion) → how ≡ C.Try
      → (old mid new : List ℕ) (built : List Bool) → new ≡ mid
      → Completes how Holds Settled (length old)
      → IsTried Holds Settled (AllKnown (length old)) old mid true → built ≡ low new
      → IsCompleted Holds old built true
  completed_tried how is old mid new built same completes tried at =
      let by_how : Completes C.Try Holds Settled (length old) =
      subst (λ k. Completes k Holds Settled (length old)) is completes in
      let it : low mid ≡ built = ap low (sym same) ∙ sym at in
      record {
        found = λ _. (
          subst Holds it (by_how.1 mid tried.size (tried.done refl) tried.settled),
          subst (λ s. Agrees old s) it (agrees_extends old mid (low mid) tried.grows
              (agrees_low mid)),
        );
        refuted = λ e. absurd (let f : true ≡ false = e in cc);
      }
