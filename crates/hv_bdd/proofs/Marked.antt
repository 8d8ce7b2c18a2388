-- Marks: those of an action, and a state with the marked bits.
use Rattle.std.proofs.Common.{◌≡◌, ℕ, zero, suc, ◌<◌, ◌+◌, ◌∙◌, ◌||◌, ◌&&◌, Bool, true, false, not}
use Rattle.std.proofs.Common.{List, [], ◌∷◌, Option, None, Some, cond, length, refl, sym, ap, arith}
use Rattle.std.proofs.lemmas.List.{get_or-replicate, length-replicate}
use Rattle.std.proofs.lemmas.List.FromFn.{get_or-map-range_with_len, length-map-range_with_len}
use Rattle.hv_task.specs.declared.action.Action.{Action}
use Rattle.hv_task.specs.State.{has_atom, names_atom, successor}
use Rattle.hv_task.proofs.Places.{has_atom-successor, length-successor, same_state}
use Rattle.hv_bdd.specs.Working.Graphs.{with_marks}
use Rattle.hv_bdd.specs.Live.{changed_at, changed_by, bit_mark_of, needed_at, needed_by, no_marks}
use Rattle.hv_bdd.specs.Live.{bit_or}

pub length-over : (marks : List (Option Bool)) (s : List Bool)
    → length (with_marks marks s) ≡ length s
length-over marks [] = refl
length-over [] (b ∷ s) = refl
length-over (m ∷ marks) (b ∷ s) = ap suc (length-over marks s)

pub has_atom-over : (marks : List (Option Bool)) (s : List Bool) (a : ℕ) → a < length s
    → has_atom (with_marks marks s) a ≡ bit_or (bit_mark_of marks a) (has_atom s a)
has_atom-over marks [] a less = absurd (omega arith)
has_atom-over [] (b ∷ s) a less = refl
has_atom-over (m ∷ marks) (b ∷ s) zero less = refl
has_atom-over (m ∷ marks) (b ∷ s) (suc a) less = has_atom-over marks s a (omega arith)

pub length-no_marks : (n : ℕ) → length (no_marks n) ≡ n
length-no_marks n = length-replicate n None

pub mark_of-no_marks : (n p : ℕ) → p < n → bit_mark_of (no_marks n) p ≡ None
mark_of-no_marks n p less = get_or-replicate n p None None less

pub length-needed_by : (n : ℕ) (action : Option Action) → length (needed_by n action) ≡ n
length-needed_by n None = length-no_marks n
length-needed_by n (Some action) = length-map-range_with_len (needed_at action) 0 n

pub length-changed_by : (n : ℕ) (action : Option Action) → length (changed_by n action) ≡ n
length-changed_by n None = length-no_marks n
length-changed_by n (Some action) = length-map-range_with_len (changed_at action) 0 n

pub mark_of-needed : (n p : ℕ) (action : Action) → p < n
    → bit_mark_of (needed_by n (Some action)) p ≡ needed_at action p
mark_of-needed n p action less = get_or-map-range_with_len (needed_at action) 0 n p p None less
    (let f : 0 + p ≡ p = omega arith in f)

pub mark_of-changed : (n p : ℕ) (action : Action) → p < n
    → bit_mark_of (changed_by n (Some action)) p ≡ changed_at action p
mark_of-changed n p action less = get_or-map-range_with_len (changed_at action) 0 n p p None less
    (let f : 0 + p ≡ p = omega arith in f)

effect : (a d h : Bool) → bit_or (cond a (Some true) (cond d (Some false) None)) h
    ≡ (a || (not d && h))
effect true d h = refl
effect false true h = refl
effect false false h = refl

-- a state with the marks of an action is its successor
pub over_action : (n : ℕ) (action : Action) (s : List Bool) → length s ≡ n
    → with_marks (changed_by n (Some action)) s ≡ successor action s
over_action n action s size =
    same_state (with_marks (changed_by n (Some action)) s) (successor action s)
    (length-over (changed_by n (Some action)) s ∙ sym (length-successor action s))
    (λ p less.
    let len = length-over (changed_by n (Some action)) s in
    has_atom-over (changed_by n (Some action)) s p (omega arith)
    ∙ (ap (λ m. bit_or m (has_atom s p)) (mark_of-changed n p action (omega arith))
    ∙ (effect (names_atom action.add p) (names_atom action.del p) (has_atom s p)
    ∙ sym (has_atom-successor action s p (omega arith)))))

pub over_none : (n : ℕ) (s : List Bool) → length s ≡ n → with_marks (no_marks n) s ≡ s
over_none n s size =
    same_state (with_marks (no_marks n) s) s (length-over (no_marks n) s)
    (λ p less.
    let len = length-over (no_marks n) s in
    has_atom-over (no_marks n) s p (omega arith)
    ∙ ap (λ m. bit_or m (has_atom s p)) (mark_of-no_marks n p (omega arith)))
