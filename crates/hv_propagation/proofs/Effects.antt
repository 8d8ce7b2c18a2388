-- Why marks written from an action are its effect.
use Rattle.std.proofs.Common.{◌≡◌, ℕ, zero, suc, ◌<◌, ◌∙◌, ◌&&◌, Bool, true, false, List, [], ◌∷◌}
use Rattle.std.proofs.Common.{length, get_or, set, refl, sym, ap, ap₂, arith, Option, None, Some}
use Rattle.std.proofs.Common.{slice_get}
use Rattle.std.proofs.lemmas.List.{length-set}
use Rattle.std.proofs.lemmas.List.Folds.{list_all_at}
use Rattle.std.specs.List.{list_all}
use Rattle.hv_task.specs.declared.action.Action.{Action}
use Rattle.hv_task.specs.State.{put_all, successor}
use Rattle.hv_task.specs.Strips.{Strips}
use Rattle.hv_sets.specs.Query.{action_of, asked}
use Rattle.hv_propagation.specs.Effect.{IsEffect}
use Rattle.hv_propagation.specs.Marks.{known, mark_of, or_else, over, mark_for}
use Rattle.hv_propagation.specs.Working.Effect.{overwrite}
use Rattle.hv_propagation.proofs.Marked.{over-none}

mark_of-mark_for : (value flag : Bool) → or_else (mark_of (mark_for value)) flag ≡ value
mark_of-mark_for true flag = refl
mark_of-mark_for false flag = refl

-- one mark written anew writes one flag
over-set : (m : List ℕ) (s : List Bool) (p : ℕ) (value : Bool) → length m ≡ length s
    → over (set m p (mark_for value)) s ≡ set (over m s) p value
over-set [] [] p value h = refl
over-set [] (f ∷ fs) p value h = absurd (omega arith)
over-set (x ∷ m) [] p value h = absurd (omega arith)
over-set (x ∷ m) (f ∷ fs) zero value h = ap (λ b. b ∷ over m fs) (mark_of-mark_for value f)
over-set (x ∷ m) (f ∷ fs) (suc p) value h = ap
    (λ l. or_else (mark_of x) f ∷ l) (over-set m fs p value (omega arith))

pub length-overwrite : (value : Bool) (atoms : List ℕ) (m : List ℕ)
    → length (overwrite value atoms m) ≡ length m
length-overwrite value [] m = refl
length-overwrite value (p ∷ atoms) m = length-overwrite value atoms (set m p (mark_for value))
    ∙ length-set m p (mark_for value)

-- so many written anew write as many flags
over-overwrite : (value : Bool) (atoms : List ℕ) (m : List ℕ) (s : List Bool) → length m ≡ length s
    → over (overwrite value atoms m) s ≡ put_all value atoms (over m s)
over-overwrite value [] m s h = refl
over-overwrite value (p ∷ atoms) m s h =
    over-overwrite value atoms (set m p (mark_for value)) s (length-set m p (mark_for value) ∙ h)
    ∙ ap (λ t. put_all value atoms t) (over-set m s p value h)

-- the marks of an action make the successor
pub effect_of_action : (action : Action) (m : List ℕ) (s : List Bool) → length s ≡ length m
    → ((p : ℕ) → known m p ≡ None)
    → over (overwrite true action.add (overwrite false action.del m)) s ≡ successor action s
effect_of_action action m s h none =
    over-overwrite true action.add (overwrite false action.del m) s
    (length-overwrite false action.del m ∙ sym h)
    ∙ ap (λ t. put_all true action.add t) (over-overwrite false action.del m s (sym h)
    ∙ ap (λ t. put_all false action.del t) (over-none m s none))

-- the same as the calls give it, for the action of a task
pub effect_of_some : (task : Strips) (chosen : Option ℕ) (number : ℕ) (action : Action)
    (del add m k n : List ℕ)
    → chosen ≡ Some number → slice_get task.actions number ≡ Some action
    → ((p : ℕ) → known m p ≡ None)
    → del ≡ action.del → k ≡ overwrite false del m → add ≡ action.add → n ≡ overwrite true add k
    → IsEffect (action_of task chosen) n
effect_of_some task chosen number action del add m k n is named none dels first adds second = λ s
    size.
    let put : n ≡ overwrite true action.add (overwrite false action.del m) =
    second ∙ ap₂ (λ x y. overwrite true x y) adds (first ∙ ap (λ x. overwrite false x m) dels) in
    let found : action_of task chosen ≡ Some action = ap (λ c. action_of task c) is ∙ named in
    let within : length s ≡ length m =
    size ∙ ap length put ∙ length-overwrite true action.add (overwrite false action.del m)
    ∙ length-overwrite false action.del m in
    ap (λ x. over x s) put ∙ effect_of_action action m s within none
    ∙ ap (λ a. asked a true s) (sym found)

pub effect_of_none : (task : Strips) (chosen : Option ℕ) (m : List ℕ) → chosen ≡ None
    → ((p : ℕ) → known m p ≡ None)
    → IsEffect (action_of task chosen) m
effect_of_none task chosen m is none = λ s size. over-none m s none
    ∙ ap (λ a. asked a true s) (sym (ap (λ c. action_of task c) is))

-- where all pass, each does
pub list_all_get : {X : Type 0} (p : X → Bool) (xs : List X) (k : ℕ) (d : X) → list_all p xs ≡ true
    → k < length xs → p (get_or xs k d) ≡ true
list_all_get p xs k d all within = by (p (get_or xs k d)) refl
  where
    by : (b : Bool) → p (get_or xs k d) ≡ b → p (get_or xs k d) ≡ true
    by true e = e
    by false e =
        let none : list_all p xs ≡ false = list_all_at p xs k d within e in
        let clash : true ≡ false = sym all ∙ none in absurd cc

pub list_all_from : {X : Type 0} (p : X → Bool) (xs : List X)
    → ((k : ℕ) (d : X) → k < length xs → p (get_or xs k d) ≡ true) → list_all p xs ≡ true
list_all_from p [] all = refl
list_all_from p (x ∷ xs) all = ap₂ (λ a b. a && b) (all 0 x (omega arith))
    (list_all_from p xs (λ k d less. all (suc k) d (omega arith)))
