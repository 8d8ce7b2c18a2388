-- The text of the task of a cost bound is read back as that task.
use Rattle.std.proofs.Common.{◌≡◌, ◌≢◌, ℕ, ◌+◌, ◌-◌, ◌<◌, ◌≤◌, ◌^◌, ◌∙◌, ◌↔◌, All, List, [], ◌∷◌}
use Rattle.std.proofs.Common.{◌++◌, Some, ap, arith, drop, get_or, inl, inr, length, map}
use Rattle.std.proofs.Common.{length-append, refl, subst, sym, true}
use Rattle.std.specs.Prelude.{codes, not, ◌==◌}
use Rattle.std.specs.Fmt.{decimal}
use Rattle.std.specs.List.{insert, list_all, slice_get}
use Rattle.std.specs.List.Sorted.{IsStrictlyIncreasing}
use Rattle.std.proofs.Math.Seq.{drop-length, take-length}
use Rattle.std.proofs.lemmas.Fmt.{length-decimal-le}
use Rattle.std.proofs.lemmas.List.Elements.{All-append, All-cons, All-get_or, All-map, All-weaker}
use Rattle.std.proofs.lemmas.List.FromFn.{get_or-range_with_len, length-range_with_len}
use Rattle.std.proofs.lemmas.Option.{get_or_from_slice_get, slice_get-get_or, slice_get_within}
use Rattle.hv_bytes.specs.Pieces.{pieces_of}
use Rattle.hv_bytes.specs.Standard.{most_file_bytes, standard}
use Rattle.hv_task.specs.Plan.{IsUnsolvable, Solves}
use Rattle.hv_task.specs.State.{AreBelow}
use Rattle.hv_task.specs.Strips.{IsOver, IsTask, Strips, atoms}
use Rattle.hv_task.specs.declared.action.Action.{Action}
use Rattle.hv_task.proofs.Rising.{Inserts-insert, place_at_end}
use Rattle.hv_task.proofs.Tasks.{AreBelow-more, IsOver-action}
use Rattle.hv_task_text.specs.Canonical.{HasWritableNames, IsWritableName, canonical_of}
use Rattle.hv_task_text.specs.TaskText.{TaskText}
use Rattle.hv_task_text.specs.Working.Canonical.{IsStored}
use Rattle.hv_task_text.proofs.OneAnswer.{one_task}
use Rattle.hv_task_text.proofs.Readable.{IsWhole, clean_decimal, clean_word, readable}
use Rattle.hv_task_text.proofs.TaskTexts.{are_stored, is_task, writable_names}
use Rattle.hv_bound.specs.Bounded.{IsTooLarge, amounts, bounded_task, counter_name}
use Rattle.hv_bound.specs.Bounded.{paid_name}
use Rattle.hv_bound.specs.Costs.{IsSolvable, IsSolvableWithin, cost_of_list}
use Rattle.hv_bound.proofs.Bounds.{IsCopy, atoms-bounded_task, costs_more, origin, plan_of_within}
use Rattle.hv_bound.proofs.Bounds.{within_of_plan}
use Rattle.hv_bound.proofs.Copying.{AreBelow-push, IsOver-free_copy, IsOver-paid_copy}
use Rattle.hv_fronts.specs.BoundTexts.{IsBoundText}

abbrev IsNoLf : ℕ → Type 0
IsNoLf b = b ≢ 10

writable_number : (word : List ℕ) (n : ℕ) → list_all (λ b. not (b == 10)) word ≡ true
    → length word ≤ 100 → n < 10 ^ 18 → IsWritableName (word ++ decimal n)
writable_number word n plain few small =
    let digits = length-decimal-le 18 n (omega arith) small (omega arith) in
    let size = length-append word (decimal n) in
    record {
      clean = All-append IsNoLf word (decimal n) (clean_word word plain)
          (clean_decimal n (omega arith));
      short = omega arith;
    }

writable_pair : (number left : ℕ) → number < 10 ^ 18 → left < 10 ^ 18
    → IsWritableName (paid_name number left)
writable_pair number left small less =
    let first = length-decimal-le 18 number (omega arith) small (omega arith) in
    let second = length-decimal-le 18 left (omega arith) less (omega arith) in
    let size = length-append (decimal number) (32 ∷ decimal left) in
    record {
      clean = All-append IsNoLf (decimal number) (32 ∷ decimal left)
          (clean_decimal number (omega arith))
          (All-cons IsNoLf 32 (decimal left) (λ e. absurd (omega arith))
          (clean_decimal left (omega arith)));
      short = omega arith;
    }

-- a rising list with a number more that is greater than each of it
rises_push : (xs : List ℕ) (x : ℕ) → IsStrictlyIncreasing xs → AreBelow x xs
    → IsStrictlyIncreasing (xs ++ x ∷ [])
rises_push xs x rises below =
    let inserts = Inserts-insert xs x (length xs) rises
    (place_at_end xs x rises (λ some. below (length xs - 1) 0 (omega arith))) in
    let same : insert xs (length xs) x ≡ xs ++ x ∷ [] =
    ap (λ ys. ys ++ x ∷ drop (length xs) xs) (take-length xs)
    ∙ ap (λ ys. xs ++ x ∷ ys) (drop-length xs) in
    subst IsStrictlyIncreasing same inserts.rises

rises_more : (n : ℕ) (xs : List ℕ) (x : ℕ) → n ≤ x → IsStrictlyIncreasing xs → AreBelow n xs
    → IsStrictlyIncreasing (xs ++ x ∷ [])
rises_more n xs x upto rises below = rises_push xs x rises (AreBelow-more n x xs upto below)

-- each copy of an action can be written
whole_copy : (n most number : ℕ) (a made : Action) → n + (most + 1) ≤ 65535 → number < 1000000
    → IsOver n a → IsStored a → IsCopy n most number a made → IsWhole (n + (most + 1)) made
whole_copy n most number a made few less over stored (inl free) =
    subst (IsWhole (n + (most + 1))) (sym free.1) (record {
      over = IsOver-free_copy n (n + (most + 1)) number a (omega arith) over;
      stored = record {
        cost = stored.cost;
        pre = stored.pre;
        add = stored.add;
        del = stored.del;
      };
      name = writable_number [] number refl (omega arith) (omega arith);
    })
whole_copy n most number a made few less over stored (inr paid) =
    let left = paid.0 in
    let pays = paid.1 in
    let upto = paid.2 in
    subst (IsWhole (n + (most + 1))) (sym paid.3) (record {
      over = IsOver-paid_copy n (n + (most + 1)) number a left (omega arith) pays over;
      stored = record {
        cost = stored.cost;
        pre = rises_more n a.pre (n + left) (omega arith) stored.pre over.pre;
        add = rises_more n a.add (n + left - a.cost) (omega arith) stored.add over.add;
        del = rises_more n a.del (n + left) (omega arith) stored.del over.del;
      };
      name = writable_pair number left (omega arith) (omega arith);
    })

module _ (task : Strips) (most : ℕ) (is : IsTask task) (stored : All IsStored task.actions)
    (names : HasWritableNames task) (fits : IsTooLarge task most → ⊥) where
  few : atoms task + (most + 1) ≤ 65535
  few = omega (arith, λ (many : 65535 < atoms task + (most + 1)). fits (inl many))

  size : atoms (bounded_task task most) ≡ atoms task + (most + 1)
  size = atoms-bounded_task task most

  stored_action : (i : ℕ) (a : Action) → slice_get task.actions i ≡ Some a → IsStored a
  stored_action i a named =
      subst IsStored (get_or_from_slice_get task.actions i a a named)
      (All-get_or IsStored task.actions i a (slice_get_within task.actions i a named) stored)

  whole_action : (k : ℕ) (made : Action) → slice_get (bounded_task task most).actions k ≡ Some made
      → IsWhole (atoms task + (most + 1)) made
  whole_action k made named =
      let from = origin task most k made named in
      let within = slice_get_within task.actions from.0 from.1 from.2 in
      let few_actions = is.few_actions in
      whole_copy (atoms task) most from.0 from.1 made few (omega arith)
      (IsOver-action task from.0 from.1 is from.2) (stored_action from.0 from.1 from.2) from.3

  whole_actions : All (IsWhole (atoms (bounded_task task most))) (bounded_task task most).actions
  whole_actions = λ k d less.
      subst (λ n. IsWhole n (get_or (bounded_task task most).actions k d)) (sym size)
      (whole_action k (get_or (bounded_task task most).actions k d)
      (slice_get-get_or (bounded_task task most).actions k d less))

  pub is_task-bounded : IsTask (bounded_task task most)
  is_task-bounded = let count = size in let upto = few in record {
    start = AreBelow-push (atoms task) (atoms (bounded_task task most)) task.start
        (atoms task + most) (omega arith) (omega arith) is.start;
    start_rises = rises_push task.start (atoms task + most) is.start_rises
        (AreBelow-more (atoms task) (atoms task + most) task.start (omega arith) is.start);
    goal = AreBelow-more (atoms task) (atoms (bounded_task task most)) task.goal (omega arith)
        is.goal;
    goal_rises = is.goal_rises;
    actions = All-weaker (IsWhole (atoms (bounded_task task most)))
        (IsOver (atoms (bounded_task task most))) (λ a whole. whole.over)
        (bounded_task task most).actions whole_actions;
    few_atoms = omega arith;
    few_actions = omega (
      arith,
      λ (many : 1000000 < length (bounded_task task most).actions). fits (inr many),
    );
  }

  counter_names : All IsWritableName (map counter_name (amounts 0 most))
  counter_names =
      All-map IsWritableName counter_name (amounts 0 most)
      (λ k d less.
      let within : k < most + 1 - 0 =
      subst (λ n. k < n) (length-range_with_len 0 (most + 1 - 0)) less in
      let at = get_or-range_with_len 0 (most + 1 - 0) k d within in
      let upto = few in
      writable_number (codes "left ") (get_or (amounts 0 most) k d) refl (omega arith)
      (omega arith))

  names-bounded : HasWritableNames (bounded_task task most)
  names-bounded = record {
    atoms = All-append IsWritableName task.names (map counter_name (amounts 0 most)) names.atoms
        counter_names;
    actions = All-weaker (IsWhole (atoms (bounded_task task most)))
        (λ (action : Action). IsWritableName action.name) (λ a whole. whole.name)
        (bounded_task task most).actions whole_actions;
  }

  readable-bounded : length (canonical_of (bounded_task task most)) ≤ most_file_bytes
      → TaskText standard (canonical_of (bounded_task task most)) (bounded_task task most)
  readable-bounded short =
      readable (bounded_task task most) is_task-bounded is_task-bounded.start_rises
      is_task-bounded.goal_rises
      (All-weaker (IsWhole (atoms (bounded_task task most))) IsStored (λ a whole. whole.stored)
      (bounded_task task most).actions whole_actions)
      names-bounded short

pub read_back : (file text : List ℕ) (task : Strips) (most : ℕ) → IsBoundText file task most text
    → TaskText standard text (bounded_task task most)
read_back file text task most is =
    subst (λ bytes. TaskText standard bytes (bounded_task task most)) (sym is.written)
    (readable-bounded task most (is_task (pieces_of standard file) task is.read)
    (are_stored (pieces_of standard file) task is.read)
    (writable_names standard file task is.read) is.fits
    (subst (λ bytes. length bytes ≤ most_file_bytes) is.written is.short))

-- what is read back is the made task
same_made : (file text : List ℕ) (task made : Strips) (most : ℕ) → IsBoundText file task most text
    → TaskText standard text made → bounded_task task most ≡ made
same_made file text task made most is reads =
    one_task (pieces_of standard text) (bounded_task task most) made
    (read_back file text task most is) reads

pub read_solvable : (file text : List ℕ) (task made : Strips) (most : ℕ)
    → IsBoundText file task most text → TaskText standard text made
    → IsSolvable made ↔ IsSolvableWithin most task
read_solvable file text task made most is reads =
    let given = is_task (pieces_of standard file) task is.read in
    subst (λ (t : Strips). IsSolvable t ↔ IsSolvableWithin most task)
    (same_made file text task made most is reads)
    (within_of_plan task most given, plan_of_within task most given)

pub read_costs_more : (file text : List ℕ) (task made : Strips) (most : ℕ)
    → IsBoundText file task most text → TaskText standard text made → IsUnsolvable made
    → (list : List ℕ) → Solves task list → most < cost_of_list task list
read_costs_more file text task made most is reads none =
    costs_more task most (is_task (pieces_of standard file) task is.read)
    (subst IsUnsolvable (sym (same_made file text task made most is reads)) none)
