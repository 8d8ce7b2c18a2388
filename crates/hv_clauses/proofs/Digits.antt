-- Choices that have the clauses of the last negative operands in common.
use Rattle.std.proofs.Common.{◌≡◌, ℕ, zero, suc, ◌<◌, ◌≤◌, ◌+◌, ◌*◌, ◌/◌, ◌%◌, ◌∙◌, Bool, true}
use Rattle.std.proofs.Common.{false, List}
use Rattle.std.proofs.Common.{[], ◌∷◌, ◌++◌, Some, length, take, drop, slice_get, refl, sym, ap}
use Rattle.std.proofs.Common.{ap₂, arith, subst, inl, inr}
use Rattle.std.proofs.Math.Nat.{div-div-eq-div-mul, div-one, mul-div_cancel, mul-one}
use Rattle.std.proofs.lemmas.Bool.{cases_lt}
use Rattle.std.proofs.lemmas.List.{drop_all, drop_more, take-append-drop}
use Rattle.std.proofs.lemmas.Nat.{div_below, mul-le}
use Rattle.std.proofs.lemmas.Option.{get_or_from_slice_get, slice_get_within}
use Rattle.hv_task.specs.Strips.{Strips}
use Rattle.hv_sets.specs.declared.literal.Literal.{Literal}
use Rattle.hv_sets.specs.declared.operand.Operand.{Operand}
use Rattle.hv_sets.specs.Cost.{choices_of, clauses_of}
use Rattle.hv_clauses.specs.Store.{sizes_of}
use Rattle.hv_clauses.specs.Working.Choices.{AreChosenFalse, Breaks}
use Rattle.hv_clauses.specs.Working.Operands.{clauses_in}
use Rattle.hv_propagation.specs.Completion.{IsCompleted}
use Rattle.hv_clauses.specs.Working.Found.{AreFollowedRoots, IsMet}
use Rattle.hv_clauses.specs.Working.Front.{AreRefuted, FitsFrom, IsAdvanced, IsFront, IsNever}
use Rattle.hv_clauses.specs.Working.Front.{block_end, block_length}
use Rattle.hv_propagation.specs.Marks.{Agrees}
use Rattle.hv_clauses.specs.Working.Posed.{InEach, ProblemState, choices, formulas, size_in, sizes}
use Rattle.hv_clauses.specs.Working.Posed.{width}
use Rattle.hv_clauses.specs.Working.Problem.{AreLeft, FitsChoice, IsMissed, MissesClause}
use Rattle.hv_propagation.specs.Trail.{Grows, Knowledge, marks_of}
use Rattle.hv_clauses.proofs.Blocks.{below_end, div_parts, end_few, end_less, end_within, front_is}
use Rattle.hv_clauses.proofs.Blocks.{mod_more, rest_front, rest_less}
use Rattle.hv_clauses.proofs.Choosing.{breaks_known, choices_append, choices_more}
use Rattle.hv_clauses.proofs.Choosing.{chosen_false_extends, some_from_choices}
use Rattle.hv_propagation.proofs.Marked.{agrees_extends}
use Rattle.hv_clauses.proofs.OperandClauses.{clauses_of_is}
use Rattle.hv_clauses.proofs.OperandRounds.{breaks_parts, left_after}
use Rattle.hv_propagation.proofs.Trailed.{length-marks}

drop_here : (os : List Operand) (place : ℕ) (o : Operand) → slice_get os place ≡ Some o
    → drop place os ≡ o ∷ drop (place + 1) os
drop_here os place o here =
    drop_more os place o (slice_get_within os place o here)
    ∙ ap (λ x. x ∷ drop (place + 1) os) (get_or_from_slice_get os place o o here)

module _ (task : Strips) (formulas : ℕ → List (List Literal)) where
  -- what is left of a number after the digits of some operands
  left_div : (os : List Operand) (number : ℕ)
      → left_after task formulas os number ≡ number / choices_of task (sizes_of formulas) os
  left_div [] number = sym (div-one number)
  left_div (o ∷ os) number =
      let size = length (clauses_in task formulas o.which) in
      let rest = choices_of task (sizes_of formulas) os in
      left_div os (number / size)
      ∙ (div-div-eq-div-mul number size rest
      ∙ ap (λ c. number / (c * rest)) (sym (clauses_of_is task formulas o.which)))

module _ (p : ProblemState) where
  -- what fits a choice fits its clauses of the operands from a place on
  pub fits_from : (place number : ℕ) (state : List Bool) → FitsChoice p number state
      → FitsFrom p place (number / choices_of p.task (sizes p) (take place p.query.negative)) state
  fits_from place number state fits =
      let front = take place p.query.negative in
      let back = drop place p.query.negative in
      let whole : Breaks p.task (formulas p) p.effect (front ++ back) number state =
      subst (λ os. Breaks p.task (formulas p) p.effect os number state)
      (sym (take-append-drop place p.query.negative)) fits.outside in
      let parts = breaks_parts p.task (formulas p) p.effect front back number state whole in
      record {
        applies = fits.applies;
        inside = fits.inside;
        outside = subst (λ n. Breaks p.task (formulas p) p.effect back n state)
            (left_div p.task (formulas p) front number) parts.1;
      }

  -- One operand more.
  module _ (place rest : ℕ) (o : Operand) (here : slice_get p.query.negative place ≡ Some o)
      (count : ℕ) (is : count ≡ size_in p o.which) where
    size_is : count ≡ length (clauses_in p.task (formulas p) o.which)
    size_is = is ∙ clauses_of_is p.task (formulas p) o.which

    fits_parts : (state : List Bool) → FitsFrom p place rest state
        → MissesClause p o (rest % count) state × FitsFrom p (place + 1) (rest / count) state
    fits_parts state fits =
        let breaks : Breaks p.task (formulas p) p.effect (o ∷ drop (place + 1) p.query.negative)
        rest state =
        subst (λ os. Breaks p.task (formulas p) p.effect os rest state)
        (drop_here p.query.negative place o here) fits.outside in (
          subst (λ n. MissesClause p o (rest % n) state) (sym size_is) breaks.0,
          record {
            applies = fits.applies;
            inside = fits.inside;
            outside = subst (λ n. Breaks p.task (formulas p) p.effect
                (drop (place + 1) p.query.negative) (rest / n) state) (sym size_is) breaks.1;
          },
        )

    -- no state that is in each positive operand misses its clause
    pub held_never : ((state : List Bool) → InEach p state → MissesClause p o (rest % count) state
        → ⊥) → IsNever p place rest
    held_never never state size fits = never state fits.inside (fits_parts state fits).0

    module _ (digit : ℕ) (digit_is : digit ≡ rest % count) (old : Knowledge)
        (front : IsFront p (place + 1) (rest / count) old) where
      pub never_more : ((state : List Bool) → length state ≡ width p → InEach p state
          → MissesClause p o digit state → Agrees (marks_of old) state → ⊥) → IsNever p place rest
      never_more never state size fits =
          let parts = fits_parts state fits in
          never state size fits.inside (subst (λ n. MissesClause p o n state)
          (sym digit_is) parts.0) (front.follows state size parts.1)

      pub front_more : (new : Knowledge) → Grows old new
          → ((state : List Bool) → length state ≡ width p → InEach p state
          → MissesClause p o digit state → Agrees (marks_of old) state
          → Agrees (marks_of new) state) → IsMissed p o digit (marks_of new)
          → AreLeft p new (length new.trail) → IsFront p place rest new
      front_more new grown follows false_now left = record {
        wide = ap length grown.roots ∙ front.wide;
        follows = λ state size fits.
            let parts = fits_parts state fits in
            follows state size fits.inside
            (subst (λ n. MissesClause p o n state) (sym digit_is) parts.0)
            (front.follows state size parts.1);
        enabled = λ state agrees. front.enabled state
            (agrees_extends (marks_of old) (marks_of new) state grown.grows agrees);
        denied = subst (λ os. AreChosenFalse p.task (formulas p) p.effect os rest (marks_of new))
            (sym (drop_here p.query.negative place o here)) (
              subst (λ n. IsMissed p o n (marks_of new)) (digit_is ∙ ap (λ n. rest % n) size_is)
                  false_now,
              chosen_false_extends p.task (formulas p) p.effect (drop (place + 1) p.query.negative)
                  (rest / length (clauses_in p.task (formulas p) o.which)) (marks_of old)
                  (marks_of new) grown.grows
                  (subst (λ n. AreChosenFalse p.task (formulas p) p.effect
                  (drop (place + 1) p.query.negative) (rest / n) (marks_of old)) size_is
                  front.denied),
            );
        left = left;
      }

  -- before a clause is chosen of any operand
  pub front_start : (number : ℕ) (k : Knowledge) → AreFollowedRoots p k
      → IsFront p (length p.query.negative) number k
  front_start number k rooted = record {
    wide = rooted.wide;
    follows = λ state size fits. rooted.roots.follows state (size ∙ sym (length-marks k ∙
        rooted.wide))
        fits.applies fits.inside;
    enabled = rooted.roots.enabled;
    denied = subst (λ os. AreChosenFalse p.task (formulas p) p.effect os number (marks_of k))
        (sym (drop_all (length p.query.negative) p.query.negative (omega arith))) tt;
    left = rooted.left;
  }

  -- and once one is chosen of each
  pub front_completed : (number : ℕ) (k : Knowledge) (result : Bool) (built : List Bool)
      → length p.effect ≡ width p → IsFront p 0 number k → length built ≡ width p
      → IsCompleted (InEach p) (marks_of k) built result
      → IsMet result (width p) (FitsChoice p number) built
  front_completed number k true built wide front size one =
      let found = one.found refl in (
        size,
        record {
          applies = front.enabled built found.1;
          inside = found.0;
          outside = breaks_known p.task (formulas p) p.effect p.query.negative number (marks_of k)
              built (omega (arith, wide, size)) (length-marks k ∙ (front.wide ∙ sym size)) found.1
              front.denied;
        },
      )
  front_completed number k false built wide front size one = λ state long fits.
      one.refuted refl state (long ∙ sym (length-marks k ∙ front.wide)) fits.inside

  -- numbers up to which no choice fits
  pub refuted_none : (number : ℕ) → AreRefuted p number number
  refuted_none number m low high state size fits = omega (arith, low, high)

  pub refuted_then : (from middle upto : ℕ) → AreRefuted p from middle → AreRefuted p middle upto
      → AreRefuted p from upto
  refuted_then from middle upto first second m low high state size fits =
      elim (cases_lt m middle) [
        | inl less ↦ first m low less state size fits
        | inr past ↦ second m past high state size fits
      ]

-- How many choices there are of the operands up to a place, of the one there, and of all.
module _ (task : Strips) (sizes : ℕ → ℕ) (os : List Operand) (place : ℕ) (o : Operand)
    (here : slice_get os place ≡ Some o) where
  pub block_is : choices_of task sizes (take (place + 1) os)
      ≡ choices_of task sizes (take place os) * clauses_of task sizes o.which
  block_is =
      choices_more task sizes os place o (slice_get_within os place o here)
      ∙ ap (λ (x : Operand). choices_of task sizes (take place os) * clauses_of task sizes x.which)
      (get_or_from_slice_get os place o o here)

  pub total_is : choices_of task sizes os
      ≡ choices_of task sizes (take place os) * clauses_of task sizes o.which * choices_of task
      sizes (drop (place + 1) os)
  total_is =
      ap (choices_of task sizes) (sym (take-append-drop (place + 1) os))
      ∙ (choices_append task sizes (take (place + 1) os) (drop (place + 1) os)
      ∙ ap (λ n. n * choices_of task sizes (drop (place + 1) os)) block_is)

  module _ (some : 0 < choices_of task sizes os) where
    pub count_some : 0 < clauses_of task sizes o.which
    count_some =
        subst (λ (x : Operand). 0 < clauses_of task sizes x.which)
        (get_or_from_slice_get os place o o here)
        (some_from_choices task sizes os some place o (slice_get_within os place o here))

    pub part_some : 0 < choices_of task sizes (take place os)
    part_some =
        elim (cases_lt 0 (choices_of task sizes (take place os))) [
          | inl less ↦ less
          | inr none ↦
              let zero_part : choices_of task sizes (take place os) ≡ 0 = omega arith in
              let no : choices_of task sizes os ≡ 0 * clauses_of task sizes o.which * choices_of
              task sizes (drop (place + 1) os) =
              total_is ∙ ap (λ n. n * clauses_of task sizes o.which * choices_of task sizes
              (drop (place + 1) os)) zero_part in
              absurd (omega arith)
        ]

    pub part_is : choices_of task sizes (take (place + 1) os) / clauses_of task sizes o.which
        ≡ choices_of task sizes (take place os)
    part_is =
        ap (λ n. n / clauses_of task sizes o.which) block_is
        ∙ mul-div_cancel (choices_of task sizes (take place os)) count_some

-- How the blocks of numbers lie.
module _ (p : ProblemState) where
  block_total : (place : ℕ) → choices p
      ≡ block_length p place * choices_of p.task (sizes p) (drop place p.query.negative)
  block_total place =
      ap (choices_of p.task (sizes p)) (sym (take-append-drop place p.query.negative))
      ∙ choices_append p.task (sizes p) (take place p.query.negative) (drop place p.query.negative)

  -- all choices are in one block
  pub block_whole : (size : ℕ) → length p.query.negative ≤ size → choices p ≡ block_length p size
  block_whole size past =
      block_total size
      ∙ (ap (λ os. block_length p size * choices_of p.task (sizes p) os)
      (drop_all size p.query.negative past) ∙ mul-one (block_length p size))

  pub block_some : (place : ℕ) → 0 < choices p → 0 < block_length p place
  block_some place some =
      elim (cases_lt 0 (block_length p place)) [
        | inl less ↦ less
        | inr none ↦
            let rest = choices_of p.task (sizes p) (drop place p.query.negative) in
            let zero_size : block_length p place ≡ 0 = omega arith in
            let no : choices p ≡ 0 * rest = block_total place ∙ ap (λ n. n * rest) zero_size in
            absurd (omega arith)
      ]

  pub block_within : (place next : ℕ) → next < choices p → block_end next (block_length p place)
      ≤ choices p
  block_within place next less =
      let size = block_length p place in
      let rest = choices_of p.task (sizes p) (drop place p.query.negative) in
      let bound = end_within next size rest (block_some place (omega arith))
      (omega (arith, less, block_total place)) in
      omega (arith, bound, block_total place)

  pub advanced_then : (place later from middle upto : ℕ) (old new : Knowledge)
      → IsAdvanced p later from middle old → IsAdvanced p place middle upto new
      → IsAdvanced p place from upto new
  advanced_then place later from middle upto old new first second = record {
    ahead = let a = first.ahead in let b = second.ahead in omega arith;
    below = second.below;
    refuted = refuted_then p from middle upto first.refuted second.refuted;
    front = second.front;
  }

  pub advanced_start : (number cost size : ℕ) (k : Knowledge) → size ≡ length p.query.negative
      → cost ≡ choices p → number < cost → AreFollowedRoots p k → IsAdvanced p size number number k
  advanced_start number cost size k whole is less rooted = record {
    ahead = omega arith;
    below = omega (arith, is, less);
    refuted = refuted_none p number;
    front = subst (λ n. IsFront p n (number / block_length p size) k) (sym whole)
        (front_start p (number / block_length p size) k rooted);
  }

  -- The clauses of the operand at a place, one after the other.
  module _ (place next part count : ℕ) (o : Operand)
      (here : slice_get p.query.negative place ≡ Some o) (part_eq : part ≡ block_length p place)
      (count_eq : count ≡ size_in p o.which) (less : next < choices p) where
    some_choices : 0 < choices p
    some_choices = omega arith

    pub open_part : 0 < part
    open_part = subst (λ n. 0 < n) (sym part_eq)
        (part_some p.task (sizes p) p.query.negative place o here some_choices)

    pub open_count : 0 < count
    open_count = subst (λ n. 0 < n) (sym count_eq)
        (count_some p.task (sizes p) p.query.negative place o here some_choices)

    block_of : block_length p (place + 1) ≡ part * count
    block_of = block_is p.task (sizes p) p.query.negative place o here
        ∙ ap₂ (λ a b. a * b) (sym part_eq) (sym count_eq)

    total_of : choices p
        ≡ part * count * choices_of p.task (sizes p) (drop (place + 1) p.query.negative)
    total_of =
        total_is p.task (sizes p) p.query.negative place o here
        ∙ ap₂ (λ a b. a * b * choices_of p.task (sizes p) (drop (place + 1) p.query.negative))
        (sym part_eq) (sym count_eq)

    pub open_few : (next / part / count + 1) * count ≤ choices p
    open_few =
        end_few next part count open_part open_count
        (choices_of p.task (sizes p) (drop (place + 1) p.query.negative)) (choices p) total_of less

    pub open_less : (rest : ℕ) → rest < (next / part / count + 1) * count → rest * part < choices p
    open_less rest within =
        rest_less next part count open_part open_count
        (choices_of p.task (sizes p) (drop (place + 1) p.query.negative))
        (choices p) total_of less rest within

    pub open_front : (rest : ℕ) → next / part ≤ rest → rest < (next / part / count + 1) * count
        → next / block_length p (place + 1) ≡ rest / size_in p o.which
    open_front rest ahead within =
        ap (λ n. next / n) block_of
        ∙ (sym (front_is next part count open_part open_count)
        ∙ (sym (rest_front next part count open_part open_count rest ahead within)
        ∙ ap (λ n. rest / n) count_eq))

    -- no choice from the next one on fits that is in an earlier block
    abbrev pub NoneBefore : ℕ → Type 0
    NoneBefore rest =
        (number : ℕ) → next ≤ number → number / part < rest → (state : List Bool)
        → length state ≡ width p → FitsChoice p number state → ⊥

    pub open_more : (rest : ℕ) → NoneBefore rest → IsNever p place rest → NoneBefore (rest + 1)
    open_more rest none never number ahead below state size fits =
        elim (cases_lt (number / part) rest) [
          | inl low ↦ none number ahead low state size fits
          | inr high ↦
              let at : number / part ≡ rest = omega (arith, below, high) in
              never state size
              (subst (λ n. FitsFrom p place n state) (ap (λ b. number / b) (sym part_eq) ∙ at)
              (fits_from p place number state fits))
        ]

    -- the same of several, one after the other
    open_skip : (rest held : ℕ) → NoneBefore rest
        → ((k : ℕ) → k < held → IsNever p place (rest + k)) → NoneBefore (rest + held)
    open_skip rest zero none never = subst NoneBefore (let e : rest ≡ rest + 0 = omega arith in e)
        none
    open_skip rest (suc held) none never =
        subst NoneBefore (let e : rest + held + 1 ≡ rest + suc held = omega arith in e)
        (open_more (rest + held) (open_skip rest held none (λ k less. never k (omega arith)))
        (never held (omega arith)))

    -- where so many clauses of the operand are missed by no state that is in each positive operand
    module _ (rest held : ℕ) (upto : rest % count + held ≤ size_in p o.which) where
      pub open_held : NoneBefore rest
          → ((digit : ℕ) → rest % count ≤ digit → digit < rest % count + held
          → (state : List Bool) → InEach p state → MissesClause p o digit state → ⊥)
          → NoneBefore (rest + held)
      open_held none missed = open_skip rest held none (λ k early.
          let at = mod_more rest count k (omega (arith, upto, early, count_eq)) in
          held_never p place (rest + k) o here count count_eq (λ state inside misses.
          missed (rest % count + k) (omega arith) (omega (arith, early)) state inside
          (subst (λ n. MissesClause p o n state) at misses)))

      pub held_within : next / part ≤ rest → rest < (next / part / count + 1) * count
          → rest + held ≤ (next / part / count + 1) * count
      held_within ahead within =
          let same = rest_front next part count open_part open_count rest ahead within in
          let split = div_parts rest count in
          let whole : rest / count * count ≡ next / part / count * count =
          ap (λ n. n * count) same in
          omega (arith, upto, count_eq, split, whole)

    pub open_advanced : (rest found : ℕ) (k : Knowledge) → next ≤ found → found / part ≡ rest
        → rest < (next / part / count + 1) * count
        → NoneBefore rest → ((number : ℕ) → next ≤ number → number < found → number / part < rest)
        → IsFront p place rest k → IsAdvanced p place next found k
    open_advanced rest found k ahead at within none before front = record {
      ahead = ahead;
      below =
          let low : found < (rest + 1) * part = subst
          (λ n. found < (n + 1) * part) at (below_end found part open_part) in
          let high = mul-le (rest + 1) part ((next / part / count + 1) * count) part
          (omega (arith, within)) (omega arith) in
          let bound = end_less next part count open_part open_count
          (choices_of p.task (sizes p) (drop (place + 1) p.query.negative))
          (choices p) total_of less in
          omega arith;
      refuted = λ number low high state size fits. none number low (before number low high) state
          size fits;
      front = subst (λ n. IsFront p place n k) (sym (ap (λ b. found / b) (sym part_eq) ∙ at)) front;
    }

    pub open_refuted : (end : ℕ) → (next / part / count + 1) * count ≤ end → NoneBefore end
        → AreRefuted p next (block_end next (block_length p (place + 1)))
    open_refuted end past none number low high state size fits =
        let q = next / (part * count) in
        let same : block_end next (block_length p (place + 1))
        ≡ (q + 1) * (part * count) = ap (λ n. (next / n + 1) * n) block_of in
        let turned : (next / part / count + 1) * count * part ≡ (q + 1) * count * part =
        ap (λ n. (n + 1) * count * part) (front_is next part count open_part open_count) in
        let within = div_below number part ((next / part / count + 1) * count) open_part
        (omega (arith, high, same, turned)) in
        none number low (omega (arith, within, past)) state size fits
