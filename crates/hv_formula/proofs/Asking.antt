-- What is known of literals that are assumed one after the other and taken back.
use Rattle.std.proofs.Common.{◌≡◌, ℕ, ◌<◌, ◌≤◌, ◌∙◌, ◌&&◌, Bool, true, false, not, cond, List}
use Rattle.std.proofs.Common.{[], ◌∷◌, ◌++◌, length, get_or, take, None, refl, sym, ap, ap₂}
use Rattle.std.proofs.Common.{arith, inl, inr, subst, ◌||◌, suc, zero, Some}
use Rattle.std.proofs.Math.Bool.{beq}
use Rattle.std.proofs.lemmas.Bool.{and_parts, cases_lt, false_from_ne_true, not-true, not-false}
use Rattle.std.proofs.lemmas.List.{length_push, get_or_push, get_or_append_left, length-append}
use Rattle.std.proofs.lemmas.List.{length-take-le, take-append-le, take-take, take_all, get_or-take}
use Rattle.hv_task.specs.State.{has_atom}
use Rattle.hv_sets.specs.declared.literal.Literal.{Literal}
use Rattle.hv_sets.specs.Truth.{in_clauses, in_cube, in_literal}
use Rattle.hv_sets.specs.Walks.{Meets}
use Rattle.hv_sets.proofs.Truths.{in_push}
use Rattle.hv_formula.specs.Clausal.{FormulaState, in_formula}
use Rattle.hv_propagation.specs.Marks.{known, over, Agrees}
use Rattle.hv_formula.specs.Working.Asking.{FollowsFrom, FollowsFromEach, IsAskedAlong}
use Rattle.hv_formula.specs.Working.Asking.{knowledge_upto}
use Rattle.hv_propagation.specs.Chase.{AreKept, IsFollowed}
use Rattle.hv_propagation.specs.Forced.{AreForced, AreNever}
use Rattle.hv_propagation.specs.Completion.{IsCompleted}
use Rattle.hv_propagation.specs.Trail.{Grows, Knowledge, marked, marks_of}
use Rattle.hv_propagation.proofs.Chasing.{grown_by, grown_more, kept_settled, longer}
use Rattle.hv_propagation.specs.Working.Laws.{kept_grown}
use Rattle.hv_propagation.proofs.Chasing.{marked_more, undone_same}
use Rattle.hv_propagation.proofs.Marked.{agrees_extends, agrees_write, has_atom-literal, over-nil}
use Rattle.hv_propagation.proofs.Steps.{IsMarked}
use Rattle.hv_propagation.proofs.Trailed.{length-marked, length-marks}

-- a fact of each place of a list with one more item
pushed : (P : ℕ → ℕ → Type 0) (points : List ℕ) (p : ℕ)
    → ((i : ℕ) → i < length points → P i (get_or points i 0)) → P (length points) p
    → (i : ℕ) → i < length (points ++ p ∷ []) → P i (get_or (points ++ p ∷ []) i 0)
pushed P points p before here i less =
    let size = length_push points p in
    elim (cases_lt i (length points)) [
      | inl early ↦ subst (λ x. P i x) (sym (get_or_append_left points (p ∷ []) 0 i early))
          (before i early)
      | inr late ↦
          let at : i ≡ length points = omega (arith, size) in
          subst (λ x. P i x) (sym (get_or_push points p 0 i (sym at)))
          (subst (λ j. P j p) (sym at) here)
    ]

literal_from : (l : Literal) (s : List Bool) → has_atom s l.atom ≡ l.positive
    → in_literal l s ≡ true
literal_from l s h = by l.positive (has_atom s l.atom) h
  where
    by : (sign flag : Bool) → flag ≡ sign → cond sign flag (not flag) ≡ true
    by true flag e = e
    by false true e = sym e
    by false false e = refl

-- a list that rises, with one more item that is no less than any
pushed_rises : (xs : List ℕ) (x : ℕ)
    → ((i j : ℕ) → i ≤ j → j < length xs → get_or xs i 0 ≤ get_or xs j 0)
    → ((i : ℕ) → i < length xs → get_or xs i 0 ≤ x)
    → (i j : ℕ) → i ≤ j → j < length (xs ++ x ∷ [])
    → get_or (xs ++ x ∷ []) i 0 ≤ get_or (xs ++ x ∷ []) j 0
pushed_rises xs x rises below i j h less =
    pushed (λ m y. i ≤ m → get_or (xs ++ x ∷ []) i 0 ≤ y) xs x
    (λ m early g. subst (λ z. z ≤ get_or xs m 0)
    (sym (get_or_append_left xs (x ∷ []) 0 i (omega (arith, g, early)))) (rises i m g early))
    (λ g. pushed (λ m y. y ≤ x) xs x below (omega arith) i
    (let size = length_push xs x in omega (arith, g, size)))
    j less h

-- the first place of an item of a list that rises
first_at : (xs : List ℕ) (x at : ℕ)
    → ((i j : ℕ) → i ≤ j → j < length xs → get_or xs i 0 ≤ get_or xs j 0)
    → at < length xs → get_or xs at 0 ≡ x
    → (f : ℕ) × (f ≤ at) × (get_or xs f 0 ≡ x) × ((i : ℕ) → i < f → get_or xs i 0 < x)
first_at xs x zero rises less is = (0, omega arith, is, λ i early. absurd (omega (arith, early)))
first_at xs x (suc at) rises less is = elim (cases_lt (get_or xs at 0) x) [
  | inl lower ↦ (
    suc at,
    omega arith,
    is,
    λ i early.
        let up = rises i at (omega (arith, early)) (omega (arith, less)) in
        omega (arith, up, lower),
  )
  | inr late ↦
      let up = rises at (suc at) (omega arith) less in
      let found = first_at xs x at rises (omega (arith, less)) (omega (arith, late, up, is)) in
      (found.0, omega (arith, found.1), found.2, found.3)
]

-- what is in a cube is in that of its first literals
in_take : (ls : List Literal) (n : ℕ) (s : List Bool) → in_cube ls s ≡ true
    → in_cube (take n ls) s ≡ true
in_take ls zero s h = refl
in_take [] (suc n) s h = refl
in_take (l ∷ ls) (suc n) s h =
    let both = and_parts (in_literal l s) (in_cube ls s) h in
    ap₂ (λ a b. a && b) both.0 (in_take ls n s both.1)

pub never : {P : Type 0} → false ≡ true → P
never e = absurd (let is : false ≡ true = e in cc)

-- a value that is told to be another one, or not to be
pub told_same : (one other : Bool) → not (beq one other) ≡ false → one ≡ other
told_same true true e = refl
told_same true false e = never (sym e)
told_same false true e = never (sym e)
told_same false false e = refl

pub told_other : (one other : Bool) → not (beq one other) ≡ true → one ≡ not other
told_other true true e = never e
told_other true false e = refl
told_other false true e = refl
told_other false false e = never e

-- no answer is its own opposite
not_itself : (b : Bool) → not b ≡ b → ⊥
not_itself true e = never e
not_itself false e = never (sym e)

module _ (Met : List Bool → Type 0) (Left : Knowledge → ℕ → Type 0) where
  upto_grown : (k new : Knowledge) (p : ℕ) → Grows k new → p ≤ length k.trail
      → knowledge_upto new p ≡ knowledge_upto k p
  upto_grown k new p g h =
      ap₂ (λ (b : List ℕ) (ls : List Literal). let r : Knowledge = record
      { roots = b; trail = ls } in r) g.roots
      (ap (take p) g.more.1 ∙ take-append-le p k.trail g.more.0 h)

  -- What is known follows from the literals before one that was put on the trail.
  module _ (k : Knowledge) (place : ℕ) (starts : List ℕ) (literals : List Literal)
      (counts : List ℕ) (broken : Bool) where
    -- more of the trail was followed up
    pub each_followed : (new : Knowledge) (to : ℕ) (result : Bool)
        → FollowsFromEach Met Left k place starts literals counts false false
        → IsFollowed Met k new result → to ≤ length new.trail → (result ≡ true → Left new to)
        → FollowsFromEach Met Left new to starts literals counts (not result) false
    each_followed new to result c followed within left =
        let grown = grown_by Met k new result followed in
        let long = longer Met k new result followed in
        let wide = ap length followed.roots in
        record {
          firm = c.firm;
          firm_within = c.firm_within;
          firm_counts = c.firm_counts;
          sizes = c.sizes;
          counts_rise = c.counts_rise;
          counts_within = c.counts_within;
          starts_rise = c.starts_rise;
          starts_within = λ i less. omega (arith, c.starts_within i less, long);
          before = λ i less early.
              subst (λ r. FollowsFrom Met Left r (take i literals))
              (sym (upto_grown k new (get_or starts (get_or counts i 0) 0) grown
              (c.starts_within (get_or counts i 0) early))) (c.before i less early);
          place_within = within;
          left = λ is. left (not-false result is);
          follows = λ s size met inside. followed.follows s (size ∙ wide) met
              (c.follows s (size ∙ wide) met inside);
          has = λ is i less some s size agrees. c.has refl i less some s (size ∙ wide)
              (agrees_extends (marks_of k) (marks_of new) s grown.grows agrees);
          none = λ is s size met inside. followed.broken (not-true result is) s (size ∙ wide) met
              (c.follows s (size ∙ wide) met inside);
          none_here = λ is. never is;
        }

    -- one literal more of which something was known
    pub each_pushed : (l : Literal) (clashes : Bool)
        → FollowsFromEach Met Left k place starts literals counts broken false
        → (broken ≡ false → clashes ≡ false → known (marks_of k) l.atom ≡ Some l.positive)
        → (clashes ≡ true → known (marks_of k) l.atom ≡ Some (not l.positive))
        → FollowsFromEach Met Left k place starts (literals ++ l ∷ [])
        (counts ++ length starts ∷ []) broken clashes
    each_pushed l clashes c same other =
        let size_c = length_push counts (length starts) in
        let size_l = length_push literals l in
        let front : (i : ℕ) → i ≤ length literals
        → take i (literals ++ l ∷ []) ≡ take i literals =
        λ i less. take-append-le i literals (l ∷ []) less in
        record {
          firm = c.firm;
          firm_within = omega (arith, c.firm_within, size_l);
          firm_counts = λ i less. subst (λ x. x < length starts)
              (sym (get_or_append_left counts (length starts ∷ []) 0 i
              (omega (arith, less, c.firm_within, c.sizes)))) (c.firm_counts i less);
          sizes = omega (arith, c.sizes, size_c, size_l);
          counts_rise = pushed_rises counts (length starts) c.counts_rise c.counts_within;
          counts_within = pushed (λ i x. x ≤ length starts) counts (length starts) c.counts_within
              (omega arith);
          starts_rise = c.starts_rise;
          starts_within = c.starts_within;
          before = pushed (λ i x. x < length starts → FollowsFrom Met Left
              (knowledge_upto k (get_or starts x 0)) (take i (literals ++ l ∷ []))) counts
              (length starts)
              (λ i less early. subst (λ ls. FollowsFrom Met Left
              (knowledge_upto k (get_or starts (get_or counts i 0) 0)) ls)
              (sym (front i (omega (arith, less, c.sizes)))) (c.before i less early))
              (λ less. absurd (omega (arith, less)));
          place_within = c.place_within;
          left = c.left;
          follows = λ s size met inside. c.follows s size met
              (sym (ap (λ ls. in_cube ls s) (front c.firm c.firm_within)) ∙ inside);
          has = λ sound i less some s size agrees. elim (cases_lt (length literals) i) [
            | inl late ↦
                let clear : clashes ≡ false = false_from_ne_true clashes
                (λ is. omega (arith, late, some is, size_l)) in
                let sits : has_atom s l.atom ≡ l.positive = agrees l.atom l.positive
                (same sound clear) in
                ap (λ ls. in_cube ls s) (take_all i (literals ++ l ∷ [])
                (omega (arith, late, size_l)))
                ∙ in_push literals l s
                ∙ ap₂ (λ a b. a && b) (ap (λ ls. in_cube ls s)
                (sym (take_all (length literals) literals (omega arith)))
                ∙ c.has sound (length literals) (omega arith) (λ is. never is) s size agrees)
                (literal_from l s sits)
            | inr early ↦
                let low : i ≤ length literals = omega (arith, early) in
                ap (λ ls. in_cube ls s) (front i low)
                ∙ c.has sound i low (λ is. never is) s size agrees
          ];
          none = λ is s size met inside. c.none is s size met
              (sym (ap (λ ls. in_cube ls s) (front c.firm c.firm_within)) ∙ inside);
          none_here = λ is s size met inside.
              let both = and_parts (in_cube literals s) (in_literal l s)
              (sym (in_push literals l s) ∙ inside) in
              let sits : has_atom s l.atom ≡ not l.positive =
              c.follows s size met (in_take literals c.firm s both.0) l.atom (not l.positive)
              (other is) in
              not_itself l.positive (sym sits ∙ has_atom-literal l s both.1);
        }

    -- all follows from so many literals, where no later one was put on the trail
    here_from : FollowsFromEach Met Left k (length k.trail) starts literals counts false false
        → (i : ℕ) → i ≤ length literals
        → (i < length counts → length starts ≤ get_or counts i 0)
        → FollowsFrom Met Left k (take i literals)
    here_from c i less last =
        let late : c.firm ≤ i = elim (cases_lt i c.firm) [
          | inl early ↦
              absurd (let one = c.firm_counts i early in
              let two = last (omega (arith, early, c.firm_within, c.sizes)) in
              omega (arith, one, two))
          | inr late ↦ omega (arith, late)
        ] in
        record {
          left = c.left refl;
          follows = λ s size met inside. c.follows s size met
              (sym (ap (λ ls. in_cube ls s) (take-take c.firm i literals late))
              ∙ in_take (take i literals) c.firm s inside);
          has = λ s size agrees. c.has refl i less (λ is. never is) s size agrees;
        }

    -- one literal more of which nothing was known
    pub each_written : (new : Knowledge) (l : Literal)
        → FollowsFromEach Met Left k (length k.trail) starts literals counts false false
        → l.atom < length k.roots → known (marks_of k) l.atom ≡ None
        → new ≡ record { roots = k.roots; trail = k.trail ++ l ∷ [] }
        → Left new (length k.trail)
        → FollowsFromEach Met Left new (length k.trail) (starts ++ length k.trail ∷ [])
        (literals ++ l ∷ []) (counts ++ length starts ∷ []) false false
    each_written new l c below nothing e left =
        let marked : IsMarked l (marks_of k) (marks_of new) =
        subst (λ (r : Knowledge). IsMarked l (marks_of k) (marks_of r)) (sym e)
        (marked_more k l below) in
        let grown : Grows k new = subst (λ (r : Knowledge). Grows k r) (sym e)
        (grown_more k l below nothing) in
        let wide = ap length grown.roots in
        let long : length k.trail ≤ length new.trail = omega
        (arith, ap length grown.more.1, length-append k.trail grown.more.0) in
        let back : knowledge_upto new (length k.trail) ≡ k = undone_same k new
        (knowledge_upto new (length k.trail)) grown refl in
        let size_c = length_push counts (length starts) in
        let size_l = length_push literals l in
        let size_s = length_push starts (length k.trail) in
        let front : (i : ℕ) → i ≤ length literals
        → take i (literals ++ l ∷ []) ≡ take i literals =
        λ i less. take-append-le i literals (l ∷ []) less in
        let most = pushed (λ i x. x ≤ length starts) counts (length starts) c.counts_within
        (omega arith) in
        let here : (i : ℕ) → i ≤ length literals
        → (i < length counts → length starts ≤ get_or counts i 0)
        → FollowsFrom Met Left (knowledge_upto new (get_or (starts ++ length k.trail ∷ [])
        (length starts) 0)) (take i (literals ++ l ∷ [])) =
        λ i less last.
        subst (λ x. FollowsFrom Met Left (knowledge_upto new x) (take i (literals ++ l ∷ [])))
        (sym (get_or_push starts (length k.trail) 0 (length starts) refl))
        (subst (λ r. FollowsFrom Met Left r (take i (literals ++ l ∷ []))) (sym back)
        (subst (λ ls. FollowsFrom Met Left k ls) (sym (front i less))
        (here_from c i less last))) in
        record {
          firm = length (literals ++ l ∷ []);
          firm_within = omega arith;
          firm_counts = λ i less. (let up = most i (omega (arith, less, size_l, size_c, c.sizes)) in
              omega (arith, up, size_s));
          sizes = omega (arith, c.sizes, size_c, size_l);
          counts_rise = pushed_rises counts (length starts) c.counts_rise c.counts_within;
          counts_within = λ i less. omega (arith, most i less, size_s);
          starts_rise = pushed_rises starts (length k.trail) c.starts_rise c.starts_within;
          starts_within = pushed (λ i x. x ≤ length new.trail) starts (length k.trail)
              (λ i less. omega (arith, c.starts_within i less, long)) long;
          before = pushed (λ i x. x < length (starts ++ length k.trail ∷ [])
              → FollowsFrom Met Left
              (knowledge_upto new (get_or (starts ++ length k.trail ∷ []) x 0))
              (take i (literals ++ l ∷ []))) counts (length starts)
              (λ i less _. elim (cases_lt (get_or counts i 0) (length starts)) [
                | inl early ↦
                    subst (λ x. FollowsFrom Met Left (knowledge_upto new x)
                    (take i (literals ++ l ∷ [])))
                    (sym (get_or_append_left starts (length k.trail ∷ []) 0 (get_or counts i 0)
                    early))
                    (subst (λ r. FollowsFrom Met Left r (take i (literals ++ l ∷ [])))
                    (sym (upto_grown k new (get_or starts (get_or counts i 0) 0) grown
                    (c.starts_within (get_or counts i 0) early)))
                    (subst (λ ls. FollowsFrom Met Left
                    (knowledge_upto k (get_or starts (get_or counts i 0) 0)) ls)
                    (sym (front i (omega (arith, less, c.sizes)))) (c.before i less early)))
                | inr late ↦
                    let at : get_or counts i 0 ≡ length starts = omega
                    (arith, late, c.counts_within i less) in
                    subst (λ x. FollowsFrom Met Left (knowledge_upto new
                    (get_or (starts ++ length k.trail ∷ []) x 0)) (take i (literals ++ l ∷ [])))
                    (sym at)
                    (here i (omega (arith, less, c.sizes)) (λ _. omega (arith, at)))
              ])
              (λ _. here (length counts) (omega (arith, c.sizes))
              (λ less. absurd (omega (arith, less))));
          place_within = long;
          left = λ _. left;
          follows = λ s size met inside.
              let both = and_parts (in_cube literals s) (in_literal l s)
              (sym (in_push literals l s)
              ∙ (sym (ap (λ ls. in_cube ls s) (take_all (length (literals ++ l ∷ []))
              (literals ++ l ∷ []) (omega arith))) ∙ inside)) in
              agrees_write (marks_of k) (marks_of new) l.atom l.positive s marked.here
              marked.others (has_atom-literal l s both.1)
              (c.follows s (size ∙ wide) met (in_take literals c.firm s both.0));
          has = λ _ i less _ s size agrees.
              let old = agrees_extends (marks_of k) (marks_of new) s grown.grows agrees in
              elim (cases_lt (length literals) i) [
                | inl late ↦
                    ap (λ ls. in_cube ls s) (take_all i (literals ++ l ∷ [])
                    (omega (arith, late, size_l)))
                    ∙ in_push literals l s
                    ∙ ap₂ (λ a b. a && b) (ap (λ ls. in_cube ls s)
                    (sym (take_all (length literals) literals (omega arith)))
                    ∙ c.has refl (length literals) (omega arith) (λ is. never is) s (size ∙ wide)
                    old)
                    (literal_from l s (agrees l.atom l.positive marked.here))
                | inr early ↦
                    let low : i ≤ length literals = omega (arith, early) in
                    ap (λ ls. in_cube ls s) (front i low)
                    ∙ c.has refl i low (λ is. never is) s (size ∙ wide) old
              ];
          none = λ is. never is;
          none_here = λ is. never is;
        }

    -- all but the first so many taken back, of which none was put on the trail
    pub each_kept : (clashes : Bool) (depth : ℕ)
        → FollowsFromEach Met Left k place starts literals counts broken clashes
        → depth < length literals → length starts ≤ get_or counts depth 0
        → FollowsFromEach Met Left k place starts (take depth literals) (take depth counts) broken
        false
    each_kept clashes depth c less last =
        let size_l = length-take-le depth literals (omega (arith, less)) in
        let size_c = length-take-le depth counts (omega (arith, less, c.sizes)) in
        let at : (i : ℕ) → i < depth → get_or (take depth counts) i 0 ≡ get_or counts i 0 =
        λ i early. get_or-take depth counts i 0 early in
        let late : c.firm ≤ depth = elim (cases_lt depth c.firm) [
          | inl early ↦ absurd (let one = c.firm_counts depth early in omega (arith, one, last))
          | inr late ↦ omega (arith, late)
        ] in
        let front : (i : ℕ) → i ≤ depth → take i (take depth literals) ≡ take i literals =
        λ i low. take-take i depth literals low in
        record {
          firm = c.firm;
          firm_within = omega (arith, late, size_l);
          firm_counts = λ i early. subst (λ x. x < length starts)
              (sym (at i (omega (arith, early, late)))) (c.firm_counts i early);
          sizes = size_c ∙ sym size_l;
          counts_rise = λ i j h early.
              let one = at i (omega (arith, h, early, size_c)) in
              let two = at j (omega (arith, early, size_c)) in
              let up = c.counts_rise i j h (omega (arith, early, size_c, less, c.sizes)) in
              omega (arith, one, two, up);
          counts_within = λ i early.
              let one = at i (omega (arith, early, size_c)) in
              let up = c.counts_within i (omega (arith, early, size_c, less, c.sizes)) in
              omega (arith, one, up);
          starts_rise = c.starts_rise;
          starts_within = c.starts_within;
          before = λ i early.
              let low : i < depth = omega (arith, early, size_c) in
              subst (λ x. x < length starts → FollowsFrom Met Left
              (knowledge_upto k (get_or starts x 0)) (take i (take depth literals)))
              (sym (at i low))
              (λ some. subst (λ ls. FollowsFrom Met Left
              (knowledge_upto k (get_or starts (get_or counts i 0) 0)) ls)
              (sym (front i (omega (arith, low))))
              (c.before i (omega (arith, low, less, c.sizes)) some));
          place_within = c.place_within;
          left = c.left;
          follows = λ s size met inside. c.follows s size met
              (sym (ap (λ ls. in_cube ls s) (front c.firm late)) ∙ inside);
          has = λ sound i low _ s size agrees.
              let within : i ≤ depth = omega (arith, low, size_l) in
              ap (λ ls. in_cube ls s) (front i within)
              ∙ c.has sound i (omega (arith, within, less)) (λ _. omega (arith, within, less)) s
              size agrees;
          none = λ is s size met inside. c.none is s size met
              (sym (ap (λ ls. in_cube ls s) (front c.firm late)) ∙ inside);
          none_here = λ is. never is;
        }

    -- the same where one was, before which so many were
    pub each_back : (clashes : Bool) (depth count : ℕ)
        → FollowsFromEach Met Left k place starts literals counts broken clashes
        → depth < length literals → get_or counts depth 0 ≡ count → count < length starts
        → FollowsFromEach Met Left (knowledge_upto k (get_or starts count 0))
        (get_or starts count 0) (take count starts) (take depth literals) (take depth counts) false
        false
    each_back clashes depth count c less is some =
        let start = get_or starts count 0 in
        let size_l = length-take-le depth literals (omega (arith, less)) in
        let size_c = length-take-le depth counts (omega (arith, less, c.sizes)) in
        let size_s = length-take-le count starts (omega (arith, some)) in
        let size_t = length-take-le start k.trail (c.starts_within count some) in
        let at : (i : ℕ) → i < depth → get_or (take depth counts) i 0 ≡ get_or counts i 0 =
        λ i early. get_or-take depth counts i 0 early in
        let front : (i : ℕ) → i ≤ depth → take i (take depth literals) ≡ take i literals =
        λ i low. take-take i depth literals low in
        let first = first_at counts count depth c.counts_rise
        (omega (arith, less, c.sizes)) is in
        let firm = first.0 in
        let low : firm ≤ depth = first.1 in
        let of_count : (i : ℕ) → i ≤ depth → get_or counts i 0 ≡ count
        → FollowsFrom Met Left (knowledge_upto k start) (take i literals) =
        λ i within same. subst (λ x. x < length starts → FollowsFrom Met Left
        (knowledge_upto k (get_or starts x 0)) (take i literals)) same
        (c.before i (omega (arith, within, less, c.sizes))) some in
        let then = of_count firm low first.2 in
        let here = of_count depth (omega arith) is in
        record {
          firm = firm;
          firm_within = omega (arith, low, size_l);
          firm_counts = λ i early.
              let one = at i (omega (arith, early, low)) in
              let up = first.3 i early in
              omega (arith, one, up, size_s);
          sizes = size_c ∙ sym size_l;
          counts_rise = λ i j h early.
              let one = at i (omega (arith, h, early, size_c)) in
              let two = at j (omega (arith, early, size_c)) in
              let up = c.counts_rise i j h (omega (arith, early, size_c, less, c.sizes)) in
              omega (arith, one, two, up);
          counts_within = λ i early.
              let one = at i (omega (arith, early, size_c)) in
              let up = c.counts_rise i depth (omega (arith, early, size_c))
              (omega (arith, less, c.sizes)) in
              omega (arith, one, up, is, size_s);
          starts_rise = λ i j h early.
              let one = get_or-take count starts i 0 (omega (arith, h, early, size_s)) in
              let two = get_or-take count starts j 0 (omega (arith, early, size_s)) in
              let up = c.starts_rise i j h (omega (arith, early, size_s, some)) in
              omega (arith, one, two, up);
          starts_within = λ i early.
              let one = get_or-take count starts i 0 (omega (arith, early, size_s)) in
              let up = c.starts_rise i count (omega (arith, early, size_s)) some in
              omega (arith, one, up, size_t);
          before = λ i early.
              let within : i < depth = omega (arith, early, size_c) in
              subst (λ x. x < length (take count starts) → FollowsFrom Met Left
              (knowledge_upto (knowledge_upto k start) (get_or (take count starts) x 0))
              (take i (take depth literals)))
              (sym (at i within))
              (λ lower. back_to count c some i (omega (arith, within, less, c.sizes))
              (omega (arith, lower, size_s)) (take i (take depth literals))
              (front i (omega (arith, within))));
          place_within = omega (arith, size_t);
          left = λ _. subst (λ n. Left (knowledge_upto k start) n) size_t then.left;
          follows = λ s size met inside. then.follows s size met
              (sym (ap (λ ls. in_cube ls s) (front firm low)) ∙ inside);
          has = λ _ i within _ s size agrees. in_take (take depth literals) i s
              (here.has s size agrees);
          none = λ no. never no;
          none_here = λ no. never no;
        }
      where
        back_to : {clashes : Bool} (count : ℕ)
            → FollowsFromEach Met Left k place starts literals counts broken clashes
            → count < length starts → (i : ℕ) → i < length counts → get_or counts i 0 < count
            → (ls : List Literal) → ls ≡ take i literals
            → FollowsFrom Met Left (knowledge_upto (knowledge_upto k (get_or starts count 0))
            (get_or (take count starts) (get_or counts i 0) 0)) ls
        back_to count c some i less lower ls same =
            let x = get_or counts i 0 in
            let up = c.starts_rise x count (omega (arith, lower)) some in
            let now : knowledge_upto (knowledge_upto k (get_or starts count 0)) (get_or starts x 0)
            ≡ knowledge_upto k (get_or starts x 0) =
            ap (λ (ls : List Literal). let r : Knowledge = record { roots = k.roots; trail = ls } in
            r) (take-take (get_or starts x 0) (get_or starts count 0) k.trail up) in
            subst (λ y. FollowsFrom Met Left (knowledge_upto
            (knowledge_upto k (get_or starts count 0)) y) ls)
            (sym (get_or-take count starts x 0 lower))
            (subst (λ r. FollowsFrom Met Left r ls) (sym now)
            (subst (λ l. FollowsFrom Met Left (knowledge_upto k (get_or starts x 0)) l) (sym same)
            (c.before i less (omega (arith, lower, some)))))

-- A question about a formula.
module _ (f : FormulaState) where
  -- more of the trail was followed up
  pub asked_followed : (clauses : List (List Literal)) (k new : Knowledge) (place to : ℕ)
      (starts : List ℕ) (literals : List Literal) (counts : List ℕ) (result : Bool)
      → clauses ≡ f.clauses → IsAskedAlong f k place starts literals counts false false
      → IsFollowed (λ state. in_clauses clauses (over [] state) ≡ true) k new result
      → to ≤ length new.trail → (result ≡ true → AreKept [] clauses new to)
      → IsAskedAlong f new to starts literals counts (not result) false
  asked_followed clauses k new place to starts literals counts result same a followed within left =
      record {
        size = ap length followed.roots ∙ a.size;
        each = each_followed (λ state. in_clauses f.clauses (over [] state) ≡ true)
            (AreKept [] f.clauses) k place starts literals counts false new to result a.each
            (subst (λ cs. IsFollowed (λ state. in_clauses cs (over [] state) ≡ true) k new result)
            same followed) within
            (λ is. subst (λ cs. AreKept [] cs new to) same (left is));
      }

  -- one literal more of which something was known
  pub asked_pushed : (k : Knowledge) (place : ℕ) (starts : List ℕ) (literals : List Literal)
      (counts : List ℕ) (broken : Bool) (l : Literal) (clashes : Bool)
      → IsAskedAlong f k place starts literals counts broken false
      → (broken ≡ false → clashes ≡ false → known (marks_of k) l.atom ≡ Some l.positive)
      → (clashes ≡ true → known (marks_of k) l.atom ≡ Some (not l.positive))
      → IsAskedAlong f k place starts (literals ++ l ∷ []) (counts ++ length starts ∷ []) broken
      clashes
  asked_pushed k place starts literals counts broken l clashes a same other = record {
    size = a.size;
    each = each_pushed (λ state. in_clauses f.clauses (over [] state) ≡ true)
        (AreKept [] f.clauses) k place starts literals counts broken l clashes a.each same other;
  }

  -- one literal more of which nothing was known
  pub asked_written : (k new : Knowledge) (starts : List ℕ) (literals : List Literal)
      (counts : List ℕ) (l : Literal)
      → IsAskedAlong f k (length k.trail) starts literals counts false false
      → l.atom < length k.roots → known (marks_of k) l.atom ≡ None
      → new ≡ record { roots = k.roots; trail = k.trail ++ l ∷ [] }
      → IsAskedAlong f new (length k.trail) (starts ++ length k.trail ∷ []) (literals ++ l ∷ [])
      (counts ++ length starts ∷ []) false false
  asked_written k new starts literals counts l a below nothing e = record {
    size = ap (λ (r : Knowledge). length r.roots) e ∙ a.size;
    each = each_written (λ state. in_clauses f.clauses (over [] state) ≡ true)
        (AreKept [] f.clauses) k 0 starts literals counts false new l a.each below nothing e
        (kept_grown [] f.clauses k new (length k.trail)
        (subst (λ (r : Knowledge). Grows k r) (sym e) (grown_more k l below nothing)) (omega arith)
        (a.each.left refl));
  }

  -- all but the first so many taken back
  pub asked_kept : (k : Knowledge) (place : ℕ) (starts : List ℕ) (literals : List Literal)
      (counts : List ℕ) (broken clashes : Bool) (depth : ℕ)
      → IsAskedAlong f k place starts literals counts broken clashes → depth < length literals
      → length starts ≤ get_or counts depth 0
      → IsAskedAlong f k place starts (take depth literals) (take depth counts) broken false
  asked_kept k place starts literals counts broken clashes depth a less last = record {
    size = a.size;
    each = each_kept (λ state. in_clauses f.clauses (over [] state) ≡ true) (AreKept [] f.clauses) k
        place starts literals counts broken clashes depth a.each less last;
  }

  pub asked_back : (k : Knowledge) (place : ℕ) (starts : List ℕ) (literals : List Literal)
      (counts : List ℕ) (broken clashes : Bool) (depth count : ℕ)
      → IsAskedAlong f k place starts literals counts broken clashes → depth < length literals
      → get_or counts depth 0 ≡ count → count < length starts
      → IsAskedAlong f (knowledge_upto k (get_or starts count 0)) (get_or starts count 0)
      (take count starts) (take depth literals) (take depth counts) false false
  asked_back k place starts literals counts broken clashes depth count a less is some = record {
    size = a.size;
    each = each_back (λ state. in_clauses f.clauses (over [] state) ≡ true) (AreKept [] f.clauses) k
        place starts literals counts broken clashes depth count a.each less is some;
  }

  -- where nothing is refuted
  pub asked_open : (k : Knowledge) (place : ℕ) (starts : List ℕ) (literals : List Literal)
      (counts : List ℕ) (broken clashes : Bool)
      → IsAskedAlong f k place starts literals counts broken clashes
      → not (broken || clashes) ≡ true
      → IsAskedAlong f k place starts literals counts false false
  asked_open k place starts literals counts true clashes a is = never is
  asked_open k place starts literals counts false true a is = never is
  asked_open k place starts literals counts false false a is = a

  pub asked_again : (k : Knowledge) (place : ℕ) (starts : List ℕ) (literals : List Literal)
      (counts : List ℕ) (broken clashes : Bool)
      → not (broken || clashes) ≡ true
      → IsAskedAlong f k place starts literals counts false false
      → IsAskedAlong f k place starts literals counts broken clashes
  asked_again k place starts literals counts true clashes is a = never is
  asked_again k place starts literals counts false true is a = never is
  asked_again k place starts literals counts false false is a = a

  pub asked_sound : (k : Knowledge) (place : ℕ) (starts : List ℕ) (literals : List Literal)
      (counts : List ℕ) (broken clashes clash : Bool)
      → not (broken || clashes) ≡ true
      → IsAskedAlong f k place starts literals counts false clash
      → IsAskedAlong f k place starts literals counts broken clash
  asked_sound k place starts literals counts true clashes clash is a = never is
  asked_sound k place starts literals counts false clashes clash is a = a

  -- what was followed up shows that no state is left
  pub asked_broken : (clauses : List (List Literal)) (k new : Knowledge) (place : ℕ)
      (starts : List ℕ) (literals : List Literal) (counts : List ℕ)
      → clauses ≡ f.clauses → IsAskedAlong f k place starts literals counts false false
      → IsFollowed (λ state. in_clauses clauses (over [] state) ≡ true) k new false
      → IsAskedAlong f new place starts literals counts true false
  asked_broken clauses k new place starts literals counts same a followed =
      let within = a.each.place_within in
      let long = longer _ _ _ _ followed in
      asked_followed clauses k new place place starts literals counts false same a followed
      (omega (arith, within, long)) (λ no. never no)

  pub asked_shut : (k : Knowledge) (place : ℕ) (starts : List ℕ) (literals : List Literal)
      (counts : List ℕ) (broken clashes : Bool)
      → not (broken || clashes) ≡ true
      → IsAskedAlong f k place starts literals counts true false
      → IsAskedAlong f k place starts literals counts true clashes
  asked_shut k place starts literals counts true clashes is a = never is
  asked_shut k place starts literals counts false true is a = never is
  asked_shut k place starts literals counts false false is a = a

  -- what is left to follow up where nothing is refuted
  pub asked_left : (clauses : List (List Literal)) (k : Knowledge) (place : ℕ) (starts : List ℕ)
      (literals : List Literal) (counts : List ℕ) (clashes : Bool) → clauses ≡ f.clauses
      → IsAskedAlong f k place starts literals counts false clashes → AreKept [] clauses k place
  asked_left clauses k place starts literals counts clashes same a =
      subst (λ cs. AreKept [] cs k place) (sym same) (a.each.left refl)

  -- where what is assumed is refuted no state of the formula is in its cube
  pub asked_none : (k : Knowledge) (place : ℕ) (starts : List ℕ) (literals : List Literal)
      (counts : List ℕ) (broken clashes : Bool)
      → IsAskedAlong f k place starts literals counts broken clashes
      → (broken || clashes) ≡ true
      → (state : List Bool) → length state ≡ f.atoms → in_cube literals state ≡ true
      → in_formula f state ≡ false
  asked_none k place starts literals counts true clashes a is state size inside =
      false_from_ne_true (in_clauses f.clauses state)
      (λ holds. a.each.none refl state (size ∙ sym a.size)
      (ap (in_clauses f.clauses) (over-nil state) ∙ holds)
      (in_take literals a.each.firm state inside))
  asked_none k place starts literals counts false clashes a is state size inside =
      false_from_ne_true (in_clauses f.clauses state)
      (λ holds. a.each.none_here is state (size ∙ sym a.size)
      (ap (in_clauses f.clauses) (over-nil state) ∙ holds) inside)

  -- what is known was completed to a state, or no state is in the formula
  pub asked_meets : (k : Knowledge) (place : ℕ) (starts : List ℕ) (literals : List Literal)
      (counts : List ℕ) (found : List Bool) (result : Bool)
      → IsAskedAlong f k place starts literals counts false false → length found ≡ f.atoms
      → IsCompleted (λ state. in_clauses f.clauses (over [] state) ≡ true) (marks_of k) found result
      → Meets result f.atoms (in_formula f) literals found
  asked_meets k place starts literals counts found true a long completed =
      let parts = completed.found refl in
      record {
        of_task = long;
        of_cube = ap (λ ls. in_cube ls found)
            (sym (take_all (length literals) literals (omega arith)))
            ∙ a.each.has refl (length literals) (omega arith) (λ is. never is) found
            (long ∙ sym a.size) parts.1;
        of_set = ap (in_clauses f.clauses) (sym (over-nil found)) ∙ parts.0;
      }
  asked_meets k place starts literals counts found false a long completed = λ state size inside.
      false_from_ne_true (in_clauses f.clauses state)
      (λ holds. completed.refuted refl state (size ∙ sym (length-marks k ∙ a.size))
      (ap (in_clauses f.clauses) (over-nil state) ∙ holds))

  -- where nothing is assumed yet
  pub asked_first : (k : Knowledge) (roots : List Literal) (broken : Bool)
      → k ≡ record { roots = marked f.atoms roots; trail = [] }
      → (broken ≡ true → AreNever f.atoms f.clauses)
      → (broken ≡ false → AreForced f.atoms f.clauses roots)
      → IsAskedAlong f k 0 [] [] [] broken false
  asked_first k roots broken is never_true forced =
      subst (λ (m : Knowledge). IsAskedAlong f m 0 [] [] [] broken false) (sym is)
      (let wide = length-marked f.atoms roots in
      record {
        size = wide;
        each = record {
          firm = 0;
          firm_within = omega arith;
          firm_counts = λ i less. absurd (omega (arith, less));
          sizes = refl;
          counts_rise = λ i j h less. absurd (omega (arith, less));
          counts_within = λ i less. absurd (omega (arith, less));
          starts_rise = λ i j h less. absurd (omega (arith, less));
          starts_within = λ i less. absurd (omega (arith, less));
          before = λ i less. absurd (omega (arith, less));
          place_within = omega arith;
          left = λ no. kept_settled [] f.clauses
              (record { roots = marked f.atoms roots; trail = [] }) 0 (forced no).settled;
          follows = first_follows roots broken wide never_true forced;
          has = λ no i less some state size agrees. in_take [] i state refl;
          none = λ yes state size holds inside. never_true yes state (size ∙ wide)
              (ap (in_clauses f.clauses) (sym (over-nil state)) ∙ holds);
          none_here = λ no. never no;
        };
      })
    where
      first_follows : (roots : List Literal) (broken : Bool)
          → length (marked f.atoms roots) ≡ f.atoms
          → (broken ≡ true → AreNever f.atoms f.clauses)
          → (broken ≡ false → AreForced f.atoms f.clauses roots)
          → (state : List Bool) → length state ≡ length (marked f.atoms roots)
          → in_clauses f.clauses (over [] state) ≡ true → in_cube [] state ≡ true
          → Agrees (marked f.atoms roots) state
      first_follows roots true wide never_true forced state size holds inside =
          absurd (never_true refl state (size ∙ wide)
          (ap (in_clauses f.clauses) (sym (over-nil state)) ∙ holds))
      first_follows roots false wide never_true forced state size holds inside =
          (forced refl).follows state (size ∙ wide)
          (ap (in_clauses f.clauses) (sym (over-nil state)) ∙ holds)
