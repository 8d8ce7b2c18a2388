-- Each rule is sound: where it fits and its premises are true, the statement is true (Eriksson,
-- Röger and Helmert, 2018).
use Rattle.std.proofs.Common.{◌≡◌, ℕ, ◌⊎◌, Bool, true, List, [], ◌∷◌, refl, arith, ap, subst, inl}
use Rattle.std.proofs.Common.{inr}
use Rattle.std.proofs.lemmas.Bool.{or_cases}
use Rattle.std.proofs.lemmas.Option.{slice_get_within}
use Rattle.hv_task.specs.State.{successor}
use Rattle.hv_task.specs.Strips.{Strips, start_state}
use Rattle.hv_task.specs.Deadness.{Leads, LeadsBack}
use Rattle.hv_task.proofs.Places.{IsState-successor, IsState-start_state}
use Rattle.hv_task.proofs.Deadness.{progress, regress, progress_initial, regress_initial}
use Rattle.hv_task.proofs.Deadness.{none_from_start, none_to_goal}
use Rattle.hv_bdd.specs.Nodes.{NodeList}
use Rattle.hv_lines.specs.declared.line.Acts.TheVariants as A
use Rattle.hv_lines.specs.declared.line.Constant.TheVariants as C
use Rattle.hv_lines.specs.declared.line.Expr.{Expr}
use Rattle.hv_lines.specs.declared.line.Expr.TheVariants as E
use Rattle.hv_lines.specs.declared.line.Line.{Line}
use Rattle.hv_lines.specs.declared.line.Statement.{Statement}
use Rattle.hv_lines.specs.declared.line.Statement.TheVariants as T
use Rattle.hv_lines.specs.declared.line.Word.{Word}
use Rattle.hv_lines.specs.declared.line.Word.TheVariants as W
use Rattle.hv_lines.specs.Numbering.{IsTable}
use Rattle.hv_lines.specs.Meaning.{SetOfStates, ActionSet, IsAfter, IsBefore, holds, acts_of}
use Rattle.hv_lines.specs.Meaning.{sets_of}
use Rattle.hv_lines.specs.Meaning.{IsTrueStatement}
use Rattle.hv_lines.specs.Rules.{IsExpr, IsAll, Says, Fits, FitsEd, FitsUd, FitsSd, FitsPg, FitsPi}
use Rattle.hv_lines.specs.Rules.{FitsRg, FitsRi, FitsCi, FitsCg, FitsUr, FitsUl, FitsIr, FitsIl}
use Rattle.hv_lines.specs.Rules.{FitsDi, FitsSu, FitsSi, FitsSt, FitsAt, FitsAu, FitsPt, FitsPu}
use Rattle.hv_lines.specs.Rules.{FitsPr, FitsRp}
use Rattle.hv_lines.proofs.Laws.{acts_law, set_out, set_in}
use Rattle.hv_lines.proofs.Decided.{set_stable}
use Rattle.hv_rules.specs.Soundness.{PremisesAreTrue}

-- the same step, from a state of another set, by an action of another action set
after_by : (task : Strips) (S T : SetOfStates) (A B : ActionSet) (s : List Bool)
    (i : IsAfter task S A s) → T i.before → B i.number ≡ true
    → IsAfter task T B s
after_by task S T A B s i inside among = record {
  before = i.before;
  is_state = i.is_state;
  inside = inside;
  number = i.number;
  action = i.action;
  among = among;
  named = i.named;
  applies = i.applies;
  result = i.result;
}

module _ (task : Strips) (nodes : NodeList) (lines : List Line) (table : IsTable lines) where
  -- a state of a set is what the set's line says, and the other way round
  out_of : (e : ℕ) (x : Expr) → IsExpr lines e x → (s : List Bool) → sets_of task nodes lines e s
      → holds task nodes (acts_of lines) (sets_of task nodes lines) x s
  out_of e x h s inside = set_out task nodes lines e x table h s inside

  into : (e : ℕ) (x : Expr) → IsExpr lines e x → (s : List Bool)
      → holds task nodes (acts_of lines) (sets_of task nodes lines) x s
      → sets_of task nodes lines e s
  into e x h s inside = set_in task nodes lines e x table h s inside

  -- what the first, the second and the third premise say is true
  said_first : (k1 : ℕ) (ps : List ℕ) → PremisesAreTrue task nodes lines (k1 ∷ ps)
      → (st : Statement) → Says lines k1 st
      → IsTrueStatement task nodes lines st
  said_first k1 ps cited st h = cited k1 st (0, omega arith, refl) h

  said_second : (k1 k2 : ℕ) (ps : List ℕ) → PremisesAreTrue task nodes lines (k1 ∷ k2 ∷ ps)
      → (st : Statement) → Says lines k2 st
      → IsTrueStatement task nodes lines st
  said_second k1 k2 ps cited st h = cited k2 st (1, omega arith, refl) h

  said_third : (k1 k2 k3 : ℕ) → PremisesAreTrue task nodes lines (k1 ∷ k2 ∷ k3 ∷ [])
      → (st : Statement) → Says lines k3 st
      → IsTrueStatement task nodes lines st
  said_third k1 k2 k3 cited st h = cited k3 st (2, omega arith, refl) h

  -- every action is among all of them
  among_all : (a : ℕ) → IsAll lines a → (number : ℕ) → acts_of lines a number ≡ true
  among_all a h number = ap (λ (X : ActionSet). X number) (acts_law lines a A.All table h)

  -- where all results of a set are within a union, each step from the set leads there
  leads : (e a u x : ℕ) → IsTrueStatement task nodes lines (T.Sub u x)
      → IsExpr lines u (E.After e a) → IsAll lines a
      → (S : SetOfStates) → ((s : List Bool) → sets_of task nodes lines x s → S s)
      → Leads task (sets_of task nodes lines e) S
  leads e a u x within after is_all S there s number action is_state named applies inside nowhere =
      let next = successor action s in
      let is_next = IsState-successor task action s is_state in
      let step : IsAfter task (sets_of task nodes lines e) (acts_of lines a) next = record {
        before = s;
        is_state = is_state;
        inside = inside;
        number = number;
        action = action;
        among = among_all a is_all number;
        named = named;
        applies = applies;
        result = refl;
      } in
      nowhere (there next (within next is_next (into u (E.After e a) after next step)))

  leads_back : (e a u x : ℕ) → IsTrueStatement task nodes lines (T.Sub u x)
      → IsExpr lines u (E.Before e a) → IsAll lines a
      → (S : SetOfStates) → ((s : List Bool) → sets_of task nodes lines x s → S s)
      → LeadsBack task (sets_of task nodes lines e) S
  leads_back e a u x within before is_all S there s number action is_state named applies inside
      nowhere =
      let step : IsBefore task (sets_of task nodes lines e) (acts_of lines a) s = record {
        number = number;
        action = action;
        among = among_all a is_all number;
        named = named;
        applies = applies;
        inside = inside;
      } in
      nowhere (there s (within s is_state (into u (E.Before e a) before s step)))

  starts_in : (c : ℕ) → IsExpr lines c (E.Constant C.Start)
      → sets_of task nodes lines c (start_state task)
  starts_in c h = into c (E.Constant C.Start) h (start_state task) refl

  -- dead sets

  sound_ed : (st : Statement) (ps : List ℕ) → FitsEd lines st ps
      → IsTrueStatement task nodes lines st
  sound_ed (T.Dead e) [] h = λ s is_state inside. absurd (out_of e (E.Constant C.Empty) h s inside)
  sound_ed _ _ h = absurd h

  sound_ud : (st : Statement) (ps : List ℕ) → PremisesAreTrue task nodes lines ps
      → FitsUd lines st ps → IsTrueStatement task nodes lines st
  sound_ud (T.Dead e) (k1 ∷ k2 ∷ []) cited h = λ s is_state inside.
      elim (out_of e (E.Or h.0 h.1) h.2 s inside) [
        | inl left ↦ said_first k1 (k2 ∷ []) cited (T.Dead h.0) h.3 s is_state left
        | inr right ↦ said_second k1 k2 [] cited (T.Dead h.1) h.4 s is_state right
      ]
  sound_ud _ _ cited h = absurd h

  sound_sd : (st : Statement) (ps : List ℕ) → PremisesAreTrue task nodes lines ps
      → FitsSd lines st ps → IsTrueStatement task nodes lines st
  sound_sd (T.Dead e) (k1 ∷ k2 ∷ []) cited h = λ s is_state inside.
      said_second k1 k2 [] cited (T.Dead h.0) h.2 s is_state
      (said_first k1 (k2 ∷ []) cited (T.Sub e h.0) h.1 s is_state inside)
  sound_sd _ _ cited h = absurd h

  sound_pg : (st : Statement) (ps : List ℕ) → PremisesAreTrue task nodes lines ps
      → FitsPg lines st ps → IsTrueStatement task nodes lines st
  sound_pg (T.Dead e) (k1 ∷ k2 ∷ k3 ∷ []) cited
      (p, a, u, x, n, g, says, after, is_all, union, dead, dead_goals, both, goal) =
      progress task (sets_of task nodes lines e) (sets_of task nodes lines x)
      (leads e a p u (said_first k1 (k2 ∷ k3 ∷ []) cited (T.Sub p u) says) after is_all
      (λ s. sets_of task nodes lines e s ⊎ sets_of task nodes lines x s)
      (out_of u (E.Or e x) union))
      (said_second k1 k2 (k3 ∷ []) cited (T.Dead x) dead)
      (λ s is_state h.
      said_third k1 k2 k3 cited (T.Dead n) dead_goals s is_state
      (into n (E.And e g) both s (h.0, into g (E.Constant C.Goal) goal s h.1)))
  sound_pg _ _ cited h = absurd h

  sound_pi : (st : Statement) (ps : List ℕ) → PremisesAreTrue task nodes lines ps
      → FitsPi lines st ps → IsTrueStatement task nodes lines st
  sound_pi (T.Dead e) (k1 ∷ k2 ∷ k3 ∷ []) cited
      (f, p, a, u, x, c, outside, says, after, is_all, union, dead, starts, start) =
      λ s is_state inside.
      progress_initial task (sets_of task nodes lines f) (sets_of task nodes lines x)
      (leads f a p u (said_first k1 (k2 ∷ k3 ∷ []) cited (T.Sub p u) says) after is_all
      (λ t. sets_of task nodes lines f t ⊎ sets_of task nodes lines x t)
      (out_of u (E.Or f x) union))
      (said_second k1 k2 (k3 ∷ []) cited (T.Dead x) dead)
      (said_third k1 k2 k3 cited (T.Sub c f) starts (start_state task) (IsState-start_state task)
      (starts_in c start))
      s is_state (out_of e (E.Not f) outside s inside)
  sound_pi _ _ cited h = absurd h

  sound_rg : (st : Statement) (ps : List ℕ) → PremisesAreTrue task nodes lines ps
      → FitsRg lines st ps → IsTrueStatement task nodes lines st
  sound_rg (T.Dead e) (k1 ∷ k2 ∷ k3 ∷ []) cited
      (f, r, a, u, x, n, g, outside, says, before, is_all, union, dead, dead_goals, both, goal) =
      λ s is_state inside.
      regress task (sets_of task nodes lines f) (sets_of task nodes lines x)
      (leads_back f a r u (said_first k1 (k2 ∷ k3 ∷ []) cited (T.Sub r u) says) before is_all
      (λ t. sets_of task nodes lines f t ⊎ sets_of task nodes lines x t)
      (out_of u (E.Or f x) union))
      (said_second k1 k2 (k3 ∷ []) cited (T.Dead x) dead)
      (λ t is h.
      said_third k1 k2 k3 cited (T.Dead n) dead_goals t is
      (into n (E.And e g) both t (
        into e (E.Not f) outside t h.0,
        into g (E.Constant C.Goal) goal t
            h.1,
      )))
      s is_state (out_of e (E.Not f) outside s inside)
  sound_rg _ _ cited h = absurd h

  sound_ri : (st : Statement) (ps : List ℕ) → PremisesAreTrue task nodes lines ps
      → FitsRi lines st ps → IsTrueStatement task nodes lines st
  sound_ri (T.Dead e) (k1 ∷ k2 ∷ k3 ∷ []) cited
      (r, a, u, x, c, n, says, before, is_all, union, dead, starts, start, outside) =
      regress_initial task (sets_of task nodes lines e) (sets_of task nodes lines x)
      (leads_back e a r u (said_first k1 (k2 ∷ k3 ∷ []) cited (T.Sub r u) says) before is_all
      (λ s. sets_of task nodes lines e s ⊎ sets_of task nodes lines x s)
      (out_of u (E.Or e x) union))
      (said_second k1 k2 (k3 ∷ []) cited (T.Dead x) dead)
      (out_of n (E.Not e) outside (start_state task)
      (said_third k1 k2 k3 cited (T.Sub c n) starts (start_state task) (IsState-start_state task)
      (starts_in c start)))
  sound_ri _ _ cited h = absurd h

  -- no plan

  sound_ci : (st : Statement) (ps : List ℕ) → PremisesAreTrue task nodes lines ps
      → FitsCi lines st ps → IsTrueStatement task nodes lines st
  sound_ci T.Unsolvable (k1 ∷ []) cited (c, dead, start) =
      none_from_start task (said_first k1 [] cited (T.Dead c) dead (start_state task)
      (IsState-start_state task) (starts_in c start))
  sound_ci _ _ cited h = absurd h

  sound_cg : (st : Statement) (ps : List ℕ) → PremisesAreTrue task nodes lines ps
      → FitsCg lines st ps → IsTrueStatement task nodes lines st
  sound_cg T.Unsolvable (k1 ∷ []) cited (g, dead, goal) =
      none_to_goal task (λ s is_state h. said_first k1 [] cited (T.Dead g) dead s is_state
      (into g (E.Constant C.Goal) goal s h))
  sound_cg _ _ cited h = absurd h

  -- unions and intersections

  sound_ur : (st : Statement) (ps : List ℕ) → FitsUr lines st ps
      → IsTrueStatement task nodes lines st
  sound_ur (T.Sub e f) [] (x, union) = λ s is_state inside. into f (E.Or e x) union s (inl inside)
  sound_ur _ _ h = absurd h

  sound_ul : (st : Statement) (ps : List ℕ) → FitsUl lines st ps
      → IsTrueStatement task nodes lines st
  sound_ul (T.Sub e f) [] (x, union) = λ s is_state inside. into f (E.Or x e) union s (inr inside)
  sound_ul _ _ h = absurd h

  sound_ir : (st : Statement) (ps : List ℕ) → FitsIr lines st ps
      → IsTrueStatement task nodes lines st
  sound_ir (T.Sub e f) [] (x, both) = λ s is_state inside. (out_of e (E.And f x) both s inside).0
  sound_ir _ _ h = absurd h

  sound_il : (st : Statement) (ps : List ℕ) → FitsIl lines st ps
      → IsTrueStatement task nodes lines st
  sound_il (T.Sub e f) [] (x, both) = λ s is_state inside. (out_of e (E.And x f) both s inside).1
  sound_il _ _ h = absurd h

  sound_di : (st : Statement) (ps : List ℕ) → FitsDi lines st ps
      → IsTrueStatement task nodes lines st
  sound_di (T.Sub e f) [] (u, w, x, y, p, q, both, union, result, first, second) = λ s is_state
      inside.
      let parts = out_of e (E.And u w) both s inside in
      elim (out_of u (E.Or x y) union s parts.0) [
        | inl left ↦ into f (E.Or p q) result s (inl (into p (E.And x w) first s (left, parts.1)))
        | inr right ↦ into f (E.Or p q) result s
            (inr (into q (E.And y w) second s (right, parts.1)))
      ]
  sound_di _ _ h = absurd h

  sound_su : (st : Statement) (ps : List ℕ) → PremisesAreTrue task nodes lines ps
      → FitsSu lines st ps → IsTrueStatement task nodes lines st
  sound_su (T.Sub e f) (k1 ∷ k2 ∷ []) cited (x, y, union, first, second) = λ s is_state inside.
      elim (out_of e (E.Or x y) union s inside) [
        | inl left ↦ said_first k1 (k2 ∷ []) cited (T.Sub x f) first s is_state left
        | inr right ↦ said_second k1 k2 [] cited (T.Sub y f) second s is_state right
      ]
  sound_su _ _ cited h = absurd h

  sound_si : (st : Statement) (ps : List ℕ) → PremisesAreTrue task nodes lines ps
      → FitsSi lines st ps → IsTrueStatement task nodes lines st
  sound_si (T.Sub e f) (k1 ∷ k2 ∷ []) cited (x, y, both, first, second) = λ s is_state inside.
      into f (E.And x y) both s (
        said_first k1 (k2 ∷ []) cited (T.Sub e x) first s is_state inside,
        said_second k1 k2 [] cited (T.Sub e y) second s is_state inside,
      )
  sound_si _ _ cited h = absurd h

  sound_st : (st : Statement) (ps : List ℕ) → PremisesAreTrue task nodes lines ps
      → FitsSt lines st ps → IsTrueStatement task nodes lines st
  sound_st (T.Sub e f) (k1 ∷ k2 ∷ []) cited (x, first, second) = λ s is_state inside.
      said_second k1 k2 [] cited (T.Sub x f) second s is_state
      (said_first k1 (k2 ∷ []) cited (T.Sub e x) first s is_state inside)
  sound_st _ _ cited h = absurd h

  -- progression and regression

  sound_at : (st : Statement) (ps : List ℕ) → PremisesAreTrue task nodes lines ps
      → FitsAt lines st ps → IsTrueStatement task nodes lines st
  sound_at (T.Sub e f) (k1 ∷ k2 ∷ []) cited (x, b, p, a, fewer, says, more, within) = λ s is_state
      inside.
      let S = sets_of task nodes lines x in
      let i = out_of e (E.After x b) fewer s inside in
      let number_within = slice_get_within task.actions i.number i.action i.named in
      said_first k1 (k2 ∷ []) cited (T.Sub p f) says s is_state
      (into p (E.After x a) more s
      (after_by task S S (acts_of lines b) (acts_of lines a) s i i.inside
      (said_second k1 k2 [] cited (T.ActSub b a) within i.number number_within i.among)))
  sound_at _ _ cited h = absurd h

  sound_au : (st : Statement) (ps : List ℕ) → PremisesAreTrue task nodes lines ps
      → FitsAu lines st ps → IsTrueStatement task nodes lines st
  sound_au (T.Sub e f) (k1 ∷ k2 ∷ []) cited
      (x, u, a, b, p, q, after, union, says_one, one, says_other, other) = λ s is_state inside.
      let S = sets_of task nodes lines x in
      let i = out_of e (E.After x u) after s inside in
      let either = subst (λ (X : ActionSet). X i.number ≡ true)
      (acts_law lines u (A.Both a b) table union) i.among in
      elim (or_cases (acts_of lines a i.number) (acts_of lines b i.number) either) [
        | inl among ↦
            said_first k1 (k2 ∷ []) cited (T.Sub p f) says_one s is_state
            (into p (E.After x a) one s (after_by task S S (acts_of lines u) (acts_of lines a) s i
            i.inside among))
        | inr among ↦
            said_second k1 k2 [] cited (T.Sub q f) says_other s is_state
            (into q (E.After x b) other s (after_by task S S (acts_of lines u) (acts_of lines b) s i
            i.inside among))
      ]
  sound_au _ _ cited h = absurd h

  sound_pt : (st : Statement) (ps : List ℕ) → PremisesAreTrue task nodes lines ps
      → FitsPt lines st ps → IsTrueStatement task nodes lines st
  sound_pt (T.Sub e f) (k1 ∷ k2 ∷ []) cited (x, a, p, y, smaller, says, larger, within) = λ s
      is_state inside.
      let i = out_of e (E.After x a) smaller s inside in
      said_first k1 (k2 ∷ []) cited (T.Sub p f) says s is_state
      (into p (E.After y a) larger s
      (after_by task (sets_of task nodes lines x) (sets_of task nodes lines y) (acts_of lines a)
      (acts_of lines a) s i
      (said_second k1 k2 [] cited (T.Sub x y) within i.before i.is_state i.inside) i.among))
  sound_pt _ _ cited h = absurd h

  sound_pu : (st : Statement) (ps : List ℕ) → PremisesAreTrue task nodes lines ps
      → FitsPu lines st ps → IsTrueStatement task nodes lines st
  sound_pu (T.Sub e f) (k1 ∷ k2 ∷ []) cited
      (u, a, x, y, p, q, after, union, says_one, one, says_other, other) = λ s is_state inside.
      let U = sets_of task nodes lines u in
      let A = acts_of lines a in
      let i = out_of e (E.After u a) after s inside in
      elim (out_of u (E.Or x y) union i.before i.inside) [
        | inl left ↦
            said_first k1 (k2 ∷ []) cited (T.Sub p f) says_one s is_state
            (into p (E.After x a) one s (after_by task U (sets_of task nodes lines x) A A s i left
            i.among))
        | inr right ↦
            said_second k1 k2 [] cited (T.Sub q f) says_other s is_state
            (into q (E.After y a) other s (after_by task U (sets_of task nodes lines y) A A s i
            right i.among))
      ]
  sound_pu _ _ cited h = absurd h

  sound_pr : (st : Statement) (ps : List ℕ) → PremisesAreTrue task nodes lines ps
      → FitsPr lines st ps → IsTrueStatement task nodes lines st
  sound_pr (T.Sub e f) (k1 ∷ []) cited (m, a, x, y, p, before, outside, result, says, after) = λ s
      is_state inside.
      let b = out_of e (E.Before m a) before s inside in
      let next = successor b.action s in
      into f (E.Not y) result s
      (λ here.
      let step : IsAfter task (sets_of task nodes lines y) (acts_of lines a) next = record {
        before = s;
        is_state = is_state;
        inside = here;
        number = b.number;
        action = b.action;
        among = b.among;
        named = b.named;
        applies = b.applies;
        result = refl;
      } in
      out_of m (E.Not x) outside next b.inside
      (said_first k1 [] cited (T.Sub p x) says next (IsState-successor task b.action s is_state)
      (into p (E.After y a) after next step)))
  sound_pr _ _ cited h = absurd h

  sound_rp : (st : Statement) (ps : List ℕ) → PremisesAreTrue task nodes lines ps
      → FitsRp lines st ps → IsTrueStatement task nodes lines st
  sound_rp (T.Sub e f) (k1 ∷ []) cited (x, a, r, n, m, after, says, before, outside, negated) = λ s
      is_state inside.
      let i = out_of e (E.After x a) after s inside in
      set_stable task nodes lines f s is_state
      (λ nowhere.
      let step : IsBefore task (sets_of task nodes lines m) (acts_of lines a) i.before = record {
        number = i.number;
        action = i.action;
        among = i.among;
        named = i.named;
        applies = i.applies;
        inside = into m (E.Not f) outside (successor i.action i.before)
            (λ there. nowhere (subst (sets_of task nodes lines f) i.result there));
      } in
      out_of n (E.Not x) negated i.before (said_first k1 [] cited (T.Sub r n) says i.before
      i.is_state (into r (E.Before m a) before i.before step))
      i.inside)
  sound_rp _ _ cited h = absurd h

  -- all rules

  pub sound : (st : Statement) (word : Word) (ps : List ℕ) → PremisesAreTrue task nodes lines ps
      → Fits lines st word ps → IsTrueStatement task nodes lines st
  sound st W.B1 ps cited h = absurd h
  sound st W.B2 ps cited h = absurd h
  sound st W.B3 ps cited h = absurd h
  sound st W.B4 ps cited h = absurd h
  sound st W.B5 ps cited h = absurd h
  sound st W.Ed ps cited h = sound_ed st ps h
  sound st W.Ud ps cited h = sound_ud st ps cited h
  sound st W.Sd ps cited h = sound_sd st ps cited h
  sound st W.Pg ps cited h = sound_pg st ps cited h
  sound st W.Pi ps cited h = sound_pi st ps cited h
  sound st W.Rg ps cited h = sound_rg st ps cited h
  sound st W.Ri ps cited h = sound_ri st ps cited h
  sound st W.Ci ps cited h = sound_ci st ps cited h
  sound st W.Cg ps cited h = sound_cg st ps cited h
  sound st W.Ur ps cited h = sound_ur st ps h
  sound st W.Ul ps cited h = sound_ul st ps h
  sound st W.Ir ps cited h = sound_ir st ps h
  sound st W.Il ps cited h = sound_il st ps h
  sound st W.Di ps cited h = sound_di st ps h
  sound st W.Su ps cited h = sound_su st ps cited h
  sound st W.Si ps cited h = sound_si st ps cited h
  sound st W.St ps cited h = sound_st st ps cited h
  sound st W.At ps cited h = sound_at st ps cited h
  sound st W.Au ps cited h = sound_au st ps cited h
  sound st W.Pt ps cited h = sound_pt st ps cited h
  sound st W.Pu ps cited h = sound_pu st ps cited h
  sound st W.Pr ps cited h = sound_pr st ps cited h
  sound st W.Rp ps cited h = sound_rp st ps cited h
