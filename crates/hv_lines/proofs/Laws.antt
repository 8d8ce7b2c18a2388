-- What a list of lines says goes on being said when a line is added, and the set of an identifier
-- is what its line says.
use Rattle.std.proofs.Common.{◌≡◌, ℕ, suc, ◌<◌, ◌≤◌, ◌∙◌, ◌⊎◌, ◌||◌, Bool, true, false, List, []}
use Rattle.std.proofs.Common.{◌∷◌, Option, Some, cond, eqb, refl, sym, ap, subst, inl, inr, arith}
use Rattle.std.proofs.lemmas.Bool.{cases_eq, eq-eqb, ne_eqb, cond-true, cond-false}
use Rattle.std.proofs.lemmas.Option.{same_Some}
use Rattle.hv_task.specs.Strips.{Strips}
use Rattle.hv_task.specs.State.{AreBelow}
use Rattle.hv_bdd.specs.Nodes.{NodeList}
use Rattle.hv_lines.specs.declared.line.Acts.{Acts}
use Rattle.hv_lines.specs.declared.line.Acts.TheVariants as A
use Rattle.hv_lines.specs.declared.line.Constant.TheVariants as C
use Rattle.hv_lines.specs.declared.line.Expr.{Expr}
use Rattle.hv_lines.specs.declared.line.Expr.TheVariants as E
use Rattle.hv_lines.specs.declared.line.Line.{Line}
use Rattle.hv_lines.specs.declared.line.Line.TheVariants as L
use Rattle.hv_lines.specs.declared.line.Statement.{Statement}
use Rattle.hv_lines.specs.declared.line.Statement.TheVariants as T
use Rattle.hv_lines.specs.declared.line.Word.{Word}
use Rattle.hv_lines.specs.Numbering.{acts_count, expr_count, known_count, acts_at, expr_at}
use Rattle.hv_lines.specs.Numbering.{statement_at, word_at, premises_at, ActsReferBelow}
use Rattle.hv_lines.specs.Numbering.{ExprRefersBelow, SpeaksBelow, MayFollow, IsTable}
use Rattle.hv_lines.specs.Meaning.{SetOfStates, ActionSet, has_action, IsAfter, IsBefore, holds}
use Rattle.hv_lines.specs.Meaning.{pick_acts, pick_set, acts_of, sets_of}

-- the count of sets grows
pub exprs_grow : (line : Line) (older : List Line) → expr_count older ≤ expr_count (line ∷ older)
exprs_grow (L.Acts id x) older = omega arith
exprs_grow (L.Expr id x) older = omega arith
exprs_grow (L.Known id st w ps) older = omega arith

-- an identifier below the count isn't that of the next line
below_ne : {e id n : ℕ} → id ≡ n → e < n → eqb e id ≡ false
below_ne {e} {id} same below = ne_eqb e id (λ h. absurd (omega arith))

-- an added line doesn't change what is at earlier identifiers

pub acts_at_more : (line : Line) (older : List Line) (a : ℕ) → MayFollow older line
    → a < acts_count older → acts_at (line ∷ older) a ≡ acts_at older a
acts_at_more (L.Acts id x) older a next below = cond-false (eqb a id) (Some x) (acts_at older a)
    (below_ne next.numbered below)
acts_at_more (L.Expr id x) older a next below = refl
acts_at_more (L.Known id st w ps) older a next below = refl

pub expr_at_more : (line : Line) (older : List Line) (e : ℕ) → MayFollow older line
    → e < expr_count older → expr_at (line ∷ older) e ≡ expr_at older e
expr_at_more (L.Acts id x) older e next below = refl
expr_at_more (L.Expr id x) older e next below = cond-false (eqb e id) (Some x) (expr_at older e)
    (below_ne next.numbered below)
expr_at_more (L.Known id st w ps) older e next below = refl

pub statement_at_more : (line : Line) (older : List Line) (k : ℕ) → MayFollow older line
    → k < known_count older → statement_at (line ∷ older) k ≡ statement_at older k
statement_at_more (L.Acts id x) older k next below = refl
statement_at_more (L.Expr id x) older k next below = refl
statement_at_more (L.Known id st w ps) older k next below = cond-false (eqb k id) (Some st)
    (statement_at older k) (below_ne next.numbered below)

pub word_at_more : (line : Line) (older : List Line) (k : ℕ) → MayFollow older line
    → k < known_count older → word_at (line ∷ older) k ≡ word_at older k
word_at_more (L.Acts id x) older k next below = refl
word_at_more (L.Expr id x) older k next below = refl
word_at_more (L.Known id st w ps) older k next below = cond-false (eqb k id) (Some w)
    (word_at older k) (below_ne next.numbered below)

pub premises_at_more : (line : Line) (older : List Line) (k : ℕ) → MayFollow older line
    → k < known_count older → premises_at (line ∷ older) k ≡ premises_at older k
premises_at_more (L.Acts id x) older k next below = refl
premises_at_more (L.Expr id x) older k next below = refl
premises_at_more (L.Known id st w ps) older k next below = cond-false (eqb k id) (Some ps)
    (premises_at older k) (below_ne next.numbered below)

-- what an added line says is at its identifier

pub acts_at_here : (id : ℕ) (x : Acts) (older : List Line)
    → acts_at (L.Acts id x ∷ older) id ≡ Some x
acts_at_here id x older = cond-true (eqb id id) (Some x) (acts_at older id) (eq-eqb id id refl)

pub expr_at_here : (id : ℕ) (x : Expr) (older : List Line)
    → expr_at (L.Expr id x ∷ older) id ≡ Some x
expr_at_here id x older = cond-true (eqb id id) (Some x) (expr_at older id) (eq-eqb id id refl)

pub statement_at_here : (id : ℕ) (st : Statement) (w : Word) (ps : List ℕ) (older : List Line)
    → statement_at (L.Known id st w ps ∷ older) id ≡ Some st
statement_at_here id st w ps older = cond-true (eqb id id) (Some st) (statement_at older id)
    (eq-eqb id id refl)

pub word_at_here : (id : ℕ) (st : Statement) (w : Word) (ps : List ℕ) (older : List Line)
    → word_at (L.Known id st w ps ∷ older) id ≡ Some w
word_at_here id st w ps older = cond-true (eqb id id) (Some w) (word_at older id)
    (eq-eqb id id refl)

pub premises_at_here : (id : ℕ) (st : Statement) (w : Word) (ps : List ℕ) (older : List Line)
    → premises_at (L.Known id st w ps ∷ older) id ≡ Some ps
premises_at_here id st w ps older = cond-true (eqb id id) (Some ps) (premises_at older id)
    (eq-eqb id id refl)

-- what is found is the newest, or was there before
pub found_cases : {X : Type 0} (e id : ℕ) (new x : X) (old : Option X)
    → cond (eqb e id) (Some new) old ≡ Some x
    → ((e ≡ id) × (new ≡ x)) ⊎ ((e ≡ id → ⊥) × (old ≡ Some x))
found_cases e id new x old h =
    elim (cases_eq e id) [
      | inl same ↦ inl (
        same,
        same_Some new x
            (sym (cond-true (eqb e id) (Some new) old (eq-eqb e id same)) ∙ h),
      )
      | inr other ↦ inr (other, sym (cond-false (eqb e id) (Some new) old (ne_eqb e id other)) ∙ h)
    ]

-- an identifier at which something is said is below the count

pub acts_below : (lines : List Line) (a : ℕ) (x : Acts) → IsTable lines → acts_at lines a ≡ Some x
    → a < acts_count lines
acts_below [] a x table h = absurd (cc)
acts_below (L.Acts id y ∷ older) a x table h =
    elim (found_cases a id y x (acts_at older a) h) [
      | inl here ↦ omega (arith, here.0, table.0.numbered)
      | inr there ↦ omega (arith, acts_below older a x table.1 there.1)
    ]
acts_below (L.Expr id y ∷ older) a x table h = acts_below older a x table.1 h
acts_below (L.Known id st w ps ∷ older) a x table h = acts_below older a x table.1 h

pub expr_below : (lines : List Line) (e : ℕ) (x : Expr) → IsTable lines → expr_at lines e ≡ Some x
    → e < expr_count lines
expr_below [] e x table h = absurd (cc)
expr_below (L.Acts id y ∷ older) e x table h = expr_below older e x table.1 h
expr_below (L.Expr id y ∷ older) e x table h =
    elim (found_cases e id y x (expr_at older e) h) [
      | inl here ↦ omega (arith, here.0, table.0.numbered)
      | inr there ↦ omega (arith, expr_below older e x table.1 there.1)
    ]
expr_below (L.Known id st w ps ∷ older) e x table h = expr_below older e x table.1 h

pub known_below : (lines : List Line) (k : ℕ) (st : Statement) → IsTable lines
    → statement_at lines k ≡ Some st → k < known_count lines
known_below [] k st table h = absurd (cc)
known_below (L.Acts id y ∷ older) k st table h = known_below older k st table.1 h
known_below (L.Expr id y ∷ older) k st table h = known_below older k st table.1 h
known_below (L.Known id said w ps ∷ older) k st table h =
    elim (found_cases k id said st (statement_at older k) h) [
      | inl here ↦ omega (arith, here.0, table.0.numbered)
      | inr there ↦ omega (arith, known_below older k st table.1 there.1)
    ]

-- each identifier of a set below the count has its line
pub expr_within : (lines : List Line) (e : ℕ) → IsTable lines → e < expr_count lines
    → (x : Expr) × (expr_at lines e ≡ Some x)
expr_within [] e table below = absurd (omega arith)
expr_within (L.Acts id y ∷ older) e table below = expr_within older e table.1 below
expr_within (L.Expr id y ∷ older) e table below =
    elim (cases_eq e id) [
      | inl same ↦ (y, cond-true (eqb e id) (Some y) (expr_at older e) (eq-eqb e id same))
      | inr other ↦
          let earlier : e < expr_count older = omega (arith, table.0.numbered) in
          let found = expr_within older e table.1 earlier in
          (found.0, expr_at_more (L.Expr id y) older e table.0 earlier ∙ found.1)
    ]
expr_within (L.Known id st w ps ∷ older) e table below = expr_within older e table.1 below

-- references stay within counts that grow

pub ActsReferBelow-more : (x : Acts) (m n : ℕ) → m ≤ n → ActsReferBelow m x → ActsReferBelow n x
ActsReferBelow-more A.All m n h refers = tt
ActsReferBelow-more (A.List xs) m n h refers = tt
ActsReferBelow-more (A.Both x y) m n h refers = (omega (arith, refers.0), omega (arith, refers.1))

pub ExprRefersBelow-more : (x : Expr) (a b m n : ℕ) → a ≤ b → m ≤ n → ExprRefersBelow a m x
    → ExprRefersBelow b n x
ExprRefersBelow-more (E.Constant c) a b m n g h refers = tt
ExprRefersBelow-more (E.Horn cs) a b m n g h refers = tt
ExprRefersBelow-more (E.Dual cs) a b m n g h refers = tt
ExprRefersBelow-more (E.Two cs) a b m n g h refers = tt
ExprRefersBelow-more (E.States xs) a b m n g h refers = tt
ExprRefersBelow-more (E.Node x) a b m n g h refers = tt
ExprRefersBelow-more (E.Not e) a b m n g h refers = omega arith
ExprRefersBelow-more (E.And e f) a b m n g h refers =
    (omega (arith, refers.0), omega (arith, refers.1))
ExprRefersBelow-more (E.Or e f) a b m n g h refers =
    (omega (arith, refers.0), omega (arith, refers.1))
ExprRefersBelow-more (E.After e x) a b m n g h refers =
    (omega (arith, refers.0), omega (arith, refers.1))
ExprRefersBelow-more (E.Before e x) a b m n g h refers =
    (omega (arith, refers.0), omega (arith, refers.1))

pub SpeaksBelow-more : (st : Statement) (a b m n : ℕ) → a ≤ b → m ≤ n → SpeaksBelow a m st
    → SpeaksBelow b n st
SpeaksBelow-more (T.Sub e f) a b m n g h speaks = (omega (arith, speaks.0), omega (arith, speaks.1))
SpeaksBelow-more (T.ActSub x y) a b m n g h speaks =
    (omega (arith, speaks.0), omega (arith, speaks.1))
SpeaksBelow-more (T.Dead e) a b m n g h speaks = omega arith
SpeaksBelow-more T.Unsolvable a b m n g h speaks = tt

-- what a line refers to is before it

pub acts_refer : (lines : List Line) (a : ℕ) (x : Acts) → IsTable lines → acts_at lines a ≡ Some x
    → ActsReferBelow a x
acts_refer [] a x table h = absurd (cc)
acts_refer (L.Acts id y ∷ older) a x table h =
    elim (found_cases a id y x (acts_at older a) h) [
      | inl here ↦
          subst (λ n. ActsReferBelow n x) (sym (here.0 ∙ table.0.numbered))
          (subst (ActsReferBelow (acts_count older)) here.1 table.0.back)
      | inr there ↦ acts_refer older a x table.1 there.1
    ]
acts_refer (L.Expr id y ∷ older) a x table h = acts_refer older a x table.1 h
acts_refer (L.Known id st w ps ∷ older) a x table h = acts_refer older a x table.1 h

pub refers_before : (lines : List Line) (e : ℕ) (x : Expr) → IsTable lines
    → expr_at lines e ≡ Some x → ExprRefersBelow (acts_count lines) e x
refers_before [] e x table h = absurd (cc)
refers_before (L.Acts id y ∷ older) e x table h =
    ExprRefersBelow-more x (acts_count older) (suc (acts_count older)) e e (omega arith)
    (omega arith) (refers_before older e x table.1 h)
refers_before (L.Expr id y ∷ older) e x table h =
    elim (found_cases e id y x (expr_at older e) h) [
      | inl here ↦
          subst (λ n. ExprRefersBelow (acts_count older) n x) (sym (here.0 ∙ table.0.numbered))
          (subst (ExprRefersBelow (acts_count older) (expr_count older)) here.1 table.0.back)
      | inr there ↦ refers_before older e x table.1 there.1
    ]
refers_before (L.Known id st w ps ∷ older) e x table h = refers_before older e x table.1 h

pub refers_below : (lines : List Line) (e : ℕ) (x : Expr) → IsTable lines → expr_at lines e ≡ Some x
    → ExprRefersBelow (acts_count lines) (expr_count lines) x
refers_below lines e x table h =
    ExprRefersBelow-more x (acts_count lines) (acts_count lines) e (expr_count lines) (omega arith)
    (omega (arith, expr_below lines e x table h)) (refers_before lines e x table h)

pub acts_refer_below : (lines : List Line) (a : ℕ) (x : Acts) → IsTable lines
    → acts_at lines a ≡ Some x → ActsReferBelow (acts_count lines) x
acts_refer_below lines a x table h =
    ActsReferBelow-more x a (acts_count lines) (omega (arith, acts_below lines a x table h))
    (acts_refer lines a x table h)

pub speaks_at : (lines : List Line) (k : ℕ) (st : Statement) → IsTable lines
    → statement_at lines k ≡ Some st
    → SpeaksBelow (acts_count lines) (expr_count lines) st
speaks_at [] k st table h = absurd (cc)
speaks_at (L.Acts id y ∷ older) k st table h =
    SpeaksBelow-more st (acts_count older) (suc (acts_count older)) (expr_count older)
    (expr_count older) (omega arith) (omega arith)
    (speaks_at older k st table.1 h)
speaks_at (L.Expr id y ∷ older) k st table h =
    SpeaksBelow-more st (acts_count older) (acts_count older) (expr_count older)
    (suc (expr_count older)) (omega arith) (omega arith)
    (speaks_at older k st table.1 h)
speaks_at (L.Known id said w ps ∷ older) k st table h =
    elim (found_cases k id said st (statement_at older k) h) [
      | inl here ↦ subst (SpeaksBelow (acts_count older) (expr_count older)) here.1 table.0.back.0
      | inr there ↦ speaks_at older k st table.1 there.1
    ]

pub premises_before : (lines : List Line) (k : ℕ) (ps : List ℕ) → IsTable lines
    → premises_at lines k ≡ Some ps → AreBelow k ps
premises_before [] k ps table h = absurd (cc)
premises_before (L.Acts id y ∷ older) k ps table h = premises_before older k ps table.1 h
premises_before (L.Expr id y ∷ older) k ps table h = premises_before older k ps table.1 h
premises_before (L.Known id said w given ∷ older) k ps table h =
    elim (found_cases k id given ps (premises_at older k) h) [
      | inl here ↦
          subst (λ n. AreBelow n ps) (sym (here.0 ∙ table.0.numbered))
          (subst (AreBelow (known_count older)) here.1 table.0.back.1)
      | inr there ↦ premises_before older k ps table.1 there.1
    ]

-- an added line doesn't change earlier action sets

pick_acts-false : (test : Bool) (here there : ActionSet) → test ≡ false
    → pick_acts test here there ≡ there
pick_acts-false true here there h = absurd (cc)
pick_acts-false false here there h = refl

pick_acts-true : (test : Bool) (here there : ActionSet) → test ≡ true
    → pick_acts test here there ≡ here
pick_acts-true true here there h = refl
pick_acts-true false here there h = absurd (cc)

pub acts_more : (line : Line) (older : List Line) (a : ℕ) → MayFollow older line
    → a < acts_count older → acts_of (line ∷ older) a ≡ acts_of older a
acts_more (L.Acts id x) older a next below =
    pick_acts-false (eqb a id) (has_action (acts_of older) x) (acts_of older a)
    (below_ne next.numbered below)
acts_more (L.Expr id x) older a next below = refl
acts_more (L.Known id st w ps) older a next below = refl

-- what an action set has depends on the earlier ones that it refers to

pub has_action_same : (acts other : ℕ → ActionSet) (n : ℕ) (x : Acts)
    → ((a : ℕ) → a < n → acts a ≡ other a) → ActsReferBelow n x
    → has_action acts x ≡ has_action other x
has_action_same acts other n A.All same refers = refl
has_action_same acts other n (A.List xs) same refers = refl
has_action_same acts other n (A.Both x y) same refers =
    ap (λ (f : ActionSet). λ number. f number || acts y number) (same x refers.0)
    ∙ ap (λ (f : ActionSet). λ number. other x number || f number) (same y refers.1)

-- the actions of an action set are those that its line says

pub acts_law : (lines : List Line) (a : ℕ) (x : Acts) → IsTable lines → acts_at lines a ≡ Some x
    → acts_of lines a ≡ has_action (acts_of lines) x
acts_law [] a x table h = absurd (cc)
acts_law (L.Acts id y ∷ older) a x table h =
    let line = L.Acts id y in
    elim (found_cases a id y x (acts_at older a) h) [
      | inl here ↦
          pick_acts-true (eqb a id) (has_action (acts_of older) y) (acts_of older a)
          (eq-eqb a id here.0)
          ∙ ap (has_action (acts_of older)) here.1
          ∙ has_action_same (acts_of older) (acts_of (line ∷ older)) (acts_count older) x
          (λ b below. sym (acts_more line older b table.0 below))
          (subst (ActsReferBelow (acts_count older)) here.1 table.0.back)
      | inr there ↦
          acts_more line older a table.0 (acts_below older a x table.1 there.1)
          ∙ acts_law older a x table.1 there.1
          ∙ has_action_same (acts_of older) (acts_of (line ∷ older)) (acts_count older) x
          (λ b below. sym (acts_more line older b table.0 below))
          (acts_refer_below older a x table.1 there.1)
    ]
acts_law (L.Expr id y ∷ older) a x table h = acts_law older a x table.1 h
acts_law (L.Known id st w ps ∷ older) a x table h = acts_law older a x table.1 h

-- an added line doesn't change earlier sets

pick_set-false : (test : Bool) (here there : SetOfStates) → test ≡ false
    → pick_set test here there ≡ there
pick_set-false true here there h = absurd (cc)
pick_set-false false here there h = refl

pick_set-true : (test : Bool) (here there : SetOfStates) → test ≡ true
    → pick_set test here there ≡ here
pick_set-true true here there h = refl
pick_set-true false here there h = absurd (cc)

module _ (task : Strips) (nodes : NodeList) where
  pub sets_more : (line : Line) (older : List Line) (e : ℕ) → MayFollow older line
      → e < expr_count older
      → sets_of task nodes (line ∷ older) e ≡ sets_of task nodes older e
  sets_more (L.Acts id x) older e next below = refl
  sets_more (L.Expr id x) older e next below =
      pick_set-false (eqb e id) (holds task nodes (acts_of older) (sets_of task nodes older) x)
      (sets_of task nodes older e)
      (below_ne next.numbered below)
  sets_more (L.Known id st w ps) older e next below = refl

  -- what a set holds depends on the earlier ones that it refers to
  pub holds_same : (acts other_acts : ℕ → ActionSet) (sets other_sets : ℕ → SetOfStates) (m n : ℕ)
      (x : Expr)
      → ((a : ℕ) → a < m → acts a ≡ other_acts a) → ((e : ℕ) → e < n → sets e ≡ other_sets e)
      → ExprRefersBelow m n x
      → holds task nodes acts sets x ≡ holds task nodes other_acts other_sets x
  holds_same acts other_acts sets other_sets m n (E.Constant C.Empty) same_acts same_sets refers =
      refl
  holds_same acts other_acts sets other_sets m n (E.Constant C.Start) same_acts same_sets refers =
      refl
  holds_same acts other_acts sets other_sets m n (E.Constant C.Goal) same_acts same_sets refers =
      refl
  holds_same acts other_acts sets other_sets m n (E.Horn cs) same_acts same_sets refers = refl
  holds_same acts other_acts sets other_sets m n (E.Dual cs) same_acts same_sets refers = refl
  holds_same acts other_acts sets other_sets m n (E.Two cs) same_acts same_sets refers = refl
  holds_same acts other_acts sets other_sets m n (E.States xs) same_acts same_sets refers = refl
  holds_same acts other_acts sets other_sets m n (E.Node x) same_acts same_sets refers = refl
  holds_same acts other_acts sets other_sets m n (E.Not e) same_acts same_sets refers =
      ap (λ (S : SetOfStates). λ state. S state → ⊥) (same_sets e refers)
  holds_same acts other_acts sets other_sets m n (E.And e f) same_acts same_sets refers =
      ap (λ (S : SetOfStates). λ state. S state × sets f state) (same_sets e refers.0)
      ∙ ap (λ (S : SetOfStates). λ state. other_sets e state × S state) (same_sets f refers.1)
  holds_same acts other_acts sets other_sets m n (E.Or e f) same_acts same_sets refers =
      ap (λ (S : SetOfStates). λ state. S state ⊎ sets f state) (same_sets e refers.0)
      ∙ ap (λ (S : SetOfStates). λ state. other_sets e state ⊎ S state) (same_sets f refers.1)
  holds_same acts other_acts sets other_sets m n (E.After e by) same_acts same_sets refers =
      ap (λ (S : SetOfStates). λ state. IsAfter task S (acts by) state) (same_sets e refers.0)
      ∙ ap (λ (X : ActionSet). λ state. IsAfter task (other_sets e) X state) (same_acts by refers.1)
  holds_same acts other_acts sets other_sets m n (E.Before e by) same_acts same_sets refers =
      ap (λ (S : SetOfStates). λ state. IsBefore task S (acts by) state) (same_sets e refers.0)
      ∙ ap (λ (X : ActionSet). λ state. IsBefore task (other_sets e) X state)
      (same_acts by refers.1)

  -- so an added line doesn't change what an expression over the earlier sets holds
  pub holds_more : (line : Line) (older : List Line) (x : Expr) → MayFollow older line
      → ExprRefersBelow (acts_count older) (expr_count older) x
      → holds task nodes (acts_of older) (sets_of task nodes older) x
      ≡ holds task nodes (acts_of (line ∷ older)) (sets_of task nodes (line ∷ older)) x
  holds_more line older x next refers =
      holds_same (acts_of older) (acts_of (line ∷ older)) (sets_of task nodes older)
      (sets_of task nodes (line ∷ older))
      (acts_count older) (expr_count older) x (λ a below. sym (acts_more line older a next below))
      (λ e below. sym (sets_more line older e next below)) refers

  -- the states of a set are those that its line says
  pub sets_at : (lines : List Line) (e : ℕ) (x : Expr) → IsTable lines → expr_at lines e ≡ Some x
      → sets_of task nodes lines e ≡ holds task nodes (acts_of lines) (sets_of task nodes lines) x
  sets_at [] e x table h = absurd (cc)
  sets_at (L.Acts id y ∷ older) e x table h =
      sets_at older e x table.1 h ∙ holds_more (L.Acts id y) older x table.0
      (refers_below older e x table.1 h)
  sets_at (L.Expr id y ∷ older) e x table h =
      let line = L.Expr id y in
      elim (found_cases e id y x (expr_at older e) h) [
        | inl here ↦
            pick_set-true (eqb e id) (holds task nodes (acts_of older) (sets_of task nodes older) y)
            (sets_of task nodes older e)
            (eq-eqb e id here.0)
            ∙ ap (holds task nodes (acts_of older) (sets_of task nodes older)) here.1
            ∙ holds_more line older x table.0 (subst
            (ExprRefersBelow (acts_count older) (expr_count older)) here.1 table.0.back)
        | inr there ↦
            sets_more line older e table.0 (expr_below older e x table.1 there.1)
            ∙ sets_at older e x table.1 there.1
            ∙ holds_more line older x table.0 (refers_below older e x table.1 there.1)
      ]
  sets_at (L.Known id st w ps ∷ older) e x table h =
      sets_at older e x table.1 h ∙ holds_more (L.Known id st w ps) older x table.0
      (refers_below older e x table.1 h)

  -- a state of a set, by what its line says
  pub set_out : (lines : List Line) (e : ℕ) (x : Expr) → IsTable lines → expr_at lines e ≡ Some x
      → (state : List Bool)
      → sets_of task nodes lines e state → holds task nodes (acts_of lines)
      (sets_of task nodes lines) x state
  set_out lines e x table h state inside = subst
      (λ (S : SetOfStates). S state) (sets_at lines e x table h) inside

  pub set_in : (lines : List Line) (e : ℕ) (x : Expr) → IsTable lines → expr_at lines e ≡ Some x
      → (state : List Bool)
      → holds task nodes (acts_of lines) (sets_of task nodes lines) x state
      → sets_of task nodes lines e state
  set_in lines e x table h state inside = subst
      (λ (S : SetOfStates). S state) (sym (sets_at lines e x table h)) inside
