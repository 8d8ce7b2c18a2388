-- The 23 derivation rules. A rule speaks of the forms of lines and of identifiers alone: "X is `u E
-- F`" says that the line of set X has just this form. A premise says a statement where its line
-- claims just that.
use Rattle.std.specs.Prelude.{◌≡◌, ℕ, List, [], ◌∷◌, Some}
use Rattle.hv_lines.specs.Numbering.{acts_at, expr_at, statement_at}
use Rattle.hv_lines.specs.declared.line.Acts.TheVariants as A
use Rattle.hv_lines.specs.declared.line.Constant.TheVariants as C
use Rattle.hv_lines.specs.declared.line.Expr.{Expr}
use Rattle.hv_lines.specs.declared.line.Expr.TheVariants as E
use Rattle.hv_lines.specs.declared.line.Line.{Line}
use Rattle.hv_lines.specs.declared.line.Statement.{Statement}
use Rattle.hv_lines.specs.declared.line.Statement.TheVariants as T
use Rattle.hv_lines.specs.declared.line.Word.{Word}
use Rattle.hv_lines.specs.declared.line.Word.TheVariants as W

-- the line of this set has this form
abbrev pub IsExpr : List Line → ℕ → Expr → Type 0
IsExpr lines set expr = expr_at lines set ≡ Some expr

-- the premise says this
abbrev pub Says : List Line → ℕ → Statement → Type 0
Says lines premise statement = statement_at lines premise ≡ Some statement

-- the action set is that of all actions
abbrev pub IsAll : List Line → ℕ → Type 0
IsAll lines acts = acts_at lines acts ≡ Some A.All

-- `ed`: the empty set is dead
abbrev pub FitsEd : List Line → Statement → List ℕ → Type 0
FitsEd lines (T.Dead e) [] = IsExpr lines e (E.Constant C.Empty)
FitsEd lines _ _ = ⊥

-- `ud`: the union of two dead sets is dead
abbrev pub FitsUd : List Line → Statement → List ℕ → Type 0
FitsUd lines (T.Dead e) (k1 ∷ k2 ∷ []) =
    (x : ℕ) × (y : ℕ) × IsExpr lines e (E.Or x y) × Says lines k1 (T.Dead x)
    × Says lines k2 (T.Dead y)
FitsUd lines _ _ = ⊥

-- `sd`: a set within a dead set is dead
abbrev pub FitsSd : List Line → Statement → List ℕ → Type 0
FitsSd lines (T.Dead e) (k1 ∷ k2 ∷ []) = (x : ℕ) × Says lines k1 (T.Sub e x)
    × Says lines k2 (T.Dead x)
FitsSd lines _ _ = ⊥

-- `pg`: what leads only into itself or a dead set, and whose goal states are dead, is dead
abbrev pub FitsPg : List Line → Statement → List ℕ → Type 0
FitsPg lines (T.Dead e) (k1 ∷ k2 ∷ k3 ∷ []) =
    (p : ℕ) × (a : ℕ) × (u : ℕ) × (x : ℕ) × (n : ℕ) × (g : ℕ) × Says lines k1 (T.Sub p u)
    × IsExpr lines p (E.After e a)
    × IsAll lines a × IsExpr lines u (E.Or e x) × Says lines k2 (T.Dead x)
    × Says lines k3 (T.Dead n)
    × IsExpr lines n (E.And e g) × IsExpr lines g (E.Constant C.Goal)
FitsPg lines _ _ = ⊥

-- `pi`: what is outside a set that holds the initial state and leads only into itself or a dead set
-- is dead
abbrev pub FitsPi : List Line → Statement → List ℕ → Type 0
FitsPi lines (T.Dead e) (k1 ∷ k2 ∷ k3 ∷ []) =
    (s : ℕ) × (p : ℕ) × (a : ℕ) × (u : ℕ) × (x : ℕ) × (c : ℕ) × IsExpr lines e (E.Not s)
    × Says lines k1 (T.Sub p u)
    × IsExpr lines p (E.After s a) × IsAll lines a × IsExpr lines u (E.Or s x)
    × Says lines k2 (T.Dead x)
    × Says lines k3 (T.Sub c s) × IsExpr lines c (E.Constant C.Start)
FitsPi lines _ _ = ⊥

-- `rg`: what is outside a set that is led into only from itself or a dead set, the goal states out
-- there being dead, is dead
abbrev pub FitsRg : List Line → Statement → List ℕ → Type 0
FitsRg lines (T.Dead e) (k1 ∷ k2 ∷ k3 ∷ []) =
    (s : ℕ) × (r : ℕ) × (a : ℕ) × (u : ℕ) × (x : ℕ) × (n : ℕ) × (g : ℕ) × IsExpr lines e (E.Not s)
    × Says lines k1 (T.Sub r u) × IsExpr lines r (E.Before s a) × IsAll lines a
    × IsExpr lines u (E.Or s x)
    × Says lines k2 (T.Dead x) × Says lines k3 (T.Dead n) × IsExpr lines n (E.And e g)
    × IsExpr lines g (E.Constant C.Goal)
FitsRg lines _ _ = ⊥

-- `ri`: what is led into only from itself or a dead set, and doesn't hold the initial state, is
-- dead
abbrev pub FitsRi : List Line → Statement → List ℕ → Type 0
FitsRi lines (T.Dead e) (k1 ∷ k2 ∷ k3 ∷ []) =
    (r : ℕ) × (a : ℕ) × (u : ℕ) × (x : ℕ) × (c : ℕ) × (n : ℕ) × Says lines k1 (T.Sub r u)
    × IsExpr lines r (E.Before e a)
    × IsAll lines a × IsExpr lines u (E.Or e x) × Says lines k2 (T.Dead x)
    × Says lines k3 (T.Sub c n)
    × IsExpr lines c (E.Constant C.Start) × IsExpr lines n (E.Not e)
FitsRi lines _ _ = ⊥

-- `ci`: where the initial state is dead, there is no plan
abbrev pub FitsCi : List Line → Statement → List ℕ → Type 0
FitsCi lines T.Unsolvable (k1 ∷ []) = (c : ℕ) × Says lines k1 (T.Dead c)
    × IsExpr lines c (E.Constant C.Start)
FitsCi lines _ _ = ⊥

-- `cg`: where the goal states are dead, there is no plan
abbrev pub FitsCg : List Line → Statement → List ℕ → Type 0
FitsCg lines T.Unsolvable (k1 ∷ []) = (g : ℕ) × Says lines k1 (T.Dead g)
    × IsExpr lines g (E.Constant C.Goal)
FitsCg lines _ _ = ⊥

-- `ur`: a set is within its union with another on the right
abbrev pub FitsUr : List Line → Statement → List ℕ → Type 0
FitsUr lines (T.Sub e f) [] = (x : ℕ) × IsExpr lines f (E.Or e x)
FitsUr lines _ _ = ⊥

-- `ul`: a set is within its union with another on the left
abbrev pub FitsUl : List Line → Statement → List ℕ → Type 0
FitsUl lines (T.Sub e f) [] = (x : ℕ) × IsExpr lines f (E.Or x e)
FitsUl lines _ _ = ⊥

-- `ir`: an intersection is within its left part
abbrev pub FitsIr : List Line → Statement → List ℕ → Type 0
FitsIr lines (T.Sub e f) [] = (x : ℕ) × IsExpr lines e (E.And f x)
FitsIr lines _ _ = ⊥

-- `il`: an intersection is within its right part
abbrev pub FitsIl : List Line → Statement → List ℕ → Type 0
FitsIl lines (T.Sub e f) [] = (x : ℕ) × IsExpr lines e (E.And x f)
FitsIl lines _ _ = ⊥

-- `di`: intersection distributes over union
abbrev pub FitsDi : List Line → Statement → List ℕ → Type 0
FitsDi lines (T.Sub e f) [] =
    (u : ℕ) × (w : ℕ) × (x : ℕ) × (y : ℕ) × (p : ℕ) × (q : ℕ) × IsExpr lines e (E.And u w)
    × IsExpr lines u (E.Or x y)
    × IsExpr lines f (E.Or p q) × IsExpr lines p (E.And x w) × IsExpr lines q (E.And y w)
FitsDi lines _ _ = ⊥

-- `su`: a union is within what both its parts are within
abbrev pub FitsSu : List Line → Statement → List ℕ → Type 0
FitsSu lines (T.Sub e f) (k1 ∷ k2 ∷ []) =
    (x : ℕ) × (y : ℕ) × IsExpr lines e (E.Or x y) × Says lines k1 (T.Sub x f)
    × Says lines k2 (T.Sub y f)
FitsSu lines _ _ = ⊥

-- `si`: what is within two sets is within their intersection
abbrev pub FitsSi : List Line → Statement → List ℕ → Type 0
FitsSi lines (T.Sub e f) (k1 ∷ k2 ∷ []) =
    (x : ℕ) × (y : ℕ) × IsExpr lines f (E.And x y) × Says lines k1 (T.Sub e x)
    × Says lines k2 (T.Sub e y)
FitsSi lines _ _ = ⊥

-- `st`: inclusion is transitive
abbrev pub FitsSt : List Line → Statement → List ℕ → Type 0
FitsSt lines (T.Sub e f) (k1 ∷ k2 ∷ []) = (x : ℕ) × Says lines k1 (T.Sub e x)
    × Says lines k2 (T.Sub x f)
FitsSt lines _ _ = ⊥

-- `at`: fewer actions have fewer results
abbrev pub FitsAt : List Line → Statement → List ℕ → Type 0
FitsAt lines (T.Sub e f) (k1 ∷ k2 ∷ []) =
    (s : ℕ) × (b : ℕ) × (p : ℕ) × (a : ℕ) × IsExpr lines e (E.After s b) × Says lines k1 (T.Sub p f)
    × IsExpr lines p (E.After s a) × Says lines k2 (T.ActSub b a)
FitsAt lines _ _ = ⊥

-- `au`: where the results of each of two action sets are within a set, so are those of their union
abbrev pub FitsAu : List Line → Statement → List ℕ → Type 0
FitsAu lines (T.Sub e f) (k1 ∷ k2 ∷ []) =
    (s : ℕ) × (u : ℕ) × (a : ℕ) × (b : ℕ) × (p : ℕ) × (q : ℕ) × IsExpr lines e (E.After s u)
    × (acts_at lines u ≡ Some (A.Both a b)) × Says lines k1 (T.Sub p f)
    × IsExpr lines p (E.After s a)
    × Says lines k2 (T.Sub q f) × IsExpr lines q (E.After s b)
FitsAu lines _ _ = ⊥

-- `pt`: a smaller set has fewer results
abbrev pub FitsPt : List Line → Statement → List ℕ → Type 0
FitsPt lines (T.Sub e f) (k1 ∷ k2 ∷ []) =
    (x : ℕ) × (a : ℕ) × (p : ℕ) × (s : ℕ) × IsExpr lines e (E.After x a) × Says lines k1 (T.Sub p f)
    × IsExpr lines p (E.After s a) × Says lines k2 (T.Sub x s)
FitsPt lines _ _ = ⊥

-- `pu`: the results in a union are those in its parts
abbrev pub FitsPu : List Line → Statement → List ℕ → Type 0
FitsPu lines (T.Sub e f) (k1 ∷ k2 ∷ []) =
    (u : ℕ) × (a : ℕ) × (x : ℕ) × (y : ℕ) × (p : ℕ) × (q : ℕ) × IsExpr lines e (E.After u a)
    × IsExpr lines u (E.Or x y)
    × Says lines k1 (T.Sub p f) × IsExpr lines p (E.After x a) × Says lines k2 (T.Sub q f)
    × IsExpr lines q (E.After y a)
FitsPu lines _ _ = ⊥

-- `pr`: where all results of a set are within another, the states with a result outside the other
-- are outside the set
abbrev pub FitsPr : List Line → Statement → List ℕ → Type 0
FitsPr lines (T.Sub e f) (k1 ∷ []) =
    (m : ℕ) × (a : ℕ) × (x : ℕ) × (s : ℕ) × (p : ℕ) × IsExpr lines e (E.Before m a)
    × IsExpr lines m (E.Not x)
    × IsExpr lines f (E.Not s) × Says lines k1 (T.Sub p x) × IsExpr lines p (E.After s a)
FitsPr lines _ _ = ⊥

-- `rp`: where the states with a result outside one set are outside another, all results of the
-- other are within the one
abbrev pub FitsRp : List Line → Statement → List ℕ → Type 0
FitsRp lines (T.Sub e f) (k1 ∷ []) =
    (s : ℕ) × (a : ℕ) × (r : ℕ) × (n : ℕ) × (m : ℕ) × IsExpr lines e (E.After s a)
    × Says lines k1 (T.Sub r n)
    × IsExpr lines r (E.Before m a) × IsExpr lines m (E.Not f) × IsExpr lines n (E.Not s)
FitsRp lines _ _ = ⊥

-- the rule of this word fits: with this statement and these premises, after these lines (the newest
-- first)
abbrev pub Fits : List Line → Statement → Word → List ℕ → Type 0
Fits lines statement W.B1 premises = ⊥
Fits lines statement W.B2 premises = ⊥
Fits lines statement W.B3 premises = ⊥
Fits lines statement W.B4 premises = ⊥
Fits lines statement W.B5 premises = ⊥
Fits lines statement W.Ed premises = FitsEd lines statement premises
Fits lines statement W.Ud premises = FitsUd lines statement premises
Fits lines statement W.Sd premises = FitsSd lines statement premises
Fits lines statement W.Pg premises = FitsPg lines statement premises
Fits lines statement W.Pi premises = FitsPi lines statement premises
Fits lines statement W.Rg premises = FitsRg lines statement premises
Fits lines statement W.Ri premises = FitsRi lines statement premises
Fits lines statement W.Ci premises = FitsCi lines statement premises
Fits lines statement W.Cg premises = FitsCg lines statement premises
Fits lines statement W.Ur premises = FitsUr lines statement premises
Fits lines statement W.Ul premises = FitsUl lines statement premises
Fits lines statement W.Ir premises = FitsIr lines statement premises
Fits lines statement W.Il premises = FitsIl lines statement premises
Fits lines statement W.Di premises = FitsDi lines statement premises
Fits lines statement W.Su premises = FitsSu lines statement premises
Fits lines statement W.Si premises = FitsSi lines statement premises
Fits lines statement W.St premises = FitsSt lines statement premises
Fits lines statement W.At premises = FitsAt lines statement premises
Fits lines statement W.Au premises = FitsAu lines statement premises
Fits lines statement W.Pt premises = FitsPt lines statement premises
Fits lines statement W.Pu premises = FitsPu lines statement premises
Fits lines statement W.Pr premises = FitsPr lines statement premises
Fits lines statement W.Rp premises = FitsRp lines statement premises
