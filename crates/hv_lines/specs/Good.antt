-- When a line is good after the lines accepted before it, and the reason why another isn't.
use Rattle.std.specs.Prelude.{◌<◌, ℕ, List, [], ◌∷◌, MatchBool, length}
use Rattle.std.specs.List.{All}
use Rattle.hv_task.specs.State.{AreBelow}
use Rattle.hv_task.specs.Strips.{Strips, atoms}
use Rattle.hv_sets.specs.Kinds.{IsDualHornClause, IsHornClause, IsTwoClause}
use Rattle.hv_sets.specs.declared.literal.Literal.{Literal}
use Rattle.hv_lines.specs.Spelling.{IsSpelled}
use Rattle.hv_lines.specs.Numbering.{IsNumbered, RefersBack}
use Rattle.hv_lines.specs.Rules.{Fits}
use Rattle.hv_lines.specs.Order.{Test}
use Rattle.hv_lines.specs.Order as O
use Rattle.hv_lines.specs.Setting.{Setting}
use Rattle.hv_lines.specs.Shapes.{HasShape}
use Rattle.hv_lines.specs.Verdicts.{IsVerdict}
use Rattle.hv_lines.specs.Words.{word_row}
use Rattle.hv_bdd.specs.Nodes.{NodeList, IsNode}
use Rattle.hv_lines.specs.declared.line.Acts.{Acts}
use Rattle.hv_lines.specs.declared.line.Acts.TheVariants as A
use Rattle.hv_lines.specs.declared.line.Expr.{Expr}
use Rattle.hv_lines.specs.declared.line.Expr.TheVariants as E
use Rattle.hv_lines.specs.declared.line.Line.{Line}
use Rattle.hv_lines.specs.declared.line.Line.TheVariants as L
use Rattle.hv_lines.specs.declared.line.Statement.{Statement}
use Rattle.hv_lines.specs.declared.line.Word.{Word}
use Rattle.hv_lines.specs.declared.reason.Clash.{Clash}
use Rattle.hv_lines.specs.declared.verdict.Verdict.{Verdict}
use Rattle.hv_lines.specs.declared.verdict.Verdict.TheVariants as V

-- the action set names actions of the task alone
abbrev pub ActsAreWithin : Strips → Acts → Type 0
ActsAreWithin task A.All = Unit {0}
ActsAreWithin task (A.List actions) = AreBelow (length task.actions) actions
ActsAreWithin task (A.Both left right) = Unit {0}

-- the clauses name atoms below this number alone
abbrev pub ClausesAreBelow : ℕ → List (List Literal) → Type 0
ClausesAreBelow bound clauses = All (All (λ l. l.atom < bound)) clauses

-- the set names atoms of the task and nodes of the list alone
abbrev pub ExprIsWithin : Strips → NodeList → Expr → Type 0
ExprIsWithin task nodes (E.Constant constant) = Unit {0}
ExprIsWithin task nodes (E.Horn clauses) = ClausesAreBelow (atoms task) clauses
ExprIsWithin task nodes (E.Dual clauses) = ClausesAreBelow (atoms task) clauses
ExprIsWithin task nodes (E.Two clauses) = ClausesAreBelow (atoms task) clauses
ExprIsWithin task nodes (E.States states) = All (AreBelow (atoms task)) states
ExprIsWithin task nodes (E.Node node) = IsNode nodes node
ExprIsWithin task nodes (E.Not set) = Unit {0}
ExprIsWithin task nodes (E.And left right) = Unit {0}
ExprIsWithin task nodes (E.Or left right) = Unit {0}
ExprIsWithin task nodes (E.After set by) = Unit {0}
ExprIsWithin task nodes (E.Before set by) = Unit {0}

-- the line names actions and atoms of the task and nodes of the list alone
abbrev pub NamesWithin : Strips → NodeList → Line → Type 0
NamesWithin task nodes (L.Acts id acts) = ActsAreWithin task acts
NamesWithin task nodes (L.Expr id expr) = ExprIsWithin task nodes expr
NamesWithin task nodes (L.Known id statement word premises) = Unit {0}

-- all that the line refers to is there
abbrev pub IsKnown : Strips → NodeList → List Line → Line → Type 0
IsKnown task nodes lines line = RefersBack lines line × NamesWithin task nodes line

-- the word is one of the 23 derivation rules
abbrev pub IsRuleWord : Word → Type 0
IsRuleWord word = MatchBool (word_row word).is_rule (Unit {0}) ⊥

-- where the line is justified by a derivation rule, the rule fits
abbrev pub RuleHolds : List Line → Line → Type 0
RuleHolds lines (L.Acts id acts) = Unit {0}
RuleHolds lines (L.Expr id expr) = Unit {0}
RuleHolds lines (L.Known id statement word premises) = IsRuleWord word
    → Fits lines statement word premises

-- the word is that of a basic statement
abbrev pub IsBasicWord : Word → Type 0
IsBasicWord word = MatchBool (word_row word).is_rule ⊥ (Unit {0})

-- the clauses of a Horn formula are Horn clauses, those of a dual Horn formula dual Horn clauses,
-- and those of a 2CNF formula have at most two different literals
abbrev pub IsOfItsFamily : Expr → Type 0
IsOfItsFamily (E.Constant constant) = Unit {0}
IsOfItsFamily (E.Horn clauses) = All IsHornClause clauses
IsOfItsFamily (E.Dual clauses) = All IsDualHornClause clauses
IsOfItsFamily (E.Two clauses) = All IsTwoClause clauses
IsOfItsFamily (E.States states) = Unit {0}
IsOfItsFamily (E.Node node) = Unit {0}
IsOfItsFamily (E.Not set) = Unit {0}
IsOfItsFamily (E.And left right) = Unit {0}
IsOfItsFamily (E.Or left right) = Unit {0}
IsOfItsFamily (E.After set by) = Unit {0}
IsOfItsFamily (E.Before set by) = Unit {0}

-- where the line has a formula, its clauses are of the family
abbrev pub FamilyFits : Line → Type 0
FamilyFits (L.Acts id acts) = Unit {0}
FamilyFits (L.Expr id expr) = IsOfItsFamily expr
FamilyFits (L.Known id statement word premises) = Unit {0}

-- where the line is justified by a basic statement, this holds of the statement and its word
abbrev pub WhereBasic : (Statement → Word → Type 0) → Line → Type 0
WhereBasic Holds (L.Acts id acts) = Unit {0}
WhereBasic Holds (L.Expr id expr) = Unit {0}
WhereBasic Holds (L.Known id statement word premises) = IsBasicWord word → Holds statement word

-- the statement with its word hasn't this verdict
abbrev pub HasNotVerdict : Setting → List Line → Verdict → Statement → Word → Type 0
HasNotVerdict setting lines verdict statement word =
    IsVerdict setting lines statement word verdict → ⊥

-- the statement with its word is true, so far as it is decided
abbrev pub HasVerdictTrue : Setting → List Line → Statement → Word → Type 0
HasVerdictTrue setting lines statement word = IsVerdict setting lines statement word V.True

-- the line passes the test, after these lines, of which the newest is the first; whether it is too
-- long is seen at the piece that spells it
abbrev pub LinePasses : Setting → List Line → Line → Test → Type 0
LinePasses setting lines line O.Length = Unit {0}
LinePasses setting lines line O.Spelling = IsSpelled line
LinePasses setting lines line O.Number = IsNumbered lines line
LinePasses setting lines line O.Reference = IsKnown setting.task setting.nodes lines line
LinePasses setting lines line O.Family = FamilyFits line
LinePasses setting lines line O.Rule = RuleHolds lines line
LinePasses setting lines line O.Shape = WhereBasic (HasShape lines) line
LinePasses setting lines line O.Offered =
    WhereBasic (HasNotVerdict setting lines V.NotOffered) line
LinePasses setting lines line O.Budget = WhereBasic (HasNotVerdict setting lines V.Over) line
LinePasses setting lines line O.Truth = WhereBasic (HasVerdictTrue setting lines) line

-- the counterexample is one to the basic statement by which the line is justified
abbrev pub IsRefutedBy : Setting → List Line → Line → Clash → Type 0
IsRefutedBy setting lines (L.Acts id acts) clash = ⊥
IsRefutedBy setting lines (L.Expr id expr) clash = ⊥
IsRefutedBy setting lines (L.Known id statement word premises) clash =
    IsVerdict setting lines statement word (V.False clash)

-- the line is good after these lines: it passes each test
abbrev pub IsGood : Setting → List Line → Line → Type 0
IsGood setting lines line = (test : Test) → LinePasses setting lines line test

-- each line is good after those before it; the newest is the first
abbrev pub AreGood : Setting → List Line → Type 0
AreGood setting [] = Unit {0}
AreGood setting (line ∷ older) = IsGood setting older line × AreGood setting older
