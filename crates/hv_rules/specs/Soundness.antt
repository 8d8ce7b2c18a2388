-- What it means that the derivation rules are sound (Eriksson, Röger and Helmert, 2018).
use Rattle.std.specs.Prelude.{ℕ, List}
use Rattle.std.specs.List.{Contains}
use Rattle.hv_task.specs.Strips.{Strips}
use Rattle.hv_bdd.specs.Nodes.{NodeList}
use Rattle.hv_lines.specs.declared.line.Line.{Line}
use Rattle.hv_lines.specs.declared.line.Statement.{Statement}
use Rattle.hv_lines.specs.declared.line.Word.{Word}
use Rattle.hv_lines.specs.Numbering.{IsTable}
use Rattle.hv_lines.specs.Meaning.{IsTrueStatement}
use Rattle.hv_lines.specs.Rules.{Says, Fits}

-- what each of the premises says is true, of the sets that these lines name
abbrev pub PremisesAreTrue : Strips → NodeList → List Line → List ℕ → Type 0
PremisesAreTrue task nodes lines premises =
    (premise : ℕ) (statement : Statement) → Contains premises premise → Says lines premise statement
    → IsTrueStatement task nodes lines statement

-- in a table of lines: where the rule of some word fits and its premises are true, the statement is
-- true
abbrev pub RulesAreSound : Strips → NodeList → Type 0
RulesAreSound task nodes =
    (lines : List Line) → IsTable lines → (statement : Statement) (word : Word) (premises : List ℕ)
    → PremisesAreTrue task nodes lines premises → Fits lines statement word premises
    → IsTrueStatement task nodes lines statement
