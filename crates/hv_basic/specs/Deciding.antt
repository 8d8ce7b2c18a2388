-- What is decided: basic statements over a table, in a setting.
use Rattle.std.specs.Prelude.{◌<◌, ℕ, List}
use Rattle.hv_lines.specs.Numbering.{acts_count}
use Rattle.hv_lines.specs.Shapes.{AreOfTwoFamilies, BasicState, OfSets, OfTwo, OfActs, IsQuestion}
use Rattle.hv_lines.specs.Shapes.{QuestionState}
use Rattle.hv_lines.specs.declared.line.Line.{Line}
use Rattle.hv_lines.specs.declared.line.Word.{Word}

-- the question is that of some statement
pub record IsQuestionOver (lines : List Line) (question : QuestionState) : Type 0 where
  pub word : Word
  pub left : ℕ
  pub right : ℕ
  pub is : IsQuestion lines word left right question

-- the basic statement is one over these lines: it asks what some statement with its shape asks
abbrev pub IsBasicOver : List Line → BasicState → Type 0
IsBasicOver lines (OfSets word question) = IsQuestionOver lines question
IsBasicOver lines (OfTwo x y) = AreOfTwoFamilies lines x.0 y.0
IsBasicOver lines (OfActs first second) = (first < acts_count lines) × (second < acts_count lines)
