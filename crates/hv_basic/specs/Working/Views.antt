-- Basic statements as contracts see them.
use Rattle.hv_lines.specs.Shapes.{BasicState, OfSets, OfTwo, OfActs, QuestionState}
use Rattle.hv_basic.specs.declared.basic.BasicKind.{BasicKind}
use Rattle.hv_basic.specs.declared.basic.BasicKind.TheVariants as K
use Rattle.hv_basic.specs.declared.basic.Question.{Question as StoredQuestion}

-- the question that is stored
abbrev pub question_of : StoredQuestion → QuestionState
question_of q = record {
  family = q.family;
  positive = q.positive.items;
  negative = q.negative.items;
  acts = q.acts;
}

-- the basic statement of a kind
abbrev pub basic_of : BasicKind → BasicState
basic_of (K.Sets word question) = OfSets word (question_of question)
basic_of (K.Two left right) = OfTwo (left.set, left.is_plain) (right.set, right.is_plain)
basic_of (K.Acts first second) = OfActs first second
