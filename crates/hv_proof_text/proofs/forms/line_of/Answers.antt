use Rattle.std.proofs.Common.{MatchOption}
use Rattle.std.proofs.lemmas.Result.{IfOk-weaker}
use Rattle.hv_bytes.specs.Working.Fields.{fields_behind}
use Rattle.hv_lines.specs.Spelling.{Spells}
use Rattle.hv_lines.specs.declared.line.Line.{Line}
use Rattle.hv_proof_text.specs.Working.Forms.{LineForm}
use Rattle.hv_proof_text.specs.Working.Gathering.{StandFor}
use Rattle.hv_proof_text.proofs.LineFields.{line_behind, no_head}
use Rattle.hv_proof_text.proofs.forms.line_of.Goals as goal

pub returns-in-Some : goal.returns-in-Some
returns-in-Some c =
    let head = c.in-Some.head in
    let fields = fields_behind head.rest (λ f. f.now) in
    IfOk-weaker c.line_by.result
    (λ found. MatchOption found ((line : Line)
    → StandFor (λ ts. LineForm head.letter head.id head.kind ts line) fields → ⊥)
    (λ line. StandFor (λ ts. LineForm head.letter head.id head.kind ts line) fields))
    (λ found. MatchOption found ((line : Line) → Spells line c.args.bytes.now → ⊥)
    (λ line. Spells line c.args.bytes.now))
    (λ found. line_behind c.args.bytes.now head.letter head.id head.kind fields found
    c.in-Some.ensures.0 c.in-Some.ensures.1)
    c.line_by.ensures

pub returns-in-None : goal.returns-in-None
returns-in-None c = no_head c.args.bytes.now c.in-None.ensures
