use Rattle.hv_clauses.specs.Inquiry.{InquiryState}
use Rattle.hv_clauses.proofs.Asking.{answer_same}
use Rattle.hv_clauses.proofs.find.ask_in.Goals as goal

pub returns-clause-answer : goal.returns-clause-answer
returns-clause-answer g c =
    let q = c.args.query.now in
    let asked : InquiryState = record {
      task = c.args.task.now;
      store = c.args.store.now;
      positive = q.positive;
      negative = q.negative;
      budget = c.args.budget;
    } in
    let made = c.new-inquiry.ensures in
    answer_same c.ask.result c.ask.new.state q.action c.new-inquiry.result asked made.task
    made.store made.positive made.negative made.budget c.ask.ensures.answer
