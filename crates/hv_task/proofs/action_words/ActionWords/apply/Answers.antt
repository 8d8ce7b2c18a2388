use Rattle.hv_task.proofs.Turned.{turned_successor}
use Rattle.hv_task.proofs.action_words.ActionWords.apply.Goals as goal

pub returns-clause-successor : goal.returns-clause-successor
returns-clause-successor c = λ action rows.
    turned_successor action c.args.state.now c.turn.new.self c.args.self.now.add
    c.args.self.now.del rows.add rows.del c.turn.ensures.atoms c.turn.ensures.turned
