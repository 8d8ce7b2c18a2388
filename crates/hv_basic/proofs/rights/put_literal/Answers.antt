use Rattle.hv_basic.proofs.Literals.{literal_put}
use Rattle.hv_basic.proofs.rights.put_literal.Goals as goal

pub returns : goal.returns
returns c = λ other has.
    literal_put c.args.enough.now c.insert.new.self c.args.literal other
    c.in_ok-insert.ensures.updates has
