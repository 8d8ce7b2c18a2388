use Rattle.memchr.specs.Find.{is_byte}
use Rattle.hv_bytes.proofs.Places.{first_place}
use Rattle.hv_bytes.proofs.splitting.find_near.Goals as goal

pub returns : goal.returns
returns c =
    let takes = c.next.ensures.steps in
    let given = c.memchr_iter.ensures.value in
    first_place (is_byte c.args.byte) c.args.bytes.now c.next.result c.next.new.self
    (rw given at takes)
