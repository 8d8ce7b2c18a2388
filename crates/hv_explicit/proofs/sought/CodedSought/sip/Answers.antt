use Rattle.hv_explicit.proofs.Coded.{sip_of_list}
use Rattle.hv_explicit.proofs.sought.CodedSought.sip.Goals as goal

pub returns : goal.returns
returns c = sip_of_list c.args.self.now.atoms.now c.list_sip.result c.args.self.now.rises
    c.list_sip.ensures
