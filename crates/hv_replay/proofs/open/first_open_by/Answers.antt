use Rattle.hv_replay.proofs.open.first_open_by.Goals as goal

pub loop-place-init : goal.loop-place-init
loop-place-init c = record {
  before = c.requires.before;
  asked = c.requires.asked;
  lead = c.requires.lead;
  state = c.requires.state;
}
