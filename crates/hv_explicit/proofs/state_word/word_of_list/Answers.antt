use Rattle.hv_explicit.proofs.Packed.{word_of_list}
use Rattle.hv_explicit.proofs.state_word.word_of_list.Goals as goal

pub returns : goal.returns
returns c =
    word_of_list c.args.held.now c.list_code.result c.list_code.type_inv c.requires.rises
    c.requires.below c.list_code.ensures
