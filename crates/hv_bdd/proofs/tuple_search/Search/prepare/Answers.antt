use Rattle.std.proofs.Common.{◌∙◌, ap, sym, get_or}
use Rattle.hv_bdd.proofs.Found.{tuple_read}
use Rattle.hv_bdd.proofs.tuple_search.Search.prepare.Goals as goal

pub least-place-requires : goal.least-place-requires
least-place-requires c =
    tuple_read c.args.self.now c.args.done c.args.reached.now c.requires.explored c.args.done
    c.index-as_slice-done.result c.as_slice-2.result.now c.requires.done
    (ap (λ keys. get_or keys c.args.done c.index-as_slice-done.result) (sym c.as_slice.ensures.keys)
    ∙ sym c.index-as_slice-done.is)
    c.as_slice-2.ensures
