use Rattle.std.proofs.Common.{◌∙◌, ap, sym, arith, get_or}
use Rattle.hv_bdd.specs.Live.{moves}
use Rattle.hv_bdd.specs.Tuples.{least}
use Rattle.hv_bdd.proofs.Found.{agrees_back, atom_less, fits_back, parent_less, tuple_read}
use Rattle.hv_bdd.proofs.tuple_search.Search.take_bits.Goals as goal

pub least-place-requires : goal.least-place-requires
least-place-requires c =
    let less = parent_less c.args.self.now c.requires.explored.0 c.args.reached.now
    c.requires.explored.1 c.loop-at.at c.loop-at-test.true c.loop-at.invariant.within
    c.index-link.result.now c.index-link.ensures in
    let within = c.loop-at.invariant.within in
    tuple_read c.args.self.now c.requires.explored.0 c.args.reached.now c.requires.explored.1
    c.index-link.result.now.parent c.index-as_slice-link.result c.as_slice-in-loop-at.result.now
    (omega arith)
    (ap (λ keys. get_or keys c.index-link.result.now.parent c.index-as_slice-link.result)
    (sym c.as_slice.ensures.keys) ∙ sym c.index-as_slice-link.is)
    c.as_slice-in-loop-at.ensures

pub set-requires : goal.set-requires
set-requires c =
    let size = c.loop-at.invariant.fits.0 in
    let less = atom_less c.args.self.now c.requires.explored.0 c.args.reached.now
    c.requires.explored.1 c.loop-at.at c.loop-at-test.true c.loop-at.invariant.within
    c.index-link.result.now c.index-link.ensures
    c.index-as_slice-link.result c.least-place.result c.atom_at.result
    (ap (λ keys. get_or keys c.index-link.result.now.parent c.index-as_slice-link.result)
    (sym c.as_slice.ensures.keys) ∙ sym c.index-as_slice-link.is)
    (c.least-place.ensures ∙ ap (least (moves c.args.self.now.setting) c.args.self.now.asked)
    c.as_slice-in-loop-at.ensures)
    c.atom_at.ensures.atom in omega arith

pub loop-at-preserved : goal.loop-at-preserved
loop-at-preserved c =
    let read = ap (λ keys. get_or keys c.index-link.result.now.parent c.index-as_slice-link.result)
    (sym c.as_slice.ensures.keys) ∙ sym c.index-as_slice-link.is in
    let place = c.least-place.ensures ∙ ap
    (least (moves c.args.self.now.setting) c.args.self.now.asked)
    c.as_slice-in-loop-at.ensures in
    let less = parent_less c.args.self.now c.requires.explored.0 c.args.reached.now
    c.requires.explored.1 c.loop-at.at c.loop-at-test.true c.loop-at.invariant.within
    c.index-link.result.now c.index-link.ensures in
    let within = c.loop-at.invariant.within in
    record {
      within = omega arith;
      fits = fits_back c.args.self.now c.requires.explored.0 c.args.reached.now
          c.requires.explored.1 c.loop-at.at c.loop-at-test.true c.loop-at.invariant.within
          c.index-link.result.now c.index-link.ensures
          c.index-as_slice-link.result c.least-place.result c.atom_at.result read place
          c.atom_at.ensures.atom
          c.loop-at.state c.set.new.self c.set.ensures c.loop-at.invariant.fits;
      agrees = agrees_back c.args.self.now c.requires.explored.0 c.args.reached.now
          c.requires.explored.1 c.loop-at.at c.loop-at-test.true c.loop-at.invariant.within
          c.index-link.result.now c.index-link.ensures
          c.index-as_slice-link.result c.least-place.result c.atom_at.result read place
          c.atom_at.ensures.atom
          c.loop-at.state c.set.new.self c.set.ensures c.loop-at.invariant.fits
          c.loop-at.invariant.agrees;
    }
