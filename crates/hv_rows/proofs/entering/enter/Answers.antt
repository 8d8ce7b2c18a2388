use Rattle.std.proofs.Common.{◌∙◌, Some, ap, arith, length, refl, set}
use Rattle.std.proofs.lemmas.List.{get_or-set_same, length-set}
use Rattle.std.proofs.lemmas.Option.{slice_get-get_or, slice_get_read}
use Rattle.hv_rows.proofs.Entered.{set_elsewhere}
use Rattle.hv_rows.proofs.entering.enter.Goals as goal

pub returns-clause-entered : goal.returns-clause-entered
returns-clause-entered c =
    let rows = c.args.rows.now.items in
    let place = c.args.place in
    let new = c.push.new.self in
    record {
      was = c.index_mut.result.now;
      row = new;
      had = slice_get_read rows (length rows) place c.index_mut.result.now refl c.requires
          c.index_mut.ensures.value;
      has = slice_get-get_or (set rows place new) place new
          (let less = c.requires in omega (arith, less, length-set rows place new))
          ∙ ap Some (get_or-set_same rows place new new c.requires);
      items = c.in_ok-push.ensures.items;
      others = λ other differs. set_elsewhere rows place other new differs;
    }
