use Rattle.std.proofs.Common.{◌∙◌, List, subst, sym}
use Rattle.hv_bdd.specs.declared.asked.Asked.{Asked}
use Rattle.hv_bdd.specs.Working.Untouched.{FindNothing}
use Rattle.hv_bdd.proofs.Gone.{sweep_finds_nothing}
use Rattle.hv_bdd.proofs.tuple_search.Search.keep_places.Goals as goal

pub returns-then-marks_none-clause-known : goal.returns-then-marks_none-clause-known
returns-then-marks_none-clause-known c =
    let s = c.args.self.now in
    let flags = c.note_places.new.places in
    record {
      size = c.note_places.ensures.size ∙ c.requires.known.size;
      nothing =
          subst (λ (os : List Asked). FindNothing s.setting.list s.setting.start s.setting.goal os
          flags c.args.count) (sym c.requires.asked)
          (sweep_finds_nothing s c.args.count c.args.places.now c.requires.swept flags
          (c.marks_none-2.ensures.needed c.if-marks_none.true)
          (c.marks_none-2.ensures.changed c.if-marks_none.true)
          c.note_places.ensures.noted);
    }
