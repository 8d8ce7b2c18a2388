use Rattle.std.proofs.Common.{List, length, subst, sym, ℕ}
use Rattle.hv_bdd.specs.declared.asked.Asked.{Asked}
use Rattle.hv_bdd.specs.Working.Untouched.{FindNothing}
use Rattle.hv_bdd.proofs.Alike.{finds_nothing}
use Rattle.hv_bdd.proofs.tuple_search.Search.keep_in.Goals as goal

pub returns-then-marks_none-clause-known : goal.returns-then-marks_none-clause-known
returns-then-marks_none-clause-known c =
    let s = c.args.self.now in
    let reached = c.args.reached.now in
    let places = c.note.new.places in
    record {
      size = c.note.ensures.places;
      nothing =
          subst (λ (n : ℕ). FindNothing s.setting.list s.setting.start s.setting.goal
          c.args.known.now.asked.items places n) (sym c.len-count.ensures.len)
          (subst (λ (os : List Asked). FindNothing s.setting.list s.setting.start s.setting.goal os
          places (length reached.tuples.keys)) (sym c.requires.asked)
          (finds_nothing s c.requires.done.0 reached c.requires.done.1 c.requires.done.2 places
          (c.marks_none-2.ensures.needed c.if-marks_none.true)
          (c.marks_none-2.ensures.changed c.if-marks_none.true)
          (c.note.ensures.noted c.if-not-note.false)));
    }
