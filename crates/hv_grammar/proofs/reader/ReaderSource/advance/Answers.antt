use Rattle.std.proofs.Common.{refl, rules}
use Rattle.hv_grammar.proofs.Advanced.{end_next, is_going, is_next, line_next, long_next}
use Rattle.hv_grammar.proofs.reader.ReaderSource.advance.Goals as goal

pub returns : goal.returns
returns g c =
    let e = c.next.ensures in
    record {
      next = is_next _ _ c.next.result
          (λ is. line_next _ _ (e.line is) (search rules) (e.fits is) e.limits (e.number is)
          (e.counted is)
          (is_going c.args.self.now.lines.now.ended (λ h. search rules)))
          (λ is. end_next _ _ (e.end is) (e.same is))
          (λ is. long_next _ _ (e.long is) (search rules))
          (λ is. e.cause is);
      keeps = record {
        shelf = refl;
        held = e.held;
        allows = e.allows;
        later = e.later;
        limits =
            e.limits;
      };
      can = search rules;
    }
