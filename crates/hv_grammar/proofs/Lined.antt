-- One line, and the end of the input.
use Rattle.std.proofs.Common.{◌≡◌, ℕ, ◌+◌, ◌∙◌, List}
use Rattle.std.proofs.Common.{Ok, Err, ap, sym, subst}
use Rattle.std.specs.Prelude.{IsErrAnd, Result}
use Rattle.hv_grammar.specs.declared.fault.ParseFault.{ParseFault}
use Rattle.hv_grammar.specs.declared.fault.ParseFault.TheVariants as F
use Rattle.hv_grammar.specs.Parsers.{line, long, parsed}
use Rattle.hv_grammar.specs.Parsers.{pure, refused, tested}
use Rattle.hv_grammar.specs.Positions.{Position}
use Rattle.hv_grammar.specs.Reads.{Fetches, IsFetched, Reads, Yields, at_number}
use Rattle.hv_grammar.proofs.Going.{stop_last}
use Rattle.hv_grammar.proofs.Pieced.{at_bad, at_end, at_long, over_line}

module _ {A B : Type 0} (lacking : B) (test : List ℕ → Result A B) where
  line_ok : (a : A) (old new : Position) → Fetches old new lacking (Ok tt)
      → test new.lines.line ≡ Ok a → Reads (line lacking test) old new (Ok a)
  line_ok a old new r t = record {
    yields = over_line old new (line lacking test old.lines.number) (pure a new.lines.number)
        r.fetched (λ qs. ap (tested (old.lines.number + 1) qs) t
        ∙ ap (λ n. parsed a n qs) (sym r.fetched.number));
    keeps = r.keeps;
    can = r.can;
  }

  line_bad : (b : B) (old new : Position) → Fetches old new lacking (Ok tt)
      → test new.lines.line ≡ Err b
      → Reads (line lacking test) old new (Err (F.Refused new.lines.number b))
  line_bad b old new r t = record {
    yields = at_bad old new (line lacking test old.lines.number) (refused new.lines.number b)
        r.fetched (λ qs. ap (tested (old.lines.number + 1) qs) t
        ∙ ap (λ n. refused n b) (sym r.fetched.number));
    keeps = r.keeps;
    can = tt;
  }

  -- a line that was asked for, and what the test says of it
  pub line_read : (said : Result A B) (old new : Position) (result : Result A (ParseFault B))
      → Fetches old new lacking (Ok tt) → said ≡ test new.lines.line
      → result ≡ at_number new.lines.number said → Reads (line lacking test) old new result
  line_read (Ok a) old new result r t is =
      subst (λ x. Reads (line lacking test) old new x) (sym is) (line_ok a old new r (sym t))
  line_read (Err b) old new result r t is =
      subst (λ x. Reads (line lacking test) old new x) (sym is) (line_bad b old new r (sym t))

  line_yields : (e : ParseFault B) (old new : Position) → IsFetched old new lacking (Err e)
      → Yields (line lacking test) old new (Err e)
  line_yields (F.Refused n b) old new r =
      at_end old new (line lacking test old.lines.number) (refused n b) r.0
      (ap (λ m. refused m lacking) (sym r.1) ∙ ap (refused n) (sym r.2))
  line_yields (F.Long n) old new r =
      at_long old new (line lacking test old.lines.number) (long n) r.0 (ap long (sym r.1))
  line_yields F.ReadFault old new r = r
  line_yields F.Memory old new r = tt

  -- a line that can't be had
  pub line_stop : (e : ParseFault B) (old new : Position) (result : Result A (ParseFault B))
      → Fetches old new lacking (Err e) → IsErrAnd result (λ f. f ≡ e)
      → Reads (line lacking test) old new result
  line_stop e old new result r is =
      stop_last (line lacking test) e old new result
      (record { yields = line_yields e old new r.fetched; keeps = r.keeps; can = tt }) is
