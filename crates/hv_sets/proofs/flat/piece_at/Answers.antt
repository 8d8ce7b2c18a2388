use Rattle.std.proofs.Common.{◌≤◌, ◌∙◌, ℕ, sym, ap, subst, get_or, Some}
use Rattle.std.specs.Prelude.{slice_range}
use Rattle.hv_sets.proofs.Pieces as lemma
use Rattle.hv_sets.proofs.flat.piece_at.Goals as goal

pub between-requires : goal.between-requires
between-requires g c =
    let both = lemma.piece_within c.args.items.now 0 c.args.ends.now c.args.place
    c.requires.ended c.requires.place in
    record {
      start = subst (λ (n : ℕ). n ≤ get_or c.args.ends.now c.args.place 0) (sym c.start_of.ensures)
          both.0;
      end = both.1;
    }

pub returns : goal.returns
returns g c =
    lemma.piece_at c.args.items.now 0 c.args.ends.now c.args.place c.requires.place
    ∙ ap Some (sym (c.between.ensures ∙ ap
    (λ (n : ℕ). slice_range c.args.items.now n (get_or c.args.ends.now c.args.place 0))
    c.start_of.ensures))
