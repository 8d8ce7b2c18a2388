use Rattle.std.proofs.Common.{◌≡◌, ◌+◌, true, false, arith, inl, inr, refl}
use Rattle.std.proofs.lemmas.Bool.{cases_lt}
use Rattle.hv_explicit.proofs.Merging.{none_left, run_fails, run_same}
use Rattle.hv_explicit.proofs.results.is_rest_made.Goals as goal

pub returns-then-stand-many : goal.returns-then-stand-many
returns-then-stand-many c =
    let r = c.requires in
    let s = c.args.stand in
    let run = c.alike-many.ensures in (
      λ e. let f : false ≡ true = e in absurd cc,
      λ same. absurd (run_fails c.args.list.now c.args.held.now c.args.add.now c.args.del.now
          r.list r.held r.add r.del s r.stand.0 r.stand.1 c.alike-many.result run.list run.held
          run.same 4294967296
          (λ p upto less. none_left c.args.add.now r.add s.added r.stand.0 r.stand.1.add_split
          r.end.0 p upto)
          (λ p upto less. none_left c.args.del.now r.del s.deleted r.stand.0 r.stand.1.del_split
          r.end.1 p upto) same run.stop
          (inl (
            c.if-stand-many.true,
            (let fits = c.type_inv.list (s.listed + c.alike-many.result) in omega (arith, fits)),
          ))),
    )

pub returns-then-stand-many-2 : goal.returns-then-stand-many-2
returns-then-stand-many-2 c =
    let r = c.requires in
    let s = c.args.stand in
    let run = c.alike-many.ensures in (
      λ e. let f : false ≡ true = e in absurd cc,
      λ same. absurd (run_fails c.args.list.now c.args.held.now c.args.add.now c.args.del.now
          r.list r.held r.add r.del s r.stand.0 r.stand.1 c.alike-many.result run.list run.held
          run.same 4294967296
          (λ p upto less. none_left c.args.add.now r.add s.added r.stand.0 r.stand.1.add_split
          r.end.0 p upto)
          (λ p upto less. none_left c.args.del.now r.del s.deleted r.stand.0 r.stand.1.del_split
          r.end.1 p upto) same run.stop
          (inr (
            c.if-stand-many-2.true,
            (let fits = c.type_inv.held (s.held + c.alike-many.result) in omega (arith, fits)),
          ))),
    )

pub returns : goal.returns
returns c =
    let r = c.requires in
    let s = c.args.stand in
    let run = c.alike-many.ensures in
    let listed = c.if-stand-many.false in
    let kept = c.if-stand-many-2.false in (
      λ e p. elim (cases_lt p r.stand.0) [
        | inl old ↦ r.stand.1.same p old
        | inr new ↦ run_same c.args.list.now c.args.held.now c.args.add.now c.args.del.now
            r.list r.held r.add r.del s r.stand.0 r.stand.1 c.alike-many.result run.list run.held
            run.same p new
            (none_left c.args.add.now r.add s.added r.stand.0 r.stand.1.add_split r.end.0 p new)
            (none_left c.args.del.now r.del s.deleted r.stand.0 r.stand.1.del_split r.end.1 p new)
            (λ within. absurd (omega arith)) (λ within. absurd (omega arith))
      ],
      λ same. refl,
    )
