use Rattle.std.proofs.Common.{◌≡◌, ◌+◌, ◌<◌, ◌∙◌, false, not, length, get_or, set, refl}
use Rattle.std.proofs.Common.{ap, arith, below_more}
use Rattle.std.proofs.lemmas.Grind.{get_or-set_at}
use Rattle.std.proofs.lemmas.List.{get_or-set_other, length-set}
use Rattle.hv_trap.proofs.Quickly.{truths_of}
use Rattle.hv_trap.proofs.quick.fill.Goals as goal

pub loop-atom-preserved : goal.loop-atom-preserved
loop-atom-preserved c =
    let i = c.loop-atom.invariant in
    let size = i.size in
    let few = c.requires in
    let end = c.atoms-atom-end.ensures in
    let test = c.loop-atom-test.true in
    let state = c.args.state.now in
    let old = c.loop-atom.truths in
    let atom = c.loop-atom.atom in
    let holds = c.has-holds.result in
    let mid = set old atom (not holds) in
    let low : atom < 64 = omega arith in
    let first : atom < length old = omega arith in
    let second : atom + 64 < length mid = omega (arith, length-set old atom (not holds)) in
    record {
      size = length-set mid (atom + 64) holds ∙ length-set old atom (not holds) ∙ size;
      done = below_more
          (λ p. (get_or (set mid (atom + 64) holds) p false ≡ not (get_or state p false))
          × (get_or (set mid (atom + 64) holds) (p + 64) false ≡ get_or state p false))
          atom
          (λ p before. (
            get_or-set_other mid (atom + 64) p holds false (λ e. omega arith)
                ∙ get_or-set_other old atom p (not holds) false (λ e. omega arith)
                ∙ (i.done p before).0,
            get_or-set_other mid (atom + 64) (p + 64) holds false (λ e. omega arith)
                ∙ get_or-set_other old atom (p + 64) (not holds) false (λ e. omega arith)
                ∙ (i.done p before).1,
          )) (
            get_or-set_other mid (atom + 64) atom holds false (λ e. omega arith)
                ∙ get_or-set_at old atom atom (not holds) false refl first
                ∙ ap not c.has-holds.ensures,
            get_or-set_at mid (atom + 64) (atom + 64) holds false refl second
                ∙ c.has-holds.ensures,
          );
    }

pub returns : goal.returns
returns c = truths_of c.args.state.now c.loop-atom.truths
    (λ p less. c.loop-atom.invariant.done p
    (let end = c.atoms-atom-end.ensures in let past = c.loop-atom-test.false in
    omega (arith, end, past, less)))
