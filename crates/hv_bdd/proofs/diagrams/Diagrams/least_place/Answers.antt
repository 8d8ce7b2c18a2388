use Rattle.std.proofs.Common.{◌≤◌, ◌∙◌, ap, subst, arith, inl, inr}
use Rattle.std.proofs.lemmas.List.{take_all}
use Rattle.std.specs.List.{All}
use Rattle.hv_task.specs.State.{has_atom}
use Rattle.hv_bdd.specs.Order.{atom_at, place}
use Rattle.hv_bdd.specs.Working.Ordered.{order_of}
use Rattle.hv_bdd.proofs.Placed.{each_more, listed_less, none_before, none_placed, placed_held}
use Rattle.hv_bdd.proofs.diagrams.Diagrams.least_place.Goals as goal
use Rattle.hv_bdd.proofs.diagrams.Diagrams.least_place.Goals.{else-from-place}
use Rattle.hv_bdd.proofs.diagrams.Diagrams.least_place.Goals.{then-from-place+then-place-least}

pub loop-atom-init : goal.loop-atom-init
loop-atom-init c =
    let atoms = c.atoms-atoms.ensures.atoms in
    record {
      upto = omega arith;
      there = λ less. absurd (omega arith);
      each = λ k d less. absurd (omega arith);
    }

pub place-place-requires : goal.place-place-requires
place-place-requires c =
    listed_less c.args.self.now (order_of c.args.self.now c.atoms-atoms.ensures.reduced)
    c.args.held.now c.requires c.listed-atom-items.result.now c.listed-atom-items.ensures
    c.loop-atom.atom-index c.loop-atom-test.true

pub loop-atom-preserved : goal.loop-atom-preserved
loop-atom-preserved c =
    let list = c.args.self.now in
    let named = c.listed-atom-items.result.now in
    let i = c.loop-atom.atom-index in
    let old = c.loop-atom.invariant in
    let upto = old.upto in
    let at = c.place-place.ensures in
    elim c.if-from-place.branch [
      | then-from-place+then-place-least w ↦
          let later = w.if-from-place.true in
          let less = w.if-place-least.true in
          let new = w.least-is in
          record {
            upto = omega arith;
            there = λ below. (
              omega arith,
              ap (λ v. has_atom c.args.held.now (atom_at list v)) (new ∙ at)
                  ∙ placed_held list (order_of list c.atoms-atoms.ensures.reduced) c.args.held.now
                  c.requires named c.listed-atom-items.ensures i c.loop-atom-test.true,
            );
            each = each_more list named c.args.from c.loop-atom.least c.if-from-place.least i
                c.loop-atom-test.true (omega arith) (λ more. omega arith) old.each;
          }
      | else-from-place w ↦
          let new = w.least-is in
          record {
            upto = omega arith;
            there = λ below. let held = old.there (omega arith) in (
              omega arith,
              ap (λ v. has_atom c.args.held.now (atom_at list v)) new ∙ held.1,
            );
            each = each_more list named c.args.from c.loop-atom.least c.if-from-place.least i
                c.loop-atom-test.true (omega arith)
                (λ more. elim w.else-from-place.either [
                  | inl past ↦ let least = past.1 in omega arith
                  | inr before ↦ absurd (omega arith)
                ])
                old.each;
          }
    ]

pub returns-then-least-atoms-clause-next : goal.returns-then-least-atoms-clause-next
returns-then-least-atoms-clause-next c =
    let list = c.args.self.now in
    let named = c.listed-atom-items.result.now in
    let i = c.loop-atom.invariant in
    let there = i.there (let less = c.if-least-atoms.true in
    let atoms = c.atoms-atoms.ensures.atoms in omega arith) in (
      there.0,
      there.1,
      none_before list (order_of list c.atoms-atoms.ensures.reduced) c.args.held.now c.requires
          named c.listed-atom-items.ensures c.args.from c.loop-atom.least
          (subst (All (λ a. c.args.from ≤ place list a → c.loop-atom.least ≤ place list a))
          (take_all c.loop-atom.atom-index named (let end = c.loop-atom-test.false in omega arith))
          i.each),
    )

pub returns-else-least-atoms-clause-next : goal.returns-else-least-atoms-clause-next
returns-else-least-atoms-clause-next c =
    let list = c.args.self.now in
    let named = c.listed-atom-items.result.now in
    none_placed list (order_of list c.atoms-atoms.ensures.reduced) c.args.held.now c.requires
    named c.listed-atom-items.ensures c.args.from c.loop-atom.least
    (subst (All (λ a. c.args.from ≤ place list a → c.loop-atom.least ≤ place list a))
    (take_all c.loop-atom.atom-index named (let end = c.loop-atom-test.false in omega arith))
    c.loop-atom.invariant.each)
    (let end = c.if-least-atoms.false in let atoms = c.atoms-atoms.ensures.atoms in omega arith)
