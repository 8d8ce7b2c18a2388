use Rattle.std.proofs.Common.{◌∙◌, [], true, false, length, refl, sym, ap, subst, arith}
use Rattle.hv_propagation.specs.Clauses.{AreClauses}
use Rattle.hv_formula.specs.Working.Asking.{IsAskedAlong}
use Rattle.hv_propagation.specs.Chase.{AreKept}
use Rattle.hv_propagation.specs.Trail.{Knowledge}
use Rattle.hv_formula.proofs.Asking.{asked_again, asked_broken, asked_followed, asked_left}
use Rattle.hv_formula.proofs.Asking.{asked_meets, asked_none, asked_open, asked_shut}
use Rattle.hv_formula.proofs.formula_ask.FormulaAskAsker.meets.Goals as goal

pub close-requires-clause-over : goal.close-requires-clause-over
close-requires-clause-over g c = (
  subst (λ n. AreClauses n c.bare-bare.result.clauses.now) (sym c.requires.stands.size)
      c.bare-bare.ensures.below,
  c.bare-bare.ensures.index,
)

pub returns-then-not-close-clause-lengths : goal.returns-then-not-close-clause-lengths
returns-then-not-close-clause-lengths g c = c.in_ok-reserve.ensures.lengths

pub complete_in-requires-clause-size : goal.complete_in-requires-clause-size
complete_in-requires-clause-size g c =
    ap length c.if-not-close.ensures.followed.roots ∙ c.requires.stands.size

pub complete_in-requires-clause-state : goal.complete_in-requires-clause-state
complete_in-requires-clause-state g c = c.in_ok-reserve.ensures.room.state ∙ c.atoms.ensures.atoms

pub returns-clause-lengths : goal.returns-clause-lengths
returns-clause-lengths g c =
    let kept = c.in_ok-reserve.ensures.lengths in
    record {
      marks = kept.marks;
      counts = kept.counts;
      queue = kept.queue;
      choice = kept.choice;
    }

pub close-requires-clause-left : goal.close-requires-clause-left
close-requires-clause-left g c =
    let q = c.args.self.now in
    let a = asked_open q.set.now q.marks q.place q.starts.items q.literals.items q.counts.items
    q.broken q.clashes c.requires.stands c.requires.open in
    asked_left q.set.now c.bare-bare.result.clauses.now q.marks q.place q.starts.items
    q.literals.items q.counts.items false c.bare-bare.ensures.clauses a

pub returns-then-not-close-clause-meets : goal.returns-then-not-close-clause-meets
returns-then-not-close-clause-meets g c =
    let q = c.args.self.now in
    let a = asked_open q.set.now q.marks q.place q.starts.items q.literals.items q.counts.items
    q.broken q.clashes c.requires.stands c.requires.open in
    let b = asked_broken q.set.now c.bare-bare.result.clauses.now q.marks c.close.new.marks
    q.place q.starts.items q.literals.items q.counts.items c.bare-bare.ensures.clauses a
    c.if-not-close.ensures.followed in
    asked_none q.set.now c.close.new.marks q.place q.starts.items q.literals.items
    q.counts.items true false b refl

pub returns-then-not-close-clause-stands : goal.returns-then-not-close-clause-stands
returns-then-not-close-clause-stands g c =
    let q = c.args.self.now in
    let a = asked_open q.set.now q.marks q.place q.starts.items q.literals.items q.counts.items
    q.broken q.clashes c.requires.stands c.requires.open in
    let b = asked_broken q.set.now c.bare-bare.result.clauses.now q.marks c.close.new.marks
    q.place q.starts.items q.literals.items q.counts.items c.bare-bare.ensures.clauses a
    c.if-not-close.ensures.followed in
    asked_shut q.set.now c.close.new.marks q.place q.starts.items q.literals.items
    q.counts.items q.broken q.clashes c.requires.open b

pub complete_in-requires-clause-left : goal.complete_in-requires-clause-left
complete_in-requires-clause-left g c =
    let q = c.args.self.now in
    subst (λ cs. AreKept [] cs c.close.new.marks (length c.close.new.marks.trail))
    c.bare-bare.ensures.clauses (c.if-not-close.ensures.left refl)

pub returns-clause-meets : goal.returns-clause-meets
returns-clause-meets g c =
    let q = c.args.self.now in
    let a = asked_open q.set.now q.marks q.place q.starts.items q.literals.items q.counts.items
    q.broken q.clashes c.requires.stands c.requires.open in
    let k = c.close.new.marks in
    let b = asked_followed q.set.now c.bare-bare.result.clauses.now q.marks k q.place
    (length k.trail) q.starts.items q.literals.items q.counts.items true
    c.bare-bare.ensures.clauses a c.if-not-close.ensures.followed (omega arith)
    c.if-not-close.ensures.left in
    asked_meets q.set.now k (length k.trail) q.starts.items q.literals.items q.counts.items
    c.complete_in.new.state c.complete_in.result b
    (c.complete_in.ensures.state ∙ (c.in_ok-reserve.ensures.room.state ∙ c.atoms.ensures.atoms))
    c.complete_in.ensures.completed

pub returns-clause-stands : goal.returns-clause-stands
returns-clause-stands g c =
    let q = c.args.self.now in
    let a = asked_open q.set.now q.marks q.place q.starts.items q.literals.items q.counts.items
    q.broken q.clashes c.requires.stands c.requires.open in
    let k = c.close.new.marks in
    let b = asked_followed q.set.now c.bare-bare.result.clauses.now q.marks k q.place
    (length k.trail) q.starts.items q.literals.items q.counts.items true
    c.bare-bare.ensures.clauses a c.if-not-close.ensures.followed (omega arith)
    c.if-not-close.ensures.left in
    let back = asked_again q.set.now k (length k.trail) q.starts.items q.literals.items
    q.counts.items q.broken q.clashes c.requires.open b in
    subst (λ n. IsAskedAlong q.set.now c.complete_in.new.marks n q.starts.items q.literals.items
    q.counts.items q.broken q.clashes) (sym c.len-self.ensures.len)
    (subst (λ (r : Knowledge). IsAskedAlong q.set.now r (length k.trail) q.starts.items
    q.literals.items q.counts.items q.broken q.clashes) (sym c.complete_in.ensures.same) back)
