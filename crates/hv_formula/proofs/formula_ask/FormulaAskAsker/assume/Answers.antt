use Rattle.std.proofs.Common.{◌≡◌, ◌∙◌, ◌<◌, ◌++◌, ◌∷◌, [], true, false, length, not, sym, ap}
use Rattle.std.proofs.Common.{subst, Some, arith}
use Rattle.std.proofs.Math.Bool.{beq}
use Rattle.hv_propagation.specs.Clauses.{AreClauses}
use Rattle.hv_formula.specs.Working.Asking.{IsAskedAlong}
use Rattle.hv_propagation.specs.Marks.{known}
use Rattle.hv_propagation.specs.Trail.{marks_of}
use Rattle.hv_formula.proofs.Asking.{asked_again, asked_broken, asked_followed, asked_left}
use Rattle.hv_formula.proofs.Asking.{asked_open, asked_pushed, asked_shut, asked_sound}
use Rattle.hv_formula.proofs.Asking.{asked_written, never, told_other, told_same}
use Rattle.hv_formula.proofs.formula_ask.FormulaAskAsker.assume.Goals as goal

pub seek-requires-clause-over : goal.seek-requires-clause-over
seek-requires-clause-over g c = (
  subst (λ n. AreClauses n c.bare-bare.result.clauses.now) (sym c.requires.stands.size)
      c.bare-bare.ensures.below,
  c.bare-bare.ensures.index,
)

pub write-requires-clause-atom : goal.write-requires-clause-atom
write-requires-clause-atom g c =
    subst (λ n. c.args.literal.atom < n)
    (sym (ap length c.in-Some.ensures.followed.roots ∙ c.requires.stands.size)) c.requires.atom

pub write-requires-clause-unknown : goal.write-requires-clause-unknown
write-requires-clause-unknown g c = sym c.read.ensures ∙ c.in-None.is

pub returns-in_default-clause-assumed : goal.returns-in_default-clause-assumed
returns-in_default-clause-assumed g c = c.in_ok-push-2.ensures.items

pub returns-in-Some-read-clause-assumed : goal.returns-in-Some-read-clause-assumed
returns-in-Some-read-clause-assumed g c = c.in_ok-push-2.ensures.items

pub returns-in_ok-push-in-None-clause-assumed : goal.returns-in_ok-push-in-None-clause-assumed
returns-in_ok-push-in-None-clause-assumed g c = c.in_ok-push-2.ensures.items

pub seek-requires-clause-left : goal.seek-requires-clause-left
seek-requires-clause-left g c =
    let q = c.args.self.now in
    let a = asked_open q.set.now q.marks q.place q.starts.items q.literals.items q.counts.items
    q.broken q.clashes c.requires.stands c.requires.open in
    asked_left q.set.now c.bare-bare.result.clauses.now q.marks q.place q.starts.items
    q.literals.items q.counts.items false c.bare-bare.ensures.clauses a

pub returns-in_default-clause-stands : goal.returns-in_default-clause-stands
returns-in_default-clause-stands g c =
    let q = c.args.self.now in
    let a = asked_open q.set.now q.marks q.place q.starts.items q.literals.items q.counts.items
    q.broken q.clashes c.requires.stands c.requires.open in
    let cs = c.bare-bare.result.clauses.now in
    let k = c.seek.new.marks in
    let many : c.len-count.result ≡ length q.starts.items = omega
    (arith, c.len-count.ensures, q.starts.ok.0) in
    let b = asked_broken q.set.now cs q.marks k q.place q.starts.items q.literals.items
    q.counts.items c.bare-bare.ensures.clauses a c.in_default.ensures.followed in
    let d = asked_pushed q.set.now k q.place q.starts.items q.literals.items q.counts.items true
    c.args.literal false b (λ no _. never (sym no)) (λ no. never no) in
    let end = asked_shut q.set.now k q.place q.starts.items
    (q.literals.items ++ c.args.literal ∷ [])
    (q.counts.items ++ length q.starts.items ∷ []) q.broken q.clashes c.requires.open d in
    subst (λ ls. IsAskedAlong q.set.now k q.place q.starts.items ls c.push.new.self.items true
    q.clashes) (sym c.in_ok-push-2.ensures.items)
    (subst (λ ps. IsAskedAlong q.set.now k q.place q.starts.items
    (q.literals.items ++ c.args.literal ∷ []) ps true q.clashes)
    (sym (c.in_ok-push.ensures.items ∙ ap (λ n. q.counts.items ++ n ∷ []) many))
    end)

pub returns-in-Some-read-clause-stands : goal.returns-in-Some-read-clause-stands
returns-in-Some-read-clause-stands g c =
    let q = c.args.self.now in
    let a = asked_open q.set.now q.marks q.place q.starts.items q.literals.items q.counts.items
    q.broken q.clashes c.requires.stands c.requires.open in
    let cs = c.bare-bare.result.clauses.now in
    let k = c.seek.new.marks in
    let many : c.len-count.result ≡ length q.starts.items = omega
    (arith, c.len-count.ensures, q.starts.ok.0) in
    let l = c.args.literal in
    let value = c.in-Some-read.value in
    let clash = not (beq value l.positive) in
    let place = c.in-Some.place in
    let b = asked_followed q.set.now cs q.marks k q.place place q.starts.items q.literals.items
    q.counts.items true c.bare-bare.ensures.clauses a c.in-Some.ensures.followed
    c.in-Some.ensures.left.0 (λ _. c.in-Some.ensures.left.1) in
    let told : known (marks_of k) l.atom ≡ Some value = sym c.read.ensures ∙ c.in-Some-read.is in
    let d = asked_pushed q.set.now k place q.starts.items q.literals.items q.counts.items false l
    clash b (λ _ is. told ∙ ap (λ v. Some v) (told_same value l.positive is))
    (λ is. told ∙ ap (λ v. Some v) (told_other value l.positive is)) in
    let end = asked_sound q.set.now k place q.starts.items (q.literals.items ++ l ∷ [])
    (q.counts.items ++ length q.starts.items ∷ []) q.broken q.clashes clash c.requires.open d in
    subst (λ ls. IsAskedAlong q.set.now k place q.starts.items ls c.push.new.self.items q.broken
    clash) (sym c.in_ok-push-2.ensures.items)
    (subst (λ ps. IsAskedAlong q.set.now k place q.starts.items
    (q.literals.items ++ c.args.literal ∷ []) ps q.broken clash)
    (sym (c.in_ok-push.ensures.items ∙ ap (λ n. q.counts.items ++ n ∷ []) many))
    end)

pub returns-in_ok-push-in-None-clause-stands : goal.returns-in_ok-push-in-None-clause-stands
returns-in_ok-push-in-None-clause-stands g c =
    let q = c.args.self.now in
    let a = asked_open q.set.now q.marks q.place q.starts.items q.literals.items q.counts.items
    q.broken q.clashes c.requires.stands c.requires.open in
    let cs = c.bare-bare.result.clauses.now in
    let k = c.seek.new.marks in
    let many : c.len-count.result ≡ length q.starts.items = omega
    (arith, c.len-count.ensures, q.starts.ok.0) in
    let l = c.args.literal in
    let new = c.write.new.self in
    let place = c.in-Some.place in
    let b = asked_followed q.set.now cs q.marks k q.place place q.starts.items q.literals.items
    q.counts.items true c.bare-bare.ensures.clauses a c.in-Some.ensures.followed
    c.in-Some.ensures.left.0 (λ _. c.in-Some.ensures.left.1) in
    let nothing = sym c.read.ensures ∙ c.in-None.is in
    let last : place ≡ length k.trail = c.in-Some.ensures.end nothing in
    let whole = subst (λ n. IsAskedAlong q.set.now k n q.starts.items q.literals.items
    q.counts.items false false) last b in
    let below = subst (λ n. l.atom < n) (sym b.size) c.requires.atom in
    let d = asked_written q.set.now k new q.starts.items q.literals.items q.counts.items l whole
    below nothing c.write.ensures in
    let there = asked_again q.set.now new (length k.trail)
    (q.starts.items ++ length k.trail ∷ []) (q.literals.items ++ l ∷ [])
    (q.counts.items ++ length q.starts.items ∷ []) q.broken q.clashes c.requires.open d in
    let at = subst (λ n. IsAskedAlong q.set.now new n (q.starts.items ++ length k.trail ∷ [])
    (q.literals.items ++ l ∷ []) (q.counts.items ++ length q.starts.items ∷ []) q.broken
    q.clashes) (sym last) there in
    let end = subst (λ ss. IsAskedAlong q.set.now new place ss (q.literals.items ++ l ∷ [])
    (q.counts.items ++ length q.starts.items ∷ []) q.broken q.clashes)
    (sym (c.in_ok-push-in-None.ensures.items
    ∙ ap (λ n. q.starts.items ++ n ∷ []) c.len-start.ensures.len)) at in
    subst (λ ls. IsAskedAlong q.set.now new place c.push-in-None.new.self.items ls c.push.new.self.items q.broken
    q.clashes) (sym c.in_ok-push-2.ensures.items)
    (subst (λ ps. IsAskedAlong q.set.now new place c.push-in-None.new.self.items
    (q.literals.items ++ c.args.literal ∷ []) ps q.broken q.clashes)
    (sym (c.in_ok-push.ensures.items ∙ ap (λ n. q.counts.items ++ n ∷ []) many))
    end)
