use Rattle.std.proofs.Common.{◌≡◌, ◌∙◌, false, length, sym, ap, arith, refl, subst}
use Rattle.std.proofs.lemmas.List.{length_push}
use Rattle.hv_propagation.specs.Working.Completion.{IsAssumed}
use Rattle.hv_propagation.specs.Trail.{Grows, Knowledge, marks_of}
use Rattle.hv_propagation.proofs.Assuming.{grown_by_one, marked_by, taken_back}
use Rattle.hv_propagation.proofs.Chasing.{grown_by, grows_same, grows_then, longer}
use Rattle.hv_propagation.proofs.Completing.{assumed_broken, assumed_closed}
use Rattle.hv_propagation.proofs.Trailed.{length-marks}
use Rattle.hv_propagation.proofs.propagation.assume.Goals as goal

pub write-requires-clause-atom : goal.write-requires-clause-atom
write-requires-clause-atom g c = c.requires.atom

pub write-requires-clause-unknown : goal.write-requires-clause-unknown
write-requires-clause-unknown g c = c.requires.open

pub follow-requires-clause-over : goal.follow-requires-clause-over
follow-requires-clause-over g c =
    subst (λ (n : Knowledge). g.C.Constraint.is_over c.args.constraint.now (length n.roots))
    (sym c.write.ensures) c.requires.over

pub follow-requires-clause-from : goal.follow-requires-clause-from
follow-requires-clause-from g c =
    let long = ap (λ (n : Knowledge). length n.trail) c.write.ensures
    ∙ length_push c.args.marks.now.trail c.args.literal in
    let point = c.len-point.ensures.len in
    omega (arith, long, point)

pub follow-requires-clause-left : goal.follow-requires-clause-left
follow-requires-clause-left g c =
    let h = c.len-point.ensures.len in
    subst (λ n. g.C.Constraint.left c.args.constraint.now c.write.new.self n) (sym h)
    (g.met.C.Constraint.left_stays c.args.constraint.now c.args.marks.now c.write.new.self
    (length c.args.marks.now.trail)
    (grown_by_one c.args.marks.now c.write.new.self c.args.literal c.write.ensures c.requires.atom
    c.requires.open) (omega arith) c.requires.left)

pub returns-then-place-len-clause-assumed : goal.returns-then-place-len-clause-assumed
returns-then-place-len-clause-assumed g c =
    let k = c.args.marks.now in
    let followed = c.in-Some.ensures.followed in
    let size = c.len.ensures.len in
    let past = c.if-place-len.true in
    let m = marked_by k c.write.new.self c.args.literal c.write.ensures c.requires.atom in
    assumed_closed (g.C.Constraint.admits c.args.constraint.now)
    (g.C.Constraint.settled c.args.constraint.now) c.args.literal.atom c.args.literal.positive
    (marks_of k) (marks_of c.write.new.self) (marks_of c.follow.new.marks) c.requires.open
    m.size m.here m.others
    (length-marks c.follow.new.marks ∙ (ap length followed.roots
    ∙ sym (length-marks c.write.new.self)))
    followed.grows
    (g.met.C.Constraint.left_ends c.args.constraint.now c.follow.new.marks c.in-Some.place
    (omega arith) c.in-Some.ensures.left.1)

pub returns-then-place-len-clause-grown : goal.returns-then-place-len-clause-grown
returns-then-place-len-clause-grown g c =
    grows_then _ _ _ (grown_by_one c.args.marks.now c.write.new.self c.args.literal c.write.ensures
    c.requires.atom c.requires.open)
    (grown_by _ _ _ _ c.in-Some.ensures.followed)

pub returns-in-None-clause-assumed : goal.returns-in-None-clause-assumed
returns-in-None-clause-assumed g c =
    let k = c.args.marks.now in
    let P = g.C.Constraint.admits c.args.constraint.now in
    let S = g.C.Constraint.settled c.args.constraint.now in
    let m = marked_by k c.write.new.self c.args.literal c.write.ensures c.requires.atom in
    let grown = grows_then _ _ _ (grown_by_one k c.write.new.self c.args.literal c.write.ensures
    c.requires.atom c.requires.open)
    (grown_by _ _ _ _ c.in-None.ensures.followed) in
    let same : c.undo.new.self ≡ k = taken_back c.len-point.result k c.follow.new.marks
    c.undo.new.self c.len-point.ensures.len grown c.undo.ensures in
    subst (λ (n : Knowledge). IsAssumed P S c.args.literal.atom c.args.literal.positive (marks_of k)
    (marks_of n) false) (sym same)
    (assumed_broken P S c.args.literal.atom c.args.literal.positive
    (marks_of k) (marks_of c.write.new.self) (marks_of c.follow.new.marks) c.requires.open
    m.size m.here m.others
    (g.met.C.Constraint.left_ends c.args.constraint.now k (length k.trail) (omega arith)
    c.requires.left)
    (λ state long holds agrees. c.in-None.ensures.followed.broken refl state
    (long ∙ length-marks c.write.new.self) holds agrees))

pub returns-in-None-clause-grown : goal.returns-in-None-clause-grown
returns-in-None-clause-grown g c =
    let k = c.args.marks.now in
    let grown = grows_then _ _ _ (grown_by_one k c.write.new.self c.args.literal c.write.ensures
    c.requires.atom c.requires.open)
    (grown_by _ _ _ _ c.in-None.ensures.followed) in
    let same : c.undo.new.self ≡ k = taken_back c.len-point.result k c.follow.new.marks
    c.undo.new.self c.len-point.ensures.len grown c.undo.ensures in
    subst (λ (n : Knowledge). Grows k n) (sym same) (grows_same k)

pub returns-in-None-clause-left : goal.returns-in-None-clause-left
returns-in-None-clause-left g c =
    let k = c.args.marks.now in
    let grown = grows_then _ _ _ (grown_by_one k c.write.new.self c.args.literal c.write.ensures
    c.requires.atom c.requires.open)
    (grown_by _ _ _ _ c.in-None.ensures.followed) in
    let same : c.undo.new.self ≡ k = taken_back c.len-point.result k c.follow.new.marks
    c.undo.new.self c.len-point.ensures.len grown c.undo.ensures in
    subst (λ (n : Knowledge). g.C.Constraint.left c.args.constraint.now n (length n.trail))
    (sym same) c.requires.left

pub returns-else-place-len-clause-grown : goal.returns-else-place-len-clause-grown
returns-else-place-len-clause-grown g c =
    let k = c.args.marks.now in
    let grown = grows_then _ _ _ (grown_by_one k c.write.new.self c.args.literal c.write.ensures
    c.requires.atom c.requires.open)
    (grown_by _ _ _ _ c.in-Some.ensures.followed) in
    let same : c.undo-in-Some.new.self ≡ k = taken_back c.len-point.result k
    c.follow.new.marks c.undo-in-Some.new.self c.len-point.ensures.len grown
    c.undo-in-Some.ensures in
    subst (λ (n : Knowledge). Grows k n) (sym same) (grows_same k)

pub undo-requires : goal.undo-requires
undo-requires g c =
    let long = ap (λ (n : Knowledge). length n.trail) c.write.ensures
    ∙ length_push c.args.marks.now.trail c.args.literal in
    let more = longer _ _ _ _ c.in-None.ensures.followed in
    let point = c.len-point.ensures.len in
    omega (arith, long, more, point)

pub returns-in-None-clause-end : goal.returns-in-None-clause-end
returns-in-None-clause-end g c = λ _. refl

pub returns-then-place-len-clause-left : goal.returns-then-place-len-clause-left
returns-then-place-len-clause-left g c =
    let size = c.len.ensures.len in
    let past = c.if-place-len.true in
    let within = c.in-Some.ensures.left.0 in
    let same : c.in-Some.place ≡ length c.follow.new.marks.trail =
    omega (arith, size, past, within) in
    subst (λ n. g.C.Constraint.left c.args.constraint.now c.follow.new.marks n) same
    c.in-Some.ensures.left.1

pub returns-then-place-len-clause-end : goal.returns-then-place-len-clause-end
returns-then-place-len-clause-end g c = λ _. refl

pub undo-requires-in-Some : goal.undo-requires-in-Some
undo-requires-in-Some g c =
    let long = ap (λ (n : Knowledge). length n.trail) c.write.ensures
    ∙ length_push c.args.marks.now.trail c.args.literal in
    let more = longer _ _ _ _ c.in-Some.ensures.followed in
    let point = c.len-point.ensures.len in
    omega (arith, long, more, point)

pub returns-else-place-len-clause-assumed : goal.returns-else-place-len-clause-assumed
returns-else-place-len-clause-assumed g c =
    let k = c.args.marks.now in
    let grown = grows_then _ _ _ (grown_by_one k c.write.new.self c.args.literal c.write.ensures
    c.requires.atom c.requires.open)
    (grown_by _ _ _ _ c.in-Some.ensures.followed) in
    taken_back c.len-point.result k c.follow.new.marks c.undo-in-Some.new.self
    c.len-point.ensures.len grown c.undo-in-Some.ensures

pub returns-else-place-len-clause-left : goal.returns-else-place-len-clause-left
returns-else-place-len-clause-left g c =
    let k = c.args.marks.now in
    let grown = grows_then _ _ _ (grown_by_one k c.write.new.self c.args.literal c.write.ensures
    c.requires.atom c.requires.open)
    (grown_by _ _ _ _ c.in-Some.ensures.followed) in
    let same : c.undo-in-Some.new.self ≡ k = taken_back c.len-point.result k
    c.follow.new.marks c.undo-in-Some.new.self c.len-point.ensures.len grown
    c.undo-in-Some.ensures in
    subst (λ (n : Knowledge). g.C.Constraint.left c.args.constraint.now n (length n.trail))
    (sym same) c.requires.left

pub returns-else-place-len-clause-end : goal.returns-else-place-len-clause-end
returns-else-place-len-clause-end g c = λ is.
    let size = c.len.ensures.len in
    let short = c.if-place-len.false in
    let at = c.in-Some.ensures.end is in
    absurd (omega (arith, size, short, at))
