use Rattle.std.proofs.Common.{◌≡◌, ◌∙◌, [], true, Bool, List, ℕ, None, length, refl, sym, ap, arith}
use Rattle.std.proofs.Common.{subst}
use Rattle.hv_sets.specs.declared.literal.Literal.{Literal}
use Rattle.hv_sets.specs.Truth.{in_clauses}
use Rattle.hv_propagation.specs.Chase.{AreKept}
use Rattle.hv_propagation.specs.Clauses.{AreClauses}
use Rattle.hv_propagation.specs.Marks.{known, over, Agrees}
use Rattle.hv_propagation.specs.Trail.{Knowledge, marks_of}
use Rattle.hv_propagation.proofs.Chasing.{longer, kept_earlier}
use Rattle.hv_propagation.proofs.Covered.{agrees_none}
use Rattle.hv_propagation.proofs.Marked.{over-nil}
use Rattle.hv_formula.proofs.closure.conclude.Goals as goal

-- what was followed up where nothing was known
module _ (clauses : List (List Literal)) (e : List ℕ) (k : Knowledge) (none : k.trail ≡ [])
    (unknown : (p : ℕ) → known k.roots p ≡ None) (plain : e ≡ []) where
  agrees_start : (state : List Bool) → Agrees (marks_of k) state
  agrees_start state =
      subst (λ ls. let m : Knowledge = record { roots = k.roots; trail = ls } in
      Agrees (marks_of m) state) (sym none) (agrees_none k.roots unknown state)

  holds_start : (state : List Bool) → in_clauses clauses state ≡ true
      → in_clauses clauses (over e state) ≡ true
  holds_start state holds = ap (λ x. in_clauses clauses (over x state)) plain
      ∙ (ap (in_clauses clauses) (over-nil state) ∙ holds)

pub returns-then-not-start-clause-never : goal.returns-then-not-start-clause-never
returns-then-not-start-clause-never c = λ is state size holds.
    let clauses = c.args.bare.now.clauses.now in
    let k = c.args.marks.now in
    c.if-not-start.ensures.followed.broken refl state size
    (holds_start clauses c.none-none.result k c.requires.none c.requires.unknown
    c.none-none.ensures state holds)
    (agrees_start clauses c.none-none.result k c.requires.none c.requires.unknown
    c.none-none.ensures state)

pub close-requires-clause-left : goal.close-requires-clause-left
close-requires-clause-left c =
    let clauses = c.args.bare.now.clauses.now in
    let more = longer _ _ _ _ c.if-not-start.ensures.followed in
    kept_earlier [] clauses c.start.new.marks 0 (length c.args.marks.now.trail)
    (omega arith) more
    (subst (λ e. AreKept e clauses c.start.new.marks (length c.args.marks.now.trail))
    c.none-none.ensures (c.if-not-start.ensures.kept refl))

pub returns-clause-follows : goal.returns-clause-follows
returns-clause-follows c = λ is state size holds.
    let clauses = c.args.bare.now.clauses.now in
    let k = c.args.marks.now in
    c.close.ensures.followed.follows state
    (size ∙ sym (ap length c.if-not-start.ensures.followed.roots))
    (ap (in_clauses clauses) (over-nil state) ∙ holds)
    (c.if-not-start.ensures.followed.follows state size
    (holds_start clauses c.none-none.result k c.requires.none c.requires.unknown
    c.none-none.ensures state holds)
    (agrees_start clauses c.none-none.result k c.requires.none c.requires.unknown
    c.none-none.ensures state))

pub returns-clause-never : goal.returns-clause-never
returns-clause-never c = λ is state size holds.
    let clauses = c.args.bare.now.clauses.now in
    let k = c.args.marks.now in
    c.close.ensures.followed.broken is state
    (size ∙ sym (ap length c.if-not-start.ensures.followed.roots))
    (ap (in_clauses clauses) (over-nil state) ∙ holds)
    (c.if-not-start.ensures.followed.follows state size
    (holds_start clauses c.none-none.result k c.requires.none c.requires.unknown
    c.none-none.ensures state holds)
    (agrees_start clauses c.none-none.result k c.requires.none c.requires.unknown
    c.none-none.ensures state))

pub start-requires : goal.start-requires
start-requires c = c.requires.clauses

pub close-requires-clause-over : goal.close-requires-clause-over
close-requires-clause-over c = (
  subst (λ n. AreClauses n c.args.bare.now.clauses.now)
      (sym (ap length c.if-not-start.ensures.followed.roots)) c.requires.clauses,
  c.requires.index,
)

pub returns-clause-settled : goal.returns-clause-settled
returns-clause-settled c = c.close.ensures.settled

pub returns-clause-size : goal.returns-clause-size
returns-clause-size c =
    ap length c.close.ensures.followed.roots ∙ ap length c.if-not-start.ensures.followed.roots
