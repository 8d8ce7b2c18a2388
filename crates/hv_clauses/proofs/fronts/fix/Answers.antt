use Rattle.std.proofs.Common.{◌≡◌, ◌<◌, ◌∙◌, ◌%◌, true, false, take, refl, sym, ap, subst}
use Rattle.std.proofs.lemmas.Nat.{mod_below}
use Rattle.hv_clauses.specs.Working.Posed.{size_in}
use Rattle.hv_propagation.specs.Trail.{Grows, Knowledge}
use Rattle.hv_propagation.proofs.Chasing.{grows_same, undone_same}
use Rattle.hv_clauses.proofs.Deciding.{named_some}
use Rattle.hv_clauses.proofs.Digits.{front_more, never_more}
use Rattle.hv_clauses.proofs.fronts.fix.Goals as goal

pub count_of-requires : goal.count_of-requires
count_of-requires g c =
    named_some c.args.problem.now c.args.operand.which c.requires.some

pub is_clause_true-requires : goal.is_clause_true-requires
is_clause_true-requires g c =
    let p = c.args.problem.now in
    subst (λ n. c.args.rest % n < size_in p c.args.operand.which) (sym c.count_of.ensures)
    (mod_below c.args.rest (size_in p c.args.operand.which) c.requires.some)

pub returns-then-is_clause_true-clause-never : goal.returns-then-is_clause_true-clause-never
returns-then-is_clause_true-clause-never g c = λ _.
    let p = c.args.problem.now in
    never_more p c.args.place c.args.rest c.args.operand c.requires.here _ refl
    _ (ap (λ n. c.args.rest % n) c.count_of.ensures) c.args.marks.now c.requires.front
    (λ state size inside misses agrees. c.if-is_clause_true.ensures refl state size agrees inside
    misses)

pub returns-then-deny-clause-front : goal.returns-then-deny-clause-front
returns-then-deny-clause-front g c = λ _.
    let p = c.args.problem.now in
    let deny = c.if-deny.ensures in
    front_more p c.args.place c.args.rest c.args.operand c.requires.here _ refl
    _ (ap (λ n. c.args.rest % n) c.count_of.ensures) c.args.marks.now c.requires.front
    c.deny.new.marks deny.grown deny.follows (deny.denied refl) (deny.left refl)

pub returns-clause-never : goal.returns-clause-never
returns-clause-never g c = λ _.
    let p = c.args.problem.now in
    never_more p c.args.place c.args.rest c.args.operand c.requires.here _ refl
    _ (ap (λ n. c.args.rest % n) c.count_of.ensures) c.args.marks.now c.requires.front
    (c.if-deny.ensures.never refl)

pub returns-clause-same : goal.returns-clause-same
returns-clause-same g c = λ _.
    undone_same c.args.marks.now c.deny.new.marks c.undo.new.self c.if-deny.ensures.grown
    (c.undo.ensures ∙ ap (λ n. let z : Knowledge = record
    { roots = c.deny.new.marks.roots; trail = take n c.deny.new.marks.trail } in z)
    c.len-point.ensures.len)

pub deny-requires-clause-digit : goal.deny-requires-clause-digit
deny-requires-clause-digit g c =
    let p = c.args.problem.now in
    subst (λ n. c.args.rest % n < size_in p c.args.operand.which) (sym c.count_of.ensures)
    (mod_below c.args.rest (size_in p c.args.operand.which) c.requires.some)

pub deny-requires-clause-wide : goal.deny-requires-clause-wide
deny-requires-clause-wide g c = c.requires.front.wide

pub deny-requires-clause-left : goal.deny-requires-clause-left
deny-requires-clause-left g c = c.requires.front.left

pub returns-then-is_clause_true-clause-front : goal.returns-then-is_clause_true-clause-front
returns-then-is_clause_true-clause-front g c = λ yes. let f : false ≡ true = yes in absurd cc

pub returns-then-is_clause_true-clause-same : goal.returns-then-is_clause_true-clause-same
returns-then-is_clause_true-clause-same g c = λ _. refl

pub returns-then-is_clause_true-clause-grown : goal.returns-then-is_clause_true-clause-grown
returns-then-is_clause_true-clause-grown g c = grows_same c.args.marks.now

pub returns-then-deny-clause-never : goal.returns-then-deny-clause-never
returns-then-deny-clause-never g c = λ no. let f : true ≡ false = no in absurd cc

pub returns-then-deny-clause-same : goal.returns-then-deny-clause-same
returns-then-deny-clause-same g c = λ no. let f : true ≡ false = no in absurd cc

pub returns-then-deny-clause-grown : goal.returns-then-deny-clause-grown
returns-then-deny-clause-grown g c = c.if-deny.ensures.grown

pub returns-clause-front : goal.returns-clause-front
returns-clause-front g c = λ yes. let f : false ≡ true = yes in absurd cc

pub returns-clause-grown : goal.returns-clause-grown
returns-clause-grown g c =
    subst (λ (k : Knowledge). Grows c.args.marks.now k)
    (sym (undone_same c.args.marks.now c.deny.new.marks c.undo.new.self c.if-deny.ensures.grown
    (c.undo.ensures ∙ ap (λ n. let z : Knowledge = record
    { roots = c.deny.new.marks.roots; trail = take n c.deny.new.marks.trail } in z)
    c.len-point.ensures.len))) (grows_same c.args.marks.now)
