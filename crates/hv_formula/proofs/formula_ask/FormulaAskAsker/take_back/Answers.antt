use Rattle.std.proofs.Common.{◌≡◌, ◌∙◌, ◌<◌, false, length, take, get_or, sym, subst, arith}
use Rattle.std.proofs.lemmas.List.{get_or_default}
use Rattle.hv_formula.specs.Working.Asking.{IsAskedAlong, knowledge_upto}
use Rattle.hv_propagation.specs.Trail.{Knowledge}
use Rattle.hv_formula.proofs.Asking.{asked_back, asked_kept}
use Rattle.hv_formula.proofs.formula_ask.FormulaAskAsker.take_back.Goals as goal

pub returns-then-count-len-clause-stands : goal.returns-then-count-len-clause-stands
returns-then-count-len-clause-stands g c =
    let q = c.args.self.now in
    let depth = c.args.depth in
    let less : depth < length q.counts.items = omega
    (arith, c.requires.depth, c.requires.stands.each.sizes) in
    let count : c.index-count.result.now ≡ get_or q.counts.items depth 0 = c.index-count.ensures
    ∙ get_or_default q.counts.items depth c.index-count.result.now 0 less in
    let size : c.len.result ≡ length q.starts.items = omega
    (arith, c.len.ensures, q.starts.ok.0) in
    let last = c.if-count-len.true in
    subst (λ ls. IsAskedAlong q.set.now q.marks q.place q.starts.items ls
    c.truncate.new.self.items q.broken false) (sym c.truncate-2.ensures.items)
    (subst (λ ps. IsAskedAlong q.set.now q.marks q.place q.starts.items
    (take depth q.literals.items) ps q.broken false) (sym c.truncate.ensures.items)
    (asked_kept q.set.now q.marks q.place q.starts.items q.literals.items q.counts.items q.broken
    q.clashes depth c.requires.stands c.requires.depth (omega (arith, count, size, last))))

pub returns-clause-stands : goal.returns-clause-stands
returns-clause-stands g c =
    let q = c.args.self.now in
    let depth = c.args.depth in
    let many = c.index-count.result.now in
    let less : depth < length q.counts.items = omega
    (arith, c.requires.depth, c.requires.stands.each.sizes) in
    let count : many ≡ get_or q.counts.items depth 0 = c.index-count.ensures
    ∙ get_or_default q.counts.items depth many 0 less in
    let size : c.len.result ≡ length q.starts.items = omega
    (arith, c.len.ensures, q.starts.ok.0) in
    let first = c.if-count-len.false in
    let some : many < length q.starts.items = omega (arith, size, first) in
    let start = c.index-start.result.now in
    let at : start ≡ get_or q.starts.items many 0 = c.index-start.ensures
    ∙ get_or_default q.starts.items many start 0 some in
    let back = asked_back q.set.now q.marks q.place q.starts.items q.literals.items q.counts.items
    q.broken q.clashes depth many c.requires.stands c.requires.depth (sym count) some in
    let there = subst (λ n. IsAskedAlong q.set.now (knowledge_upto q.marks n) n
    (take many q.starts.items) (take depth q.literals.items) (take depth q.counts.items) false
    false) (sym at) back in
    let undone = subst (λ (k : Knowledge). IsAskedAlong q.set.now k start
    (take many q.starts.items) (take depth q.literals.items) (take depth q.counts.items) false
    false) (sym c.undo.ensures) there in
    let end = subst (λ ss. IsAskedAlong q.set.now c.undo.new.self start ss
    (take depth q.literals.items) (take depth q.counts.items) false false)
    (sym c.truncate-3.ensures.items) undone in
    subst (λ ls. IsAskedAlong q.set.now c.undo.new.self start c.truncate-3.new.self.items ls
    c.truncate.new.self.items false false) (sym c.truncate-2.ensures.items)
    (subst (λ ps. IsAskedAlong q.set.now c.undo.new.self start c.truncate-3.new.self.items
    (take depth q.literals.items) ps false false) (sym c.truncate.ensures.items) end)
