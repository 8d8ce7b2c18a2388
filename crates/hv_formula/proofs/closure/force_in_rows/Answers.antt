use Rattle.std.proofs.Common.{◌≡◌, ◌∙◌, [], false, length, sym, subst, true, ap, refl}
use Rattle.hv_propagation.specs.Clauses.{AreClauses}
use Rattle.hv_propagation.specs.Forced.{AreNever}
use Rattle.hv_propagation.specs.Marks.{known}
use Rattle.hv_propagation.specs.Trail.{Knowledge}
use Rattle.hv_formula.proofs.Forced.{forced_from}
use Rattle.hv_propagation.proofs.Trailed.{known-replicate, length-marked}
use Rattle.hv_formula.proofs.closure.force_in_rows.Goals as goal

pub over-marks-requires-clause-few : goal.over-marks-requires-clause-few
over-marks-requires-clause-few c = c.requires.basis.few

pub conclude-requires-clause-clauses : goal.conclude-requires-clause-clauses
conclude-requires-clause-clauses c =
    let wide = ap (λ (k : Knowledge). length k.roots) c.over-marks.ensures
    ∙ length-marked c.args.basis.now.atoms [] in
    subst (λ n. AreClauses n c.args.basis.now.bare.clauses.now) (sym wide) c.requires.basis.clauses

pub conclude-requires-clause-index : goal.conclude-requires-clause-index
conclude-requires-clause-index c = c.requires.basis.index

pub conclude-requires-clause-none : goal.conclude-requires-clause-none
conclude-requires-clause-none c = ap (λ (k : Knowledge). k.trail) c.over-marks.ensures

pub conclude-requires-clause-unknown : goal.conclude-requires-clause-unknown
conclude-requires-clause-unknown c = λ p.
    ap (λ (k : Knowledge). known k.roots p) c.over-marks.ensures
    ∙ known-replicate c.args.basis.now.atoms p

pub returns-then-not-conclude-clause-forced : goal.returns-then-not-conclude-clause-forced
returns-then-not-conclude-clause-forced c = λ e. absurd (let f : false ≡ true = e in cc)

pub returns-then-not-conclude-clause-never : goal.returns-then-not-conclude-clause-never
returns-then-not-conclude-clause-never c = λ _.
    let wide = ap (λ (k : Knowledge). length k.roots) c.over-marks.ensures
    ∙ length-marked c.args.basis.now.atoms [] in
    subst (λ n. AreNever n c.args.basis.now.bare.clauses.now) wide
    (c.if-not-conclude.ensures.never refl)

pub returns-clause-never : goal.returns-clause-never
returns-clause-never c = λ e. absurd (let f : true ≡ false = e in cc)

pub returns-clause-forced : goal.returns-clause-forced
returns-clause-forced c = λ _.
    let wide = ap (λ (k : Knowledge). length k.roots) c.over-marks.ensures
    ∙ length-marked c.args.basis.now.atoms [] in
    forced_from c.args.basis.now.atoms c.args.basis.now.bare.clauses.now c.conclude.new.marks
    c.list.new.forced.items
    (c.if-not-conclude.ensures.size ∙ wide) c.in_ok-list.ensures.rises c.in_ok-list.ensures.same
    (c.if-not-conclude.ensures.settled refl)
    (λ state size holds. c.if-not-conclude.ensures.follows refl state (size ∙ sym wide) holds)
