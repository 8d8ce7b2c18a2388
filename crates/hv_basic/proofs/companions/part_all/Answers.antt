use Rattle.std.proofs.Common.{◌≡◌, ◌∙◌, ◌-◌, ap, false, get_or, length, subst}
use Rattle.hv_sets.specs.declared.literal.Literal.{Literal}
use Rattle.hv_basic.specs.Working.Excluded.{goes_with, parted}
use Rattle.hv_basic.proofs.Excluding.{some_literal, twice_only}
use Rattle.hv_basic.proofs.companions.part_all.Goals as goal

pub returns-clause-only : goal.returns-clause-only
returns-clause-only c = λ p q off.
    let rows = c.args.rows.now.items in
    let clause = c.args.clause.now in
    let none : Literal = record { atom = 0; positive = false } in
    let first = (get_or clause 0 none).atom in
    let last = (get_or clause (length clause - 1) none).atom in
    let once : c.part.new.rows.items ≡ parted rows first last = c.part.ensures in
    let twice : c.part-2.new.rows.items ≡ parted c.part.new.rows.items last first =
    c.part-2.ensures in
    twice_only rows clause none none c.requires.square c.requires.few
    (some_literal clause c.is_empty.result c.is_empty.ensures c.if-is_empty.false)
    c.requires.below p q
    (subst (λ r. goes_with r p q ≡ false) (twice ∙ ap (λ r. parted r last first) once) off)
