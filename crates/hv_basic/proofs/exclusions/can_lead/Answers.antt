use Rattle.std.proofs.Common.{◌≡◌, ◌∙◌, length, not, subst, sym, true}
use Rattle.std.specs.List.{All, Contains}
use Rattle.hv_task.specs.State.{AreBelow}
use Rattle.hv_task.specs.Strips.{IsOver}
use Rattle.hv_basic.specs.Working.Excluded.{AreAbleAt, KeepsFormula, goes_with}
use Rattle.hv_basic.specs.Working.Framed.{sign_to}
use Rattle.hv_basic.proofs.Crossing.{changed_below}
use Rattle.hv_basic.proofs.Excluding.{keeps_by, keeps_unturned, no_atoms, rows_long}
use Rattle.hv_basic.proofs.exclusions.can_lead.Goals as goal

pub returns-then-is_empty-clause-keeps : goal.returns-then-is_empty-clause-keeps
returns-then-is_empty-clause-keeps c = λ _.
    let companions = c.args.companions.now in
    keeps_unturned (length companions.all) c.args.clauses.now companions c.args.into
    c.args.action.now c.requires.companions
    (sym c.turned_atoms-turned.ensures
    ∙ no_atoms c.turned_atoms-turned.result.now c.is_empty.result c.is_empty.ensures
    c.if-is_empty.true)

pub keep_companions-requires-clause-able : goal.keep_companions-requires-clause-able
keep_companions-requires-clause-able c =
    let companions = c.args.companions.now in
    subst (AreAbleAt (length companions.all) c.args.clauses.now companions.value c.args.into
    c.args.into c.args.action.now) (sym c.copy_from.ensures)
    (λ state size applies held p p_in has. c.requires.companions.all.1 p p_in)

pub lacks_known-requires : goal.lacks_known-requires
lacks_known-requires c =
    subst (λ n. IsOver n c.args.action.now) (sym c.keep_companions.ensures.size) c.requires.over

pub returns-then-lacks_known-clause-keeps : goal.returns-then-lacks_known-clause-keeps
returns-then-lacks_known-clause-keeps c = λ _.
    let companions = c.args.companions.now in
    let size = c.keep_companions.ensures.size in
    subst (λ n. KeepsFormula n c.args.clauses.now c.args.into c.args.action.now) size
    (c.lacks_known.ensures c.if-lacks_known.true
    (subst (λ n. AreAbleAt n c.args.clauses.now companions.value c.args.into c.args.into
    c.args.action.now c.keep_companions.new.able) (sym size) c.keep_companions.ensures.able))

pub able_later-requires : goal.able_later-requires
able_later-requires c =
    subst (λ n. IsOver n c.args.action.now) (sym c.keep_companions.ensures.size) c.requires.over

pub has_stranger-requires-clause-below : goal.has_stranger-requires-clause-below
has_stranger-requires-clause-below c =
    let companions = c.args.companions.now in
    let n = length companions.all in
    let turned = c.turned_atoms-turned.result.now in
    subst (λ rows. AreBelow (length rows) turned) (sym c.deref.ensures.value)
    (subst (λ m. AreBelow m turned) (sym c.requires.companions.rows)
    (subst (AreBelow n) (sym c.turned_atoms-turned.ensures)
    (changed_below n (sign_to c.args.into (not companions.value)) c.args.action.now
    c.requires.over)))

pub has_stranger-requires-clause-size : goal.has_stranger-requires-clause-size
has_stranger-requires-clause-size c =
    let companions = c.args.companions.now in
    subst (λ rows. All (λ row. length c.able_later.new.able ≡ length row) rows)
    (sym c.deref.ensures.value)
    (rows_long companions.rows.items (length companions.all) (length c.able_later.new.able)
    c.requires.companions.square c.requires.companions.rows
    (c.able_later.ensures.size ∙ c.keep_companions.ensures.size))

pub returns-clause-keeps : goal.returns-clause-keeps
returns-clause-keeps c = λ off.
    let companions = c.args.companions.now in
    let n = length companions.all in
    let size = c.keep_companions.ensures.size in
    let into = c.args.into in
    let later = subst (λ m. AreAbleAt m c.args.clauses.now companions.value into (not into)
    c.args.action.now c.able_later.new.able) size
    (c.able_later.ensures.able
    (subst (λ m. AreAbleAt m c.args.clauses.now companions.value into into c.args.action.now
    c.keep_companions.new.able) (sym size) c.keep_companions.ensures.able)) in
    keeps_by n c.args.clauses.now companions into c.args.action.now c.able_later.new.able
    c.requires.companions later
    (λ p q turned has. subst (λ rows. goes_with rows p q ≡ true) c.deref.ensures.value
    (c.has_stranger.ensures off p q
    (subst (λ xs. Contains xs p) (sym c.turned_atoms-turned.ensures) turned) has))
