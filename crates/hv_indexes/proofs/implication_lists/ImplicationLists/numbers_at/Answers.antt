use Rattle.std.proofs.Common.{[], ◌∷◌, sym, subst}
use Rattle.hv_indexes.specs.declared.implication_lists.ListedImplications.{ListedImplications}
use Rattle.hv_indexes.specs.Implied.{AreImplications, ImpliesNumber}
use Rattle.hv_indexes.specs.Rows.{AreRows}
use Rattle.hv_indexes.proofs.Alone.{implied_row, own_head}
use Rattle.hv_indexes.proofs.implication_lists.ImplicationLists.numbers_at.Goals as goal

pub returns-in-Listed : goal.returns-in-Listed
returns-in-Listed c = λ clauses are.
    c.numbers_at.ensures clauses
    (subst (λ (l : ListedImplications). AreRows (ImpliesNumber clauses) l.heads.items
    l.numbers.items) (sym c.deref.ensures) (subst (AreImplications clauses) c.in-Listed.is are))

pub returns-in-Lone : goal.returns-in-Lone
returns-in-Lone c = λ clauses are.
    implied_row clauses (own_head c.in-Lone.own ∷ []) c.in-Lone.numbers
    (subst (AreImplications clauses) c.in-Lone.is are) c.args.key
    c.numbers_at-in-Lone.result.now c.numbers_at-in-Lone.ensures

pub returns-in-Nothing : goal.returns-in-Nothing
returns-in-Nothing c = λ clauses are.
    implied_row clauses [] [] (subst (AreImplications clauses) c.in-Nothing.is are) c.args.key
    c.numbers_at-in-Nothing.result.now c.numbers_at-in-Nothing.ensures
