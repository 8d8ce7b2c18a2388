use Rattle.std.proofs.Common.{◌∷◌, ◌++◌, [], subst, sym}
use Rattle.hv_task_text.specs.Working.Reading.{AreOf}
use Rattle.hv_task_text.proofs.Sets.{on_ok, with_add, with_del, with_pre}
use Rattle.hv_task_text.proofs.atom_lists.AtomLists.put.Goals as goal

pub returns-in-Pre : goal.returns-in-Pre
returns-in-Pre c =
    on_ok _ _ c.insert.result (λ put atoms items is are.
    subst (λ item. AreOf atoms (items ++ item ∷ [])
    (record c.args.self.now { pre = c.insert.new.self })) (sym c.in-Pre.is)
    (with_pre atoms items c.args.self.now are c.in-Pre.atom c.insert.new.self
    (rw c.in-Pre.is at is) put)) c.insert.ensures.ok

pub returns-in-Add : goal.returns-in-Add
returns-in-Add c =
    on_ok _ _ c.insert-in-Add.result (λ put atoms items is are.
    subst (λ item. AreOf atoms (items ++ item ∷ [])
    (record c.args.self.now { add = c.insert-in-Add.new.self })) (sym c.in-Add.is)
    (with_add atoms items c.args.self.now are c.in-Add.atom c.insert-in-Add.new.self
    (rw c.in-Add.is at is) put)) c.insert-in-Add.ensures.ok

pub returns-in-Del : goal.returns-in-Del
returns-in-Del c =
    on_ok _ _ c.insert-in-Del.result (λ put atoms items is are.
    subst (λ item. AreOf atoms (items ++ item ∷ [])
    (record c.args.self.now { del = c.insert-in-Del.new.self })) (sym c.in-Del.is)
    (with_del atoms items c.args.self.now are c.in-Del.atom c.insert-in-Del.new.self
    (rw c.in-Del.is at is) put)) c.insert-in-Del.ensures.ok
