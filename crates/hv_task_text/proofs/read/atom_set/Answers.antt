use Rattle.std.proofs.Common.{◌∙◌, ◌∷◌, ◌++◌, [], subst, sym}
use Rattle.hv_grammar.specs.Parsers.{pure}
use Rattle.hv_grammar.proofs.Going.{done, no_memory, start, stops}
use Rattle.hv_task.specs.AtomList.{set_of}
use Rattle.hv_task.specs.State.{AreBelow}
use Rattle.hv_task.proofs.Sets.{set_below, set_more}
use Rattle.hv_task_text.specs.TaskFile.{atom_or, atom_set}
use Rattle.hv_task_text.proofs.Listed.{ahead, last_read, more_read}
use Rattle.hv_task_text.proofs.Sets.{no_atom}
use Rattle.hv_task_text.proofs.read.atom_set.Goals as goal

pub lines-init : goal.lines-init
lines-init g c = (
  [],
  record {
    goes = start (atom_set c.args.closing.now c.args.kind c.args.atoms) _;
    can = c.requires;
    set = c.new-set.ensures ∙ sym (no_atom c.args.atoms);
  },
)

pub returns-in_err-atom-clause-reads : goal.returns-in_err-atom-clause-reads
returns-in_err-atom-clause-reads g c =
    stops _ (ahead c.args.kind (atom_or c.args.closing.now c.args.kind c.args.atoms)
    (λ all. pure (set_of c.args.atoms all)) c.lines.invariant.1.goes)
    c.in_err-atom.ensures.reads c.from_residual.ensures.1

pub lines-preserved : goal.lines-preserved
lines-preserved g c =
    let test = atom_or c.args.closing.now c.args.kind c.args.atoms in
    let i = c.lines.invariant.1 in
    let listed = c.lines.invariant.0 in (
      listed ++ c.in-Some.atom ∷ [],
      record {
        goes = more_read c.args.kind test (λ all. pure (set_of c.args.atoms all))
            c.in_ok-atom.field-0 c.in-Some.atom i.goes c.in_ok-atom.ensures.reads c.in-Some.is;
        can = c.in_ok-atom.ensures.reads.can;
        set = sym (set_more c.args.atoms c.in-Some.atom listed _
            (rw c.in-Some.is at c.in_ok-atom.ensures.below)
            (rw i.set at c.in_ok-insert.ensures.ok));
      },
    )

pub returns-clause-below : goal.returns-clause-below
returns-clause-below g c =
    subst (AreBelow c.args.atoms) (sym (c.in_ok-take.ensures.list ∙ c.lines.invariant.1.set))
    (set_below c.args.atoms c.lines.invariant.0)

pub returns-in_err-insert-clause-reads : goal.returns-in_err-insert-clause-reads
returns-in_err-insert-clause-reads g c =
    no_memory _ _ _ _ _ (more_read c.args.kind
    (atom_or c.args.closing.now c.args.kind c.args.atoms) (λ all. pure (set_of c.args.atoms all))
    c.in_ok-atom.field-0 c.in-Some.atom c.lines.invariant.1.goes c.in_ok-atom.ensures.reads
    c.in-Some.is) c.from_residual-in_err-insert.ensures.1

pub returns-in_err-take-clause-reads : goal.returns-in_err-take-clause-reads
returns-in_err-take-clause-reads g c =
    no_memory _ _ _ _ _ (last_read c.args.kind
    (atom_or c.args.closing.now c.args.kind c.args.atoms) (λ all. pure (set_of c.args.atoms all))
    c.in_ok-atom.field-0 c.lines.invariant.1.goes c.in_ok-atom.ensures.reads
    c.in_default.not-Some) c.from_residual-in_err-take.ensures.1

pub returns-clause-reads : goal.returns-clause-reads
returns-clause-reads g c =
    done _ _ _ _ _ (last_read c.args.kind
    (atom_or c.args.closing.now c.args.kind c.args.atoms) (λ all. pure (set_of c.args.atoms all))
    c.in_ok-atom.field-0 c.lines.invariant.1.goes c.in_ok-atom.ensures.reads
    c.in_default.not-Some)
    c.in_ok-atom.ensures.reads.can
    (c.in_ok-take.ensures.list ∙ c.lines.invariant.1.set)
