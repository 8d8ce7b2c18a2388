use Rattle.hv_bytes.specs.Working.Fields.{fields_behind}
use Rattle.hv_proof_text.proofs.ListedForms.{acts_none, dual_none, horn_none, states_none, two_none}
use Rattle.hv_proof_text.proofs.forms.listed_line.Goals as goal

pub returns-in-None : goal.returns-in-None
returns-in-None c =
    let never = rw c.in-None.is at c.in_ok-actions-in-Actions.ensures in
    rw c.in-Actions.is (acts_none c.args.id (fields_behind c.args.fields (λ f. f.now)) never)

pub returns-in-None-2 : goal.returns-in-None-2
returns-in-None-2 c =
    let never = rw c.in-None-2.is at c.in_ok-clauses-in-Horn.ensures in
    rw c.in-Horn.is (horn_none c.args.id (fields_behind c.args.fields (λ f. f.now)) never)

pub returns-in-None-3 : goal.returns-in-None-3
returns-in-None-3 c =
    let never = rw c.in-None-3.is at c.in_ok-clauses-in-Dual.ensures in
    rw c.in-Dual.is (dual_none c.args.id (fields_behind c.args.fields (λ f. f.now)) never)

pub returns-in-None-4 : goal.returns-in-None-4
returns-in-None-4 c =
    let never = rw c.in-None-4.is at c.in_ok-clauses-in-Two.ensures in
    rw c.in-Two.is (two_none c.args.id (fields_behind c.args.fields (λ f. f.now)) never)

pub returns-in-None-5 : goal.returns-in-None-5
returns-in-None-5 c =
    let never = rw c.in-None-5.is at c.in_ok-states-in-States.ensures in
    rw c.in-States.is (states_none c.args.id (fields_behind c.args.fields (λ f. f.now)) never)
