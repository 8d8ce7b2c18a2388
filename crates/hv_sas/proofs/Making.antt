-- Sets of atoms to which facts are put.
use Rattle.std.proofs.Common.{◌≡◌, ℕ, ◌+◌, ◌<◌, ◌≤◌, ◌∙◌, List, [], ◌∷◌, ◌++◌, length, map, take}
use Rattle.std.proofs.Common.{get_or}
use Rattle.std.proofs.Common.{Ok, Err, sym, ap, subst, arith, append_assoc, zero, suc}
use Rattle.std.specs.Prelude.{IfOk, OnOk, Result}
use Rattle.std.specs.List.{All, filter_map, flat_map, range_with_len, slice_index}
use Rattle.std.proofs.lemmas.List.{get_or_default, map-append}
use Rattle.std.proofs.lemmas.List.Elements.{All-get_or, All-nil}
use Rattle.std.proofs.Math.Seq.{take-length}
use Rattle.hv_task.specs.AtomList.{Inserts, set_of}
use Rattle.hv_task.specs.State.{AreBelow}
use Rattle.hv_task.specs.Strips.{IsOver}
use Rattle.hv_task.specs.declared.action.Action.{Action}
use Rattle.hv_task.proofs.Sets.{set_below, set_more, set_same}
use Rattle.hv_sas.specs.declared.sas_task.Effect.{Effect}
use Rattle.hv_sas.specs.declared.sas_task.Fact.{Fact}
use Rattle.hv_sas.specs.declared.sas_task.Sas.{Sas}
use Rattle.hv_sas.specs.declared.sas_task.SasOperator.{SasOperator}
use Rattle.hv_sas.specs.declared.sas_task.SasVariable.{SasVariable}
use Rattle.hv_sas.specs.Variables.{IsFact, range_at, values_in}
use Rattle.hv_sas.specs.Made.{fact_after, fact_atom, fact_atoms, fact_before, facts_gone}
use Rattle.hv_sas.specs.Made.{operator_action}
use Rattle.hv_sas.specs.Working.Making.{AreFirstAtoms, AddsFacts}
use Rattle.hv_sas.proofs.Atoms.{atom_below, range_within, values-cons}

pub puts_one : (vs : List SasVariable) (fact : Fact) (atom : ℕ) (old new : List ℕ) → IsFact vs fact
    → atom ≡ fact_atom vs fact → Inserts old atom new → AddsFacts vs (fact ∷ []) old new
puts_one vs fact atom old new is same inserts = λ earlier e.
    let listed = map (fact_atom vs) earlier in
    let at : Inserts old (fact_atom vs fact) new = subst (λ a. Inserts old a new) same inserts in
    let put : Inserts (set_of (values_in vs) listed) (fact_atom vs fact) new =
    subst (λ s. Inserts s (fact_atom vs fact) new) e at in
    sym (set_more (values_in vs) (fact_atom vs fact) listed new (atom_below vs fact is) put)
    ∙ ap (set_of (values_in vs)) (sym (map-append (fact_atom vs) earlier (fact ∷ [])))

pub puts_more : (vs : List SasVariable) (first then : List Fact) (a b c : List ℕ)
    → AddsFacts vs first a b → AddsFacts vs then b c → AddsFacts vs (first ++ then) a c
puts_more vs first then a b c p q = λ earlier e.
    q (earlier ++ first) (p earlier e) ∙ ap (fact_atoms vs) (append_assoc earlier first then)

-- the same, where the facts together are these
pub puts_next : (vs : List SasVariable) (first then both : List Fact) (a b c : List ℕ)
    → AddsFacts vs first a b → AddsFacts vs then b c → both ≡ first ++ then → AddsFacts vs both a c
puts_next vs first then both a b c p q e =
    subst (λ facts. AddsFacts vs facts a c) (sym e) (puts_more vs first then a b c p q)

pub puts_same : (vs : List SasVariable) (facts others : List Fact) (a b : List ℕ)
    → AddsFacts vs facts a b → others ≡ facts → AddsFacts vs others a b
puts_same vs facts others a b p e = subst (λ fs. AddsFacts vs fs a b) (sym e) p

-- what follows where the call was well
pub on_ok : {T E : Type 0} (P Q : Type 0) (r : Result T E) → (P → Q) → OnOk r P → OnOk r Q
on_ok P Q (Ok x) f h = f h
on_ok P Q (Err e) f h = tt

pub atom_is : (vs : List SasVariable) (firsts : List ℕ) (fact : Fact) → AreFirstAtoms vs firsts
    → IsFact vs fact → slice_index firsts fact.var + fact.value ≡ fact_atom vs fact
atom_is vs firsts fact are is =
    ap (λ n. n + fact.value) (are.first fact.var (range_within vs fact.var fact.value is))

-- one element more of a list of which all were taken at the end
pub take_all : {X : Type 0} (xs : List X) (i : ℕ) → length xs ≤ i → i ≤ length xs → take i xs ≡ xs
take_all xs i low high =
    let e : i ≡ length xs = omega arith in ap (λ n. take n xs) e ∙ take-length xs

pub range_next : (from n : ℕ)
    → range_with_len from (n + 1) ≡ range_with_len from n ++ (from + n) ∷ []
range_next from zero = let e : from ≡ from + 0 = omega arith in ap (λ m. m ∷ []) e
range_next from (suc n) =
    let e : from + 1 + n ≡ from + suc n = omega arith in
    let one : suc n + 1 ≡ suc (n + 1) = omega arith in
    ap (range_with_len from) one
    ∙ ap (λ xs. from ∷ xs)
    (range_next (from + 1) n ∙ ap (λ m. range_with_len (from + 1) n ++ m ∷ []) e)

pub range_more : (n : ℕ) → range_with_len 0 (n + 1) ≡ range_with_len 0 n ++ n ∷ []
range_more n = let e : 0 + n ≡ n = omega arith in
    range_next 0 n ∙ ap (λ m. range_with_len 0 n ++ m ∷ []) e

-- there are no more variables than values, where each has one
pub few_variables : (vs : List SasVariable) → ((v : ℕ) → v < length vs → 0 < range_at vs v)
    → length vs ≤ values_in vs
few_variables [] have = omega arith
few_variables (x ∷ vs) have =
    let e = values-cons x vs in
    let first = have 0 (omega arith) in
    let rest = few_variables vs (λ v within. have (suc v) (omega arith)) in omega arith

-- a variable has no more values than all have together
pub few_at : (vs : List SasVariable) (v : ℕ) → range_at vs v ≤ values_in vs
few_at [] v = omega arith
few_at (x ∷ vs) zero = let e = values-cons x vs in omega arith
few_at (x ∷ vs) (suc v) = let e = values-cons x vs in let more = few_at vs v in omega arith

-- the values of the variables up to the next
pub values_next : (vs : List SasVariable) (k : ℕ) (x : SasVariable) → k < length vs
    → values_in (take (k + 1) vs) ≡ values_in (take k vs) + length (get_or vs k x).values
values_next [] k x within = absurd (omega arith)
values_next (y ∷ vs) zero x within = let e = values-cons y [] in e ∙ omega arith
values_next (y ∷ vs) (suc k) x within =
    let one : suc k + 1 ≡ suc (k + 1) = omega arith in
    let e = values-cons y (take (k + 1) vs) in
    let f = values-cons y (take k vs) in
    let more = values_next vs k x (omega arith) in
    ap (λ n. values_in (take n (y ∷ vs))) one ∙ omega arith

pub values_upto : (vs : List SasVariable) (k : ℕ) → values_in (take k vs) ≤ values_in vs
values_upto [] zero = omega arith
values_upto [] (suc k) = omega arith
values_upto (y ∷ vs) zero = omega arith
values_upto (y ∷ vs) (suc k) =
    let e = values-cons y vs in
    let f = values-cons y (take k vs) in
    let more = values_upto vs k in omega arith

-- No facts, and the lists of a made task.

pub atoms_none : (vs : List SasVariable) → fact_atoms vs [] ≡ []
atoms_none vs =
    set_same (values_in vs) [] (λ k within. absurd (omega arith)) (All-nil (λ n. n < values_in vs))

pub atoms_below : (vs : List SasVariable) (facts : List Fact)
    → AreBelow (values_in vs) (fact_atoms vs facts)
atoms_below vs facts = set_below (values_in vs) (map (fact_atom vs) facts)

pub if_ok : {T E : Type 0} (P Q : T → Type 0) (r : Result T E) → ((x : T) → P x → Q x) → IfOk r P
    → IfOk r Q
if_ok P Q (Ok x) f h = f x h
if_ok P Q (Err e) f h = tt

pub same_action : (name other : List ℕ) (cost price : ℕ) (pre add del pres adds dels : List ℕ)
    → name ≡ other → cost ≡ price → pre ≡ pres → add ≡ adds → del ≡ dels
    → ◌≡◌ {A = Action} (record { name = name; cost = cost; pre = pre; add = add; del = del })
    (record { name = other; cost = price; pre = pres; add = adds; del = dels })
same_action name other cost price pre add del pres adds dels n c p a d =
    let action : List ℕ → ℕ → List ℕ → List ℕ → List ℕ → Action =
    λ v w x y z. record { name = v; cost = w; pre = x; add = y; del = z } in
    ap (λ v. action v cost pre add del) n ∙ ap (λ v. action other v pre add del) c
    ∙ ap (λ v. action other price v add del) p ∙ ap (λ v. action other price pres v del) a
    ∙ ap (λ v. action other price pres adds v) d

pub action_over : (sas : Sas) (op : SasOperator)
    → IsOver (values_in sas.variables) (operator_action sas op)
action_over sas op = record {
  pre = atoms_below sas.variables (op.prevail ++ filter_map fact_before op.effects);
  add = atoms_below sas.variables (map fact_after op.effects);
  del = atoms_below sas.variables
      (flat_map (λ (e : Effect). facts_gone sas.variables e (fact_before e))
      op.effects);
}

pub item_is : {X : Type 0} (P : X → Type 0) (items : List X) (i : ℕ) (x : X) → All P items
    → i < length items → x ≡ get_or items i x → P x
item_is P items i x all within e = subst P (sym e) (All-get_or P items i x within all)

pub item_at : {X : Type 0} (P : X → Type 0) (items : List X) (i k : ℕ) (x d : X) → P x
    → i < length items → x ≡ get_or items i x → k ≡ i → P (get_or items k d)
item_at P items i k x d p within e same =
    subst P (e ∙ get_or_default items i x d within ∙ ap (λ n. get_or items n d) (sym same)) p
