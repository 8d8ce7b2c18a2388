-- States of the made task that denote states of the finite-domain task.
use Rattle.std.proofs.Common.{◌≡◌, ℕ, ◌<◌, ◌∙◌, inl, inr, Bool, true}
use Rattle.std.proofs.Common.{◌&&◌, List, [], ◌∷◌, ◌++◌, Option, None, Some, IfSome, length}
use Rattle.std.proofs.Common.{map}
use Rattle.std.proofs.Common.{refl, sym, ap, subst, arith}
use Rattle.std.specs.Prelude.{◌==◌, option_map}
use Rattle.std.specs.Option.{option_map_or}
use Rattle.std.specs.List.{cons_option, filter_map, list_all, range_with_len}
use Rattle.std.specs.List.{slice_index}
use Rattle.std.proofs.lemmas.Bool.{eq-eqb, eqb-true}
use Rattle.hv_task.specs.State.{applicable, has_all, has_atom, names_atom, state_of}
use Rattle.hv_task.proofs.Places.{has_atom-state_of}
use Rattle.hv_task.proofs.Places.{names_atom-Decides}
use Rattle.hv_task.proofs.Sets.{listed_from_set, set_has}
use Rattle.hv_sas.specs.declared.sas_task.Effect.{Effect}
use Rattle.hv_sas.specs.declared.sas_task.Fact.{Fact}
use Rattle.hv_sas.specs.declared.sas_task.Sas.{Sas}
use Rattle.hv_sas.specs.declared.sas_task.SasOperator.{SasOperator}
use Rattle.hv_sas.specs.declared.sas_task.SasVariable.{SasVariable}
use Rattle.hv_sas.specs.Variables.{IsEffectOn, IsFact, range_at, values_in}
use Rattle.hv_sas.specs.Sound.{IsOperator, IsAssignment}
use Rattle.hv_sas.specs.Meaning.{has_fact, holds_before, is_applicable}
use Rattle.hv_sas.specs.Made.{operator_action, fact_atom, fact_atoms, fact_before}
use Rattle.hv_sas.specs.Made.{state_facts}
use Rattle.hv_sas.proofs.Members.{Has, all-append, all_from, all_has, all_of, contains_has}
use Rattle.hv_sas.proofs.Members.{filter_map_from}
use Rattle.hv_sas.proofs.Members.{has_contains}
use Rattle.hv_sas.proofs.Members.{has_split, map_from, map_has, range_from, range_has, same_truth}
use Rattle.hv_sas.proofs.Atoms.{atom_apart, atom_below, range_within}

-- the state of the made task that holds the facts of this state, and no other
abbrev pub coded : List SasVariable → List ℕ → List Bool
coded vs s = state_of (values_in vs) (fact_atoms vs (state_facts s))

-- Atoms of facts.

pub fact_path : (f : Fact) (v x : ℕ) → v ≡ f.var → x ≡ f.value → record { var = v; value = x } ≡ f
fact_path f v x e g =
    let fact : ℕ → ℕ → Fact = λ w y. record { var = w; value = y } in
    ap (λ w. fact w x) e ∙ ap (λ y. fact f.var y) g

pub named_from : (vs : List SasVariable) (facts : List Fact) (p : ℕ)
    → names_atom (fact_atoms vs facts) p ≡ true → (f : Fact) × Has f facts × (fact_atom vs f ≡ p)
named_from vs facts p e =
    let c = (names_atom-Decides (fact_atoms vs facts) p).0 e in
    let l = listed_from_set (values_in vs) (map (fact_atom vs) facts) p c in
    map_from (fact_atom vs) facts p (contains_has p (map (fact_atom vs) facts) l.1)

listed : (vs : List SasVariable) (facts : List Fact) (f : Fact) → IsFact vs f → Has f facts
    → Has (fact_atom vs f) (fact_atoms vs facts)
listed vs facts f is h =
    contains_has (fact_atom vs f) (fact_atoms vs facts)
    (set_has (values_in vs) (map (fact_atom vs) facts) (fact_atom vs f) (atom_below vs f is)
    (has_contains (fact_atom vs f) (map (fact_atom vs) facts) (map_has (fact_atom vs) facts f h)))

pub named_has : (vs : List SasVariable) (facts : List Fact) (f : Fact) → IsFact vs f → Has f facts
    → names_atom (fact_atoms vs facts) (fact_atom vs f) ≡ true
named_has vs facts f is h =
    (names_atom-Decides (fact_atoms vs facts) (fact_atom vs f)).1
    (has_contains (fact_atom vs f) (fact_atoms vs facts) (listed vs facts f is h))

-- where the list has facts alone, it names the atom of a fact exactly where it has the fact
pub named_back : (vs : List SasVariable) (facts : List Fact) (f : Fact)
    → ((g : Fact) → Has g facts → IsFact vs g) → IsFact vs f
    → names_atom (fact_atoms vs facts) (fact_atom vs f) ≡ true → Has f facts
named_back vs facts f are is e =
    let m = named_from vs facts (fact_atom vs f) e in
    subst (λ g. Has g facts) (atom_apart vs m.0 f (are m.0 m.1) is m.2) m.1

state_has : (s : List ℕ) (f : Fact) → f.var < length s → slice_index s f.var ≡ f.value
    → Has f (state_facts s)
state_has s f within e =
    let fact : ℕ → Fact = λ v. record { var = v; value = slice_index s v } in
    subst (λ g. Has g (state_facts s)) (fact_path f f.var (slice_index s f.var) refl e)
    (map_has fact (range_with_len 0 (length s)) f.var
    (range_has 0 (length s) f.var (omega arith) (omega arith)))

state_from : (s : List ℕ) (f : Fact) → Has f (state_facts s)
    → (f.var < length s) × (slice_index s f.var ≡ f.value)
state_from s f h =
    let fact : ℕ → Fact = λ v. record { var = v; value = slice_index s v } in
    let m = map_from fact (range_with_len 0 (length s)) f h in
    let w = range_from 0 (length s) m.0 m.1 in
    let var : m.0 ≡ f.var = ap (λ (g : Fact). g.var) m.2 in
    let value : slice_index s m.0 ≡ f.value = ap (λ (g : Fact). g.value) m.2 in
    let less = w.1 in (omega arith, ap (slice_index s) (sym var) ∙ value)

-- the facts of a state are facts
pub state_facts_are : (vs : List SasVariable) (s : List ℕ) → IsAssignment vs s
    → (f : Fact) → Has f (state_facts s) → IsFact vs f
state_facts_are vs s is f h =
    let w = state_from s f h in
    let range = is.within f.var w.0 in
    let e = w.1 in omega arith

-- a fact holds in a state exactly where its atom is in the coded state
pub has_coded : (vs : List SasVariable) (s : List ℕ) (f : Fact) → IsAssignment vs s → IsFact vs f
    → has_atom (coded vs s) (fact_atom vs f) ≡ has_fact s f
has_coded vs s f is fact =
    has_atom-state_of (values_in vs) (fact_atoms vs (state_facts s)) (fact_atom vs f)
    (atom_below vs f fact)
    ∙ same_truth (names_atom (fact_atoms vs (state_facts s)) (fact_atom vs f)) (has_fact s f)
    (λ e. let w = state_from s f
    (named_back vs (state_facts s) f (state_facts_are vs s is) fact e) in
    eq-eqb (slice_index s f.var) f.value w.1)
    (λ e. let v = range_within vs f.var f.value fact in
    let size = is.count in
    named_has vs (state_facts s) f fact
    (state_has s f (omega arith) (eqb-true (slice_index s f.var) f.value e)))

-- facts hold together exactly where their atoms do
pub all_coded : (vs : List SasVariable) (s : List ℕ) (facts : List Fact) → IsAssignment vs s
    → ((f : Fact) → Has f facts → IsFact vs f)
    → has_all (fact_atoms vs facts) (coded vs s) ≡ list_all (has_fact s) facts
all_coded vs s facts is are =
    same_truth (has_all (fact_atoms vs facts) (coded vs s)) (list_all (has_fact s) facts)
    (λ e. all_has (has_fact s) facts (λ f h.
    sym (has_coded vs s f is (are f h))
    ∙ all_from (λ p. has_atom (coded vs s) p) (fact_atoms vs facts) (fact_atom vs f) e
    (listed vs facts f (are f h) h)))
    (λ e. all_has (λ p. has_atom (coded vs s) p) (fact_atoms vs facts) (λ p h.
    let l = listed_from_set (values_in vs) (map (fact_atom vs) facts) p
    (has_contains p (fact_atoms vs facts) h) in
    let m = map_from (fact_atom vs) facts p (contains_has p (map (fact_atom vs) facts) l.1) in
    subst (λ q. has_atom (coded vs s) q ≡ true) m.2
    (has_coded vs s m.0 is (are m.0 m.1) ∙ all_from (has_fact s) facts m.0 e m.1)))

-- Applicable operators.

before_holds : (s : List ℕ) (v : ℕ) (before : Option ℕ) (rest : List Fact)
    → list_all (has_fact s)
    (cons_option (option_map (λ x. record { var = v; value = x }) before) rest)
    ≡ (option_map_or (λ x. slice_index s v == x) before true && list_all (has_fact s) rest)
before_holds s v None rest = refl
before_holds s v (Some x) rest = refl

befores_hold : (s : List ℕ) (es : List Effect)
    → list_all (has_fact s) (filter_map fact_before es) ≡ list_all (holds_before s) es
befores_hold s [] = refl
befores_hold s (e ∷ es) =
    before_holds s e.var e.before (filter_map fact_before es)
    ∙ ap (λ b. holds_before s e && b) (befores_hold s es)

pub is_before : (vs : List SasVariable) (v : ℕ) (before : Option ℕ) (f : Fact)
    → IfSome before (λ x. x < range_at vs v)
    → ◌≡◌ {A = Option Fact} (option_map (λ x. record { var = v; value = x }) before) (Some f)
    → IsFact vs f
is_before vs v None f is e = absurd cc
is_before vs v (Some x) f is e =
    let fact : Fact = record { var = v; value = x } in
    let same : fact ≡ f = cc in
    subst (λ g. IsFact vs g) same is

pub pre_facts : (vs : List SasVariable) (op : SasOperator) → IsOperator vs op → (f : Fact)
    → Has f (op.prevail ++ filter_map fact_before op.effects) → IsFact vs f
pre_facts vs op is f h =
    elim (has_split f op.prevail (filter_map fact_before op.effects) h) [
      | inl k ↦ all_of (IsFact vs) op.prevail f is.prevail k
      | inr k ↦
          let m = filter_map_from fact_before op.effects f k in
          let e = all_of (IsEffectOn vs) op.effects m.0 is.effects m.1 in
          is_before vs m.0.var m.0.before f e.before m.2
    ]

pub applicable_coded : (sas : Sas) (op : SasOperator) (s : List ℕ) → IsAssignment sas.variables s
    → IsOperator sas.variables op
    → applicable (operator_action sas op) (coded sas.variables s) ≡ is_applicable op s
applicable_coded sas op s is operator =
    all_coded sas.variables s (op.prevail ++ filter_map fact_before op.effects) is
    (pre_facts sas.variables op operator)
    ∙ all-append (has_fact s) op.prevail (filter_map fact_before op.effects)
    ∙ ap (λ b. list_all (has_fact s) op.prevail && b) (befores_hold s op.effects)
