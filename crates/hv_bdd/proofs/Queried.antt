-- Why the search through live tuples answers a query.
use Rattle.std.proofs.Common.{◌≡◌, ℕ, ◌∙◌, Bool, true, false, List, Option, Result, Ok, Err, IfOk}
use Rattle.std.proofs.Common.{get_or, map, not, refl, sym, arith, subst}
use Rattle.std.proofs.lemmas.List.Elements.{All-append, All-filter, All-map}
use Rattle.std.proofs.lemmas.Bool.{false_from_ne_true}
use Rattle.std.specs.List.{All}
use Rattle.std.specs.declared.alloc.AllocError.{AllocError}
use Rattle.hv_task.specs.Strips.{IsTask, Strips, atoms}
use Rattle.hv_task.proofs.Places.{IsState-start_state, length-state_of}
use Rattle.hv_sets.specs.Cost.{IsAnswer}
use Rattle.hv_sets.specs.Query.{IsNamed, IsReady, action_of, is_clash}
use Rattle.hv_sets.specs.declared.finding.Finding.{Finding}
use Rattle.hv_sets.specs.declared.finding.Finding.TheVariants as F
use Rattle.hv_sets.specs.declared.operand.Operand.{Operand}
use Rattle.hv_sets.specs.declared.operand.Which.{Which}
use Rattle.hv_sets.specs.declared.operand.Which.TheVariants as W
use Rattle.hv_sets.specs.declared.query.Query.{Query}
use Rattle.hv_bdd.specs.declared.asked.Asked.{Asked}
use Rattle.hv_bdd.specs.Nodes.{NodeList, in_node, node_count}
use Rattle.hv_bdd.specs.Reduced.{IsReduced}
use Rattle.hv_bdd.specs.Live.{LivePass, asked_of, operands_of, tuple_setting_of}
use Rattle.hv_bdd.specs.Working.Graphs.{IsLiveAnswer}
use Rattle.hv_bdd.specs.Working.Search.{IsAskable, IsTupleSearch, TupleSearch, is_idle}
use Rattle.hv_bdd.specs.Working.Search.{search_for}
use Rattle.hv_bdd.proofs.Idle.{answer_filled}
use Rattle.hv_bdd.proofs.Asking.{clash_from, suits_from}
use Rattle.hv_bdd.proofs.Marked.{length-changed_by, length-needed_by}
use Rattle.hv_bdd.proofs.Explored.{first_and_second}

module _ (list : NodeList) (task : Strips) (query : Query) (t : IsTask task)
    (size : list.atoms ≡ atoms task) where
  abbrev pub it : TupleSearch
  it = search_for list task query

  askable : (w : Which) → IsNamed (node_count list) w → IsAskable it.setting w
  askable W.Empty named = tt
  askable W.Start named =
      let few = t.few_atoms in (IsState-start_state task ∙ sym size, omega arith)
  askable W.Goal named =
      let few = t.few_atoms in (length-state_of (atoms task) task.goal ∙ sym size, omega arith)
  askable (W.Set number) named = named

  all_named : (b : Bool) (os : List Operand)
      → All (λ (o : Operand). IsNamed (node_count list) o.which) os
      → All (λ (o : Asked). IsNamed (node_count list) o.which) (map (asked_of b) os)
  all_named b os named =
      All-map (λ (o : Asked). IsNamed (node_count list) o.which) (asked_of b) os named

  -- what it is made of
  pub parts_are : (start goal : List Bool) (needed changed : List (Option Bool))
      (asked : List Asked)
      → start ≡ it.setting.start → goal ≡ it.setting.goal → needed ≡ it.setting.needed
      → changed ≡ it.setting.changed → asked ≡ it.asked
      → ◌≡◌ {A = TupleSearch} (record {
        setting = record {
          list = list;
          start = start;
          goal = goal;
          needed = needed;
          changed = changed;
        };
        asked = asked;
      }) it
  parts_are start goal needed changed asked is_start is_goal is_needed is_changed is_asked = λ k.
      record {
        setting = record {
          list = list;
          start = is_start k;
          goal = is_goal k;
          needed = is_needed k;
          changed = is_changed k;
        };
        asked = is_asked k;
      }

  -- the search can be made
  pub can_search : (s : TupleSearch) → s ≡ it → IsReduced list → IsReady (node_count list) query
      → IsTupleSearch s
  can_search s is reduced ready =
      let parts =
      first_and_second (λ (o : Operand). IsNamed (node_count list) o.which) query.positive
      query.negative ready.named in
      let named : All (λ (o : Asked). IsNamed (node_count list) o.which) it.asked =
      All-filter (λ (o : Asked). not (is_idle o))
      (λ (o : Asked). IsNamed (node_count list) o.which) (operands_of query)
      (All-append (λ (o : Asked). IsNamed (node_count list) o.which)
      (map (asked_of true) query.positive) (map (asked_of false) query.negative)
      (all_named true query.positive parts.0) (all_named false query.negative parts.1)) in
      subst IsTupleSearch (sym is) record {
        reduced = reduced;
        needed = length-needed_by (atoms task) (action_of task query.action) ∙ sym size;
        changed = length-changed_by (atoms task) (action_of task query.action) ∙ sym size;
        asked = λ k d less. askable (get_or it.asked k d).which (named k d less);
      }

  by_answer : IsReduced list → (found : Finding) (budget : ℕ) (state : List Bool)
      → IsLiveAnswer found (tuple_setting_of list task query) (operands_of query) budget state
      → IsAnswer found (LivePass list task query budget) (atoms task)
      (is_clash task (in_node list) query) state
  by_answer reduced F.Over budget state says = says
  by_answer reduced F.Clash budget state says =
      (says.0, says.1.0.0 ∙ size, clash_from list reduced task query size state t says.1)
  by_answer reduced F.Empty budget state says = (
    says.0,
    λ x in_x.
        false_from_ne_true (is_clash task (in_node list) query x) (λ clash.
        says.1 x (suits_from list reduced task query size x t (in_x ∙ sym size) clash)),
  )

  -- so its answer is that of the query
  pub answer_is : (s : TupleSearch) → s ≡ it → IsReduced list → IsReady (node_count list) query
      → (found : Result Finding AllocError) (budget : ℕ) (state : List Bool)
      → IfOk found (λ f. IsLiveAnswer f s.setting s.asked budget state)
      → IfOk found (λ f.
      IsAnswer f (LivePass list task query budget) (atoms task)
      (is_clash task (in_node list) query) state)
  answer_is s is reduced ready (Ok found) budget state says =
      by_answer reduced found budget state
      (answer_filled it.setting (operands_of query) (can_search it refl reduced ready) found budget
      state
      (subst (λ (x : TupleSearch). IsLiveAnswer found x.setting x.asked budget state) is says))
  answer_is s is reduced ready (Err e) budget state says = says
