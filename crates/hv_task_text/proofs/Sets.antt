-- The sets of an action that is being read.
use Rattle.std.proofs.Common.{◌≡◌, ◌∙◌, ◌<◌, ◌++◌, ◌∷◌, ℕ, List, [], Ok, Err, arith, append-nil}
use Rattle.std.proofs.Common.{ap, sym}
use Rattle.std.specs.Prelude.{OnOk, Result}
use Rattle.std.specs.List.{filter_map}
use Rattle.std.proofs.lemmas.List.Elements.{All-nil, filter_map-append}
use Rattle.hv_task.specs.AtomList.{Inserts, set_of}
use Rattle.hv_task.proofs.Sets.{set_more, set_same}
use Rattle.hv_task_text.specs.Working.Reading.{AreOf, no_lists}
use Rattle.hv_task_text.specs.Written.{add_of, del_of, pre_of}
use Rattle.hv_task_text.specs.declared.atom_lists.Item.{Item}
use Rattle.hv_task_text.specs.declared.atom_lists.Item.TheVariants as I
use Rattle.hv_task_text.specs.declared.atom_lists.AtomLists.{AtomLists}

module _ (atoms : ℕ) (items : List Item) (lists : AtomLists) (are : AreOf atoms items lists) where
  pub with_pre : (n : ℕ) (new : List ℕ) → n < atoms → Inserts lists.pre n new
      → AreOf atoms (items ++ I.Pre n ∷ []) (record lists { pre = new })
  with_pre n new below inserts = record {
    pre = sym (ap (set_of atoms) (filter_map-append pre_of items (I.Pre n ∷ []))
        ∙ set_more atoms n (filter_map pre_of items) new below (rw are.pre at inserts));
    add = are.add ∙ sym (ap (set_of atoms) (filter_map-append add_of items (I.Pre n ∷ [])
        ∙ append-nil (filter_map add_of items)));
    del = are.del ∙ sym (ap (set_of atoms) (filter_map-append del_of items (I.Pre n ∷ [])
        ∙ append-nil (filter_map del_of items)));
  }

  pub with_add : (n : ℕ) (new : List ℕ) → n < atoms → Inserts lists.add n new
      → AreOf atoms (items ++ I.Add n ∷ []) (record lists { add = new })
  with_add n new below inserts = record {
    pre = are.pre ∙ sym (ap (set_of atoms) (filter_map-append pre_of items (I.Add n ∷ [])
        ∙ append-nil (filter_map pre_of items)));
    add = sym (ap (set_of atoms) (filter_map-append add_of items (I.Add n ∷ []))
        ∙ set_more atoms n (filter_map add_of items) new below (rw are.add at inserts));
    del = are.del ∙ sym (ap (set_of atoms) (filter_map-append del_of items (I.Add n ∷ [])
        ∙ append-nil (filter_map del_of items)));
  }

  pub with_del : (n : ℕ) (new : List ℕ) → n < atoms → Inserts lists.del n new
      → AreOf atoms (items ++ I.Del n ∷ []) (record lists { del = new })
  with_del n new below inserts = record {
    pre = are.pre ∙ sym (ap (set_of atoms) (filter_map-append pre_of items (I.Del n ∷ [])
        ∙ append-nil (filter_map pre_of items)));
    add = are.add ∙ sym (ap (set_of atoms) (filter_map-append add_of items (I.Del n ∷ [])
        ∙ append-nil (filter_map add_of items)));
    del = sym (ap (set_of atoms) (filter_map-append del_of items (I.Del n ∷ []))
        ∙ set_more atoms n (filter_map del_of items) new below (rw are.del at inserts));
  }

pub on_ok : {T E : Type 0} (P Q : Type 0) (r : Result T E) → (P → Q) → OnOk r P → OnOk r Q
on_ok P Q (Ok x) f h = f h
on_ok P Q (Err e) f h = tt

-- no atom is listed
pub no_atom : (atoms : ℕ) → set_of atoms [] ≡ []
no_atom atoms = set_same atoms [] (λ k less. absurd (omega arith)) (All-nil (λ n. n < atoms))

-- before the first line
pub none_read : (atoms : ℕ) (lists : AtomLists) → lists ≡ no_lists → AreOf atoms [] lists
none_read atoms lists none = record {
  pre = ap (λ (l : AtomLists). l.pre) none ∙ sym (no_atom atoms);
  add = ap (λ (l : AtomLists). l.add) none ∙ sym (no_atom atoms);
  del = ap (λ (l : AtomLists). l.del) none ∙ sym (no_atom atoms);
}
