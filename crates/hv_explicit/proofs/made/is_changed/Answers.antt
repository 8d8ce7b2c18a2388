use Rattle.std.proofs.Common.{◌⊎◌, arith, below_more, get_or, inl, inr, subst, sym}
use Rattle.std.proofs.lemmas.Bool.{cases_lt}
use Rattle.std.proofs.lemmas.List.{get_or_default}
use Rattle.std.proofs.lemmas.List.Elements.{Contains-get_or}
use Rattle.std.specs.List.{Contains}
use Rattle.hv_explicit.proofs.made.is_changed.Goals as goal

pub loop-atom-preserved : goal.loop-atom-preserved
loop-atom-preserved c =
    let list = c.args.list.now in
    let held = c.args.held.now in
    let add = c.args.add.now in
    let i = c.loop-atom.atom-index in
    let inv = c.loop-atom.invariant in
    let here = Contains-get_or list i 0 c.loop-atom-test.true in
    let stand = c.past_deleted-stand.result in
    record {
      kept_within = c.past-next.ensures.within;
      added_within = c.past-more.ensures.within;
      listed = below_more (λ k. Contains held (get_or list k 0) ⊎ Contains add (get_or list k 0)) i
          inv.listed (elim (c.both_stay.ensures c.if-both_stay.false) [
            | inl kept ↦
                let within = c.past-next.ensures.within in
                inl (subst (Contains held) (c.past-next.ensures.only stand (omega arith) kept)
                (Contains-get_or held stand 0 (omega arith)))
            | inr new ↦
                let within = c.past-more.ensures.within in
                inr (subst (Contains add)
                (c.past-more.ensures.only c.loop-atom.added (omega arith) new)
                (Contains-get_or add c.loop-atom.added 0 (omega arith)))
          ]);
      kept = λ k less. elim (cases_lt k stand) [
        | inl before ↦ elim (cases_lt k c.loop-atom.kept) [
          | inl old ↦ inv.kept k old
          | inr passed ↦ inr (c.past_deleted-stand.ensures.deleted k passed before)
        ]
        | inr from ↦ inl (subst (Contains list) (sym (c.past-next.ensures.only k from less)) here)
      ];
      added = λ k less. elim (cases_lt k c.loop-atom.added) [
        | inl old ↦ inv.added k old
        | inr new ↦ subst (Contains list) (sym (c.past-more.ensures.only k new less)) here
      ];
    }

pub returns-clause-added : goal.returns-clause-added
returns-clause-added c = λ yes k d within.
    subst (Contains c.args.list.now) (sym (get_or_default c.args.add.now k d 0 within))
    (c.loop-atom.invariant.added k (let end = c.is_end-2.ensures yes in omega arith))

pub returns-clause-listed : goal.returns-clause-listed
returns-clause-listed c = λ yes k d within.
    subst (λ a. Contains c.args.held.now a ⊎ Contains c.args.add.now a)
    (sym (get_or_default c.args.list.now k d 0 within))
    (c.loop-atom.invariant.listed k (let end = c.loop-atom-test.false in omega arith))

pub returns-clause-kept : goal.returns-clause-kept
returns-clause-kept c = λ yes k d within.
    subst (λ a. Contains c.args.list.now a ⊎ Contains c.args.del.now a)
    (sym (get_or_default c.args.held.now k d 0 within))
    (elim (cases_lt k c.loop-atom.kept) [
      | inl old ↦ c.loop-atom.invariant.kept k old
      | inr past ↦ inr (c.past_deleted-end.ensures.deleted k past
          (let over = c.is_end.ensures c.if-not-is_end.false in omega arith))
    ])
