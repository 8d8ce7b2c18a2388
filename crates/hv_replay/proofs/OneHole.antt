-- A log is closed or has one first hole, and not both.
use Rattle.std.proofs.Common.{◌≡◌, ℕ, ◌+◌, ◌<◌, ◌∙◌, Bool, List, ap, inl, inr, refl, subst, sym}
use Rattle.std.proofs.lemmas.Bool.{cases_order}
use Rattle.hv_task.specs.Strips.{Strips}
use Rattle.hv_replay.specs.Closed.{IsClosed, IsFirstWithout, IsFirstHole, LeadsOn}
use Rattle.hv_replay.specs.Logs.{SearchLog}
use Rattle.hv_replay.specs.declared.hole.ReplayFault.{ReplayFault}
use Rattle.hv_replay.specs.declared.hole.ReplayFault.TheVariants as H

same_first : (P : ℕ → Type 0) (i j : ℕ) → IsFirstWithout P i → IsFirstWithout P j → i ≡ j
same_first P i j p q =
    elim (cases_order i j) [
      | inl equal ↦ equal
      | inr (inl less) ↦ absurd (p.0 (q.1 i less))
      | inr (inr greater) ↦ absurd (q.0 (p.1 j greater))
    ]

module _ (task : Strips) (log : SearchLog) (covered : List Bool → Type 0) where
  pub closed_or_hole : (hole : ReplayFault) → IsClosed task log covered
      → IsFirstHole task log covered hole → ⊥
  closed_or_hole H.NoInitial c h = h c.followed.initial
  closed_or_hole (H.GoalExpanded line) c h = h.3.0 (c.followed.goalless h.1)
  closed_or_hole (H.Open line action) c h = h.4.0 (c.followed.leads h.2 action)
  closed_or_hole (H.Unjustified line) c h = h.3.0 (c.justified h.1)
  closed_or_hole H.Memory c h = h

  same_open : (i j a b : ℕ) → IsFirstWithout (LeadsOn task log i) a
      → IsFirstWithout (LeadsOn task log j) b
      → ((before number : ℕ) → before < i → LeadsOn task log before number)
      → ((before number : ℕ) → before < j → LeadsOn task log before number) → (i ≡ j) × (a ≡ b)
  same_open i j a b p q f g =
      let same : i ≡ j =
      elim (cases_order i j) [
        | inl equal ↦ equal
        | inr (inl less) ↦ absurd (p.0 (g i a less))
        | inr (inr greater) ↦ absurd (q.0 (f j b greater))
      ] in (
        same,
        same_first (LeadsOn task log j) a b
            (subst (λ k. IsFirstWithout (LeadsOn task log k) a) same p) q,
      )

  pub one_hole : (f g : ReplayFault) → IsFirstHole task log covered f
      → IsFirstHole task log covered g → f ≡ g
  one_hole H.NoInitial H.NoInitial p q = refl
  one_hole H.NoInitial (H.GoalExpanded n) p q = absurd (p q.0)
  one_hole H.NoInitial (H.Open n b) p q = absurd (p q.0)
  one_hole H.NoInitial (H.Unjustified n) p q = absurd (p q.0.initial)
  one_hole H.NoInitial H.Memory p q = absurd q
  one_hole (H.GoalExpanded m) H.NoInitial p q = absurd (q p.0)
  one_hole (H.GoalExpanded m) (H.GoalExpanded n) p q =
      ap (λ k. H.GoalExpanded k) (p.2 ∙ (ap (λ k. k + 1) (same_first _ p.1 q.1 p.3 q.3) ∙ sym q.2))
  one_hole (H.GoalExpanded m) (H.Open n b) p q = absurd (p.3.0 (q.1 p.1))
  one_hole (H.GoalExpanded m) (H.Unjustified n) p q = absurd (p.3.0 (q.0.goalless p.1))
  one_hole (H.GoalExpanded m) H.Memory p q = absurd q
  one_hole (H.Open m a) H.NoInitial p q = absurd (q p.0)
  one_hole (H.Open m a) (H.GoalExpanded n) p q = absurd (q.3.0 (p.1 q.1))
  one_hole (H.Open m a) (H.Open n b) p q =
      let same = same_open p.2 q.2 a b p.4 q.4 p.5 q.5 in
      ap (λ k. H.Open k a) (p.3 ∙ (ap (λ k. k + 1) same.0 ∙ sym q.3)) ∙ ap (λ k. H.Open n k) same.1
  one_hole (H.Open m a) (H.Unjustified n) p q = absurd (p.4.0 (q.0.leads p.2 a))
  one_hole (H.Open m a) H.Memory p q = absurd q
  one_hole (H.Unjustified m) H.NoInitial p q = absurd (q p.0.initial)
  one_hole (H.Unjustified m) (H.GoalExpanded n) p q = absurd (q.3.0 (p.0.goalless q.1))
  one_hole (H.Unjustified m) (H.Open n b) p q = absurd (q.4.0 (p.0.leads q.2 b))
  one_hole (H.Unjustified m) (H.Unjustified n) p q =
      ap (λ k. H.Unjustified k) (p.2 ∙ (ap (λ k. k + 1) (same_first _ p.1 q.1 p.3 q.3) ∙ sym q.2))
  one_hole (H.Unjustified m) H.Memory p q = absurd q
  one_hole H.Memory g p q = absurd p
