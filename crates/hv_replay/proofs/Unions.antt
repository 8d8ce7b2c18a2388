-- Unions of explicit sets: what is asked of them, and that further lines change nothing of them.
use Rattle.std.proofs.Common.{◌≡◌, ℕ, zero, suc, ◌<◌, ◌++◌, Bool, true, false, List, []}
use Rattle.std.proofs.Common.{◌∷◌, Some, get_or, refl, sym, ap, subst, inl, inr, arith}
use Rattle.std.proofs.lemmas.List.Quantifiers.{all_pairs_push}
use Rattle.std.proofs.lemmas.Option.{get_or_from_slice_get, same_Some, slice_get_within}
use Rattle.std.specs.List.{All, AllPairs, slice_get}
use Rattle.hv_task.specs.State.{state_of}
use Rattle.hv_task.specs.Strips.{Strips, atoms}
use Rattle.hv_lines.specs.Literals.{IsLiteral}
use Rattle.hv_lines.specs.Meaning.{SetOfStates}
use Rattle.hv_lines.specs.Numbering.{IsTable, expr_count, statement_at}
use Rattle.hv_lines.specs.Pruning.{DeniesFew, Extends, IsDeadBy, states_in}
use Rattle.hv_lines.specs.Shapes.{AskingsRise, or_parts}
use Rattle.hv_lines.specs.declared.formula_family.FormulaFamily.TheVariants as F
use Rattle.hv_lines.specs.declared.line.Constant.TheVariants as C
use Rattle.hv_lines.specs.declared.line.Expr.TheVariants as E
use Rattle.hv_lines.specs.declared.line.Line.{Line}
use Rattle.hv_lines.specs.declared.line.Statement.TheVariants as T
use Rattle.hv_lines.specs.declared.note.Note.{Note}
use Rattle.hv_lines.proofs.Clausal.{constant_signed}
use Rattle.hv_lines.proofs.Elements.{all_from}
use Rattle.hv_lines.proofs.Extended.{HasPrelude, expr_extended, statement_extended, states_extended}
use Rattle.hv_lines.proofs.Laws.{expr_below}
use Rattle.hv_lines.proofs.PlainSides.{asked_all}
use Rattle.hv_lines.proofs.SignedSides.{AreSigned, Signed, both_signed, only, plain_signed, those}
use Rattle.hv_replay.specs.Working.PrunedLines.{IsPrunedUnion, IsUnionOfStates, empty_alone}
use Rattle.hv_replay.specs.Working.PrunedLines.{one_beside}

-- the set is a literal that holds the state, and the line says that it is dead
pub record IsHeld (task : Strips) (lines : List Line) (held : List ℕ) (holder : Note) : Type 0 where
  pub says : statement_at lines holder.line ≡ Some (T.Dead holder.set)
  pub literal : IsLiteral lines holder.set
  pub inside : states_in task lines holder.set (state_of (atoms task) held)
  pub few : DeniesFew lines holder.set

pub held_by : (task : Strips) (lines : List Line) (held : List ℕ) (holder : Note)
    → IsDeadBy task lines (state_of (atoms task) held) holder.line
    → statement_at lines holder.line ≡ Some (T.Dead holder.set)
    → IsHeld task lines held holder
held_by task lines held holder by says =
    let same : by.set ≡ holder.set = cc (by.dead.says, says) in
    record {
      says = says;
      literal = subst (IsLiteral lines) same by.dead.literal;
      inside = subst (λ s. states_in task lines s (state_of (atoms task) held)) same by.holds;
      few = subst (DeniesFew lines) same by.dead.few;
    }

-- a draft that grows
module _ (task : Strips) (old new : List Line) (extends : Extends task old new) where
  pub states_stay : (set : ℕ) (state : List Bool) → set < expr_count old
      → states_in task old set state → states_in task new set state
  states_stay set state below =
      subst (λ (S : SetOfStates). S state) (sym (states_extended task old new extends set below))

  pub stays_union : (set : ℕ) (leaves : List ℕ) → IsUnionOfStates old set leaves
      → IsUnionOfStates new set leaves
  stays_union _ _ (empty_alone set at) =
      empty_alone set (expr_extended task old new extends set (E.Constant C.Empty) at)
  stays_union _ _ (one_beside set union last leaves states of below at either) =
      one_beside set union last leaves states (stays_union union leaves of) below
      (expr_extended task old new extends last (E.States states) at) (elim either [
        | inl is ↦ inl (expr_extended task old new extends set (E.Or union last) is)
        | inr is ↦ inr (expr_extended task old new extends set (E.Or last union) is)
      ])

  pub union_extended : (pruned : ℕ) (union : Note) → IsPrunedUnion old pruned union
      → IsPrunedUnion new pruned union
  union_extended pruned union is = record {
    says = statement_extended task old new extends union.line (T.Dead union.set) is.says;
    leaves = is.leaves;
    are = stays_union union.set is.leaves is.are;
    few = is.few;
  }

-- at first the union is the empty set
pub union_begins : (lines : List Line) → HasPrelude lines
    → IsPrunedUnion lines 0 (record { set = 0; line = 0 })
union_begins lines has = record {
  says = has.empty_dead;
  leaves = 0 ∷ [];
  are = empty_alone 0 has.empty;
  few = omega arith;
}

-- lists of one sign, one after the other
those_both : (xs ys : List ℕ) → ◌≡◌ {A = Signed} (λ sign. those true xs sign ++ those true ys sign)
    (those true (xs ++ ys))
those_both xs ys = λ i sign. by sign i
  where
    by : (sign : Bool) → those true xs sign ++ those true ys sign ≡ those true (xs ++ ys) sign
    by true = refl
    by false = refl

-- what is asked rises with the numbers

got_asked : (late : Bool) (xs : List ℕ) (i : ℕ) (a : ℕ × Bool)
    → slice_get (asked_all late xs) i ≡ Some a → slice_get xs i ≡ Some a.0
got_asked late [] i a at = absurd (cc (at))
got_asked late (x ∷ xs) zero a at = ap (λ (y : ℕ × Bool). Some y.0) (same_Some (x, late) a at)
got_asked late (x ∷ xs) (suc i) a at = got_asked late xs i a at

asked_rise : (late : Bool) (xs : List ℕ) → AllPairs (λ x y. x < y) xs
    → AskingsRise (asked_all late xs)
asked_rise late xs rise i j first second less at_first at_second =
    let one = got_asked late xs i first at_first in
    let two = got_asked late xs j second at_second in
    let before : get_or xs i 0 < get_or xs j 0 = rise i j 0 less
    (slice_get_within xs j second.0 two) in
    inl (omega (
      arith,
      before,
      get_or_from_slice_get xs i first.0 0 one,
      get_or_from_slice_get xs j second.0 0 two,
    ))

module _ (lines : List Line) where
  -- its literals are its leaves themselves
  pub union_signed : (set : ℕ) (leaves : List ℕ) → IsUnionOfStates lines set leaves
      → AreSigned F.States or_parts lines set (those true leaves)
  union_signed _ _ (empty_alone set at) = constant_signed F.States or_parts lines set C.Empty at refl
  union_signed _ _ (one_beside set union last leaves states of below at either) =
      let before = union_signed union leaves of in
      let here = plain_signed F.States or_parts lines last (E.States states) at refl (inr refl)
      (inl tt) in
      subst (AreSigned F.States or_parts lines set) (those_both leaves (last ∷ [])) (elim either [
        | inl is ↦
            both_signed F.States or_parts lines set union last (E.Or union last) is refl true
            (those true leaves) (only true last) before here
        | inr is ↦
            both_signed F.States or_parts lines set last union (E.Or last union) is refl false
            (only true last) (those true leaves) here before
      ])

  union_rises : (set : ℕ) (leaves : List ℕ) → IsUnionOfStates lines set leaves
      → AllPairs (λ x y. x < y) leaves
  union_rises _ _ (empty_alone set at) = λ i j d less within. absurd (omega (arith, less, within))
  union_rises _ _ (one_beside set union last leaves states of below at either) =
      all_pairs_push (λ x y. x < y) leaves last (union_rises union leaves of) below

  module _ (set : ℕ) (leaves : List ℕ) (is : IsUnionOfStates lines set leaves) where
    pub leaves_rise : (late : Bool) → AskingsRise (asked_all late leaves)
    leaves_rise late = asked_rise late leaves (union_rises set leaves is)

    pub leaves_below : IsTable lines → (n : ℕ) → n ≡ expr_count lines
        → All (λ leaf. leaf < n) leaves
    leaves_below table n size =
        all_from (λ leaf. leaf < n) leaves (λ leaf c.
        let w = (union_signed set leaves is).all true leaf c in
        omega (arith, expr_below lines leaf w.3.0 table w.3.1, size))
