-- What is after the answer of a pruner with notes: in each of its cases.
use Rattle.std.proofs.Common.{◌≡◌, ℕ, ◌∙◌, ◌++◌, Bool, true, false, List, [], ◌∷◌, Option, Some}
use Rattle.std.proofs.Common.{None, Result, Ok, Err, is_some, refl, sym, ap, subst, inl, inr}
use Rattle.std.specs.Option.{MatchOption}
use Rattle.std.specs.Result.{IfOk, OnErr}
use Rattle.hv_task.specs.Strips.{Strips, IsState}
use Rattle.hv_lines.specs.Drafts.{DraftState, IsGoodTable, onto}
use Rattle.hv_lines.specs.Meaning.{SetOfStates}
use Rattle.hv_lines.specs.Pruning.{Extends, IsDeadBy, IsFirstNoted, IsNoted, NoneNoted, states_in}
use Rattle.hv_lines.specs.Working.Pruning.{AreNotesOf, IsOutcome}
use Rattle.hv_lines.specs.declared.line.Line.{Line}
use Rattle.hv_lines.specs.declared.note.Note.{Note}
use Rattle.hv_lines.proofs.Elements.{last_cases}
use Rattle.hv_lines.proofs.Extended.{extends_by, extends_none, first_noted_once, noted_dead}
use Rattle.hv_lines.proofs.Extended.{noted_extended}

module _ (task : Strips) (covered : SetOfStates) (IsKind : List Line → ℕ → Type 0) where
  abbrev Fit : List Line → List Note → Type 0
  Fit lines notes = AreNotesOf task covered IsKind lines notes

  -- nothing is written
  module _ (IsBlock : List Line → Note → Type 0) (state : List Bool) (notes : List Note)
      (draft : DraftState) (is_state : IsState task state) (good : IsGoodTable task draft.lines)
      (fits : Fit draft.lines notes) where
    abbrev Still : Option ℕ → Type 0
    Still found = IsOutcome task covered IsKind IsBlock state found notes draft notes draft

    -- a note's literal holds the state
    pub outcome_noted : (line : ℕ) → IsFirstNoted task draft.lines notes state line
        → Still (Some line)
    outcome_noted line first = record {
      answer = record {
        noted = λ other also. (
          ap Some (first_noted_once task draft.lines notes state line other first also),
          refl,
          refl,
        );
        written = λ none _. absurd (none first.place first.note first.at first.holds);
        nothing = λ none _. absurd (none first.place first.note first.at first.holds);
      };
      some = (
        λ _. (fits first.place first.note first.at).0.within state is_state first.holds,
        λ _. refl,
      );
      dead = subst (IsDeadBy task draft.lines state) first.by
          (noted_dead task covered draft.lines first.note state
          (fits first.place first.note first.at).0 first.holds);
      extends = extends_none task draft.lines good;
      none = tt;
      fits = fits;
    }

    -- the state isn't covered, so no note's literal holds it
    pub outcome_beyond : (covered state → ⊥) → Still None
    outcome_beyond out = record {
      answer = record {
        noted = λ line first. absurd (out ((fits first.place first.note first.at).0.within state
            is_state first.holds));
        written = λ _ is. absurd (out is);
        nothing = λ _ _. (refl, refl, refl);
      };
      some = (λ is. absurd (cc (is)), λ is. absurd (out is));
      dead = tt;
      extends = extends_none task draft.lines good;
      none = refl;
      fits = fits;
    }

    -- what the search of the notes tells, where it found one
    pub outcome_told : (found : Option ℕ) → is_some found ≡ true
        → MatchOption found (NoneNoted task draft.lines notes state)
        (λ line. IsFirstNoted task draft.lines notes state line) → Still found
    outcome_told None is told = absurd (cc (is))
    outcome_told (Some line) is told = outcome_noted line told

  -- Notes of sets that stay of their kind when further lines are put.
  module _ (kept : (old new : List Line) → Extends task old new → (set : ℕ) → IsKind old set
      → IsKind new set) where
    pub notes_kept : (old new : List Line) (notes : List Note) → Fit old notes
        → Extends task old new → Fit new notes
    notes_kept old new notes fits extends k note at =
        let fit = fits k note at in (
          noted_extended task old new extends covered note fit.0,
          kept old new extends note.set fit.1,
        )

    -- a block is written and noted
    module _ (lines block : List Line) (note : Note) (good : IsGoodTable task (onto block lines))
        (noted : IsNoted task covered (onto block lines) note)
        (kind : IsKind (onto block lines) note.set) where
      abbrev Written : List Line
      Written = onto block lines

      written_fits : (notes : List Note) → Fit lines notes → Fit Written (notes ++ note ∷ [])
      written_fits notes fits j other at =
          elim (last_cases notes note other j at) [
            | inl before ↦
                notes_kept lines Written notes fits (extends_by task block lines good) j other
                before
            | inr here ↦
                subst (λ (n : Note). IsNoted task covered Written n × IsKind Written n.set) here
                (noted, kind)
          ]

      -- no note's literal holds the state, but this one's does
      pub outcome_block : (IsBlock : List Line → Note → Type 0) (state : List Bool)
          (notes : List Note) → IsState task state → Fit lines notes
          → NoneNoted task lines notes state → IsBlock block note
          → states_in task Written note.set state → (draft new : DraftState)
          (new_notes : List Note) → draft.lines ≡ lines → new.lines ≡ Written
          → new_notes ≡ notes ++ note ∷ []
          → IsOutcome task covered IsKind IsBlock state (Some note.line) notes draft new_notes new
      outcome_block IsBlock state notes is_state fits none is_block inside draft new new_notes at
          is also = record {
            answer = record {
              noted = λ line first.
                  absurd (subst (λ ls. NoneNoted task ls notes state) (sym at) none first.place
                  first.note first.at first.holds);
              written = λ _ _. (
                block,
                note,
                is_block,
                is ∙ ap (onto block) (sym at),
                also,
                refl,
              );
              nothing = λ _ out. absurd (out (noted.within state is_state inside));
            };
            some = (λ _. noted.within state is_state inside, λ _. refl);
            dead = subst (λ ls. IsDeadBy task ls state note.line) (sym is)
                (noted_dead task covered Written note state noted inside);
            extends = subst (λ ls. Extends task ls new.lines) (sym at)
                (subst (Extends task lines) (sym is) (extends_by task block lines good));
            none = tt;
            fits = subst (λ ls. Fit ls new_notes) (sym is)
                (subst (Fit Written) (sym also) (written_fits notes fits));
          }

  -- the notes fit the draft also after running out of memory
  pub fits_after : {X : Type 0} (IsBlock : List Line → Note → Type 0) (state : List Bool)
      (notes : List Note) (draft : DraftState) (new_notes : List Note) (new : DraftState)
      (result : Result (Option ℕ) X)
      → IfOk result (λ found. IsOutcome task covered IsKind IsBlock state found notes draft
      new_notes new)
      → OnErr result (new ≡ draft) → OnErr result (new_notes ≡ notes) → Fit draft.lines notes
      → Fit new.lines new_notes
  fits_after IsBlock state notes draft new_notes new (Ok found) outcome same_draft same_notes fits =
      outcome.fits
  fits_after IsBlock state notes draft new_notes new (Err error) outcome same_draft same_notes fits
      =
      subst (λ (d : DraftState). Fit d.lines new_notes) (sym same_draft)
      (subst (Fit draft.lines) (sym same_notes) fits)

-- what the search of the notes tells, where it found none
pub none_told : (task : Strips) (lines : List Line) (notes : List Note) (state : List Bool)
    (found : Option ℕ) → is_some found ≡ false
    → MatchOption found (NoneNoted task lines notes state)
    (λ line. IsFirstNoted task lines notes state line) → NoneNoted task lines notes state
none_told task lines notes state None is told = told
none_told task lines notes state (Some line) is told = absurd (cc (is))

-- lines that are put after a draft, by what they and the draft are

pub put_good : (task : Strips) (block lines items now : List Line) → items ≡ block → now ≡ lines
    → IsGoodTable task (onto block lines) → IsGoodTable task (onto items now)
put_good task block lines items now same at good =
    subst (λ ls. IsGoodTable task (onto items ls)) (sym at)
    (subst (λ more. IsGoodTable task (onto more lines)) (sym same) good)

pub put_is : (block lines items now new : List Line) → items ≡ block → now ≡ lines
    → new ≡ onto items now → new ≡ onto block lines
put_is block lines items now new same at is =
    is ∙ (ap (λ more. onto more now) same ∙ ap (onto block) at)
