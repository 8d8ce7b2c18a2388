-- How a proof is judged, by its version.
use Rattle.std.proofs.Common.{◌≡◌, ◌≢◌, ◌↔◌, ◌+◌, ◌==◌, ◌∙◌, ℕ, Bool, List, [], ◌∷◌, ◌++◌}
use Rattle.std.proofs.Common.{None, Some, append-nil, append_assoc, arith, cond, false, inl, inr}
use Rattle.std.proofs.Common.{length, refl, reverse, sym, ap, subst, true}
use Rattle.std.proofs.lemmas.List.{reverse-append}
use Rattle.std.proofs.lemmas.List.Elements.{All-cons, All-head, All-tail}
use Rattle.std.proofs.lemmas.Bool.Decides.{Decides-eqb}
use Rattle.std.proofs.lemmas.Slice.Eq.{bytes_eq-Decides}
use Rattle.std.specs.List.{All}
use Rattle.std.specs.Str.{bytes_eq}
use Rattle.hv_lines.specs.Spelling.{IsSkipped}
use Rattle.hv_lines.specs.Judged.{Accepts, IsPassedOver, IsReason, IsRefused, Judged, JudgedInOrder}
use Rattle.hv_lines.specs.Judged.{IsShownBy, Judgement, LineText, Passes}
use Rattle.hv_lines.specs.Judged as J
use Rattle.hv_lines.specs.Order.{without_state}
use Rattle.hv_lines.specs.Setting.{Setting}
use Rattle.hv_lines.specs.Versions.{first_mark, is_mark, judged_as, judged_from, judged_whole}
use Rattle.hv_lines.specs.Versions.{last_mark, line_behind, missing_end, part_from, part_of}
use Rattle.hv_lines.specs.declared.line.Line.{Line}
use Rattle.hv_lines.specs.declared.part.Part.TheVariants as P
use Rattle.hv_lines.specs.declared.reason.Clash.{Clash}
use Rattle.hv_lines.specs.declared.reason.Reason.{Reason}
use Rattle.hv_lines.specs.declared.reason.Reason.TheVariants as R
use Rattle.hv_lines.proofs.Reasons.{reason_once}
use Rattle.hv_lines.proofs.Versions.{judged_append, last_stays, none_last, open_whole, part_append}
use Rattle.hv_lines.proofs.Versions.{skipped_as_is}
use Rattle.hv_proof_text.proofs.LineFields.{skipped_apart}
use Rattle.hv_proof_text.proofs.ReadBack.{All-reversed}
use Rattle.hv_checker.specs.Versions.{JudgedUpTo, NoneEnds, proof_version, reason_behind}
use Rattle.hv_checker.proofs.OneJudgement.{Cuts, begins_with, cut_cases, never, not_accepted}
use Rattle.hv_checker.proofs.OneJudgement.{shown_once}
use Rattle.hv_checker.proofs.PieceReasons.{grammar_reason, long_reason}

-- the marks in a list of pieces

-- a piece that isn't the line `end` is no mark before the end
other_plain : (piece : LineText) → piece ≢ Some last_mark → is_mark P.BeforeEnd piece ≡ false
other_plain None other = refl
other_plain (Some bytes) other = by_test (bytes_eq bytes last_mark) refl
  where
    by_test : (same : Bool) → bytes_eq bytes last_mark ≡ same → same ≡ false
    by_test true is = absurd
        (other (ap (λ bs. Some bs) ((bytes_eq-Decides bytes last_mark).0 is)))
    by_test false is = refl

body_part : (body : List LineText) → NoneEnds body → part_from P.BeforeEnd body ≡ P.BeforeEnd
body_part [] none = refl
body_part (piece ∷ body) none =
    ap (λ b. part_from (cond b P.PastEnd P.BeforeEnd) body)
    (other_plain piece (All-head (λ p. p ≢ Some last_mark) piece body none))
    ∙ body_part body (All-tail (λ p. p ≢ Some last_mark) piece body none)

body_judged : (body : List LineText) → NoneEnds body → judged_from P.BeforeEnd body ≡ body
body_judged [] none = refl
body_judged (piece ∷ body) none =
    let plain = other_plain piece (All-head (λ p. p ≢ Some last_mark) piece body none) in
    ap (λ b. cond b (Some []) piece ∷ judged_from (cond b P.PastEnd P.BeforeEnd) body) plain
    ∙ ap (λ ps. piece ∷ ps) (body_judged body (All-tail (λ p. p ≢ Some last_mark) piece body none))

past_part : (pieces : List LineText) → part_from P.PastEnd pieces ≡ P.PastEnd
past_part [] = refl
past_part (piece ∷ rest) = past_part rest

quiet_judged : (quiet : List LineText) → All IsPassedOver quiet
    → judged_from P.PastEnd quiet ≡ quiet
quiet_judged [] all = refl
quiet_judged (piece ∷ quiet) all =
    ap (λ p. p ∷ judged_from P.PastEnd quiet)
    (skipped_as_is P.PastEnd piece refl (All-head IsPassedOver piece quiet all))
    ∙ ap (λ ps. piece ∷ ps) (quiet_judged quiet (All-tail IsPassedOver piece quiet all))

-- a closed proof up to its line `end`, and what is behind that
closed_judged : (body behind : List LineText) → NoneEnds body
    → judged_whole (Some first_mark ∷ body ++ Some last_mark ∷ behind)
    ≡ Some [] ∷ body ++ Some [] ∷ judged_from P.PastEnd behind
closed_judged body behind none =
    ap (λ ps. Some [] ∷ ps)
    (ap (λ part. judged_from P.BeforeEnd (body ++ Some last_mark ∷ behind) ++ missing_end part)
    part_is
    ∙ (append-nil (judged_from P.BeforeEnd (body ++ Some last_mark ∷ behind)) ∙ body_is))
  where
    part_is : part_from P.BeforeEnd (body ++ Some last_mark ∷ behind) ≡ P.PastEnd
    part_is =
        part_append P.BeforeEnd body (Some last_mark ∷ behind)
        ∙ (ap (λ part. part_from part (Some last_mark ∷ behind)) (body_part body none)
        ∙ past_part behind)

    body_is : judged_from P.BeforeEnd (body ++ Some last_mark ∷ behind)
        ≡ body ++ Some [] ∷ judged_from P.PastEnd behind
    body_is =
        judged_append P.BeforeEnd body (Some last_mark ∷ behind)
        ∙ (ap (λ ps. ps ++ judged_from (part_from P.BeforeEnd body) (Some last_mark ∷ behind))
        (body_judged body none)
        ∙ ap (λ part. body ++ judged_from part (Some last_mark ∷ behind)) (body_part body none))

-- one whose line `end` is missing
unended_judged : (body : List LineText) → NoneEnds body
    → judged_whole (Some first_mark ∷ body) ≡ (Some [] ∷ body) ++ Some last_mark ∷ []
unended_judged body none =
    ap (λ ps. Some [] ∷ ps)
    (ap (λ part. judged_from P.BeforeEnd body ++ missing_end part) (body_part body none)
    ∙ ap (λ ps. ps ++ Some last_mark ∷ []) (body_judged body none))

-- the version

-- it stays

open_part : (pieces : List LineText) → part_from P.Open pieces ≡ P.Open
open_part [] = refl
open_part (piece ∷ rest) = open_part rest

version_next : (marked : Bool) (rest : List LineText)
    → proof_version (part_from P.BeforeEnd rest) ≡ 2
    → proof_version (part_from (cond marked P.PastEnd P.BeforeEnd) rest) ≡ 2
version_next true rest next = ap proof_version (past_part rest)
version_next false rest next = next

version_two : (pieces : List LineText) → proof_version (part_from P.BeforeEnd pieces) ≡ 2
version_two [] = refl
version_two (piece ∷ rest) = version_next (is_mark P.BeforeEnd piece) rest (version_two rest)

version_by : (marked : Bool) (rest : List LineText)
    → proof_version (part_from (cond marked P.BeforeEnd P.Open) rest) ≡ cond marked 2 1
version_by true rest = version_two rest
version_by false rest = ap proof_version (open_part rest)

-- the first piece is the mark
first_is : (piece : LineText) → is_mark P.AtStart piece ≡ true → piece ≡ Some first_mark
first_is None marked = absurd (cc)
first_is (Some bytes) marked = ap (λ bs. Some bs) ((bytes_eq-Decides bytes first_mark).0 marked)

pub version_law : (pieces : List LineText) → (proof_version (part_of pieces) ≡ 2)
    ↔ ((rest : List LineText) × (pieces ≡ Some first_mark ∷ rest))
version_law pieces = (
  begins pieces,
  λ w. subst (λ ps. proof_version (part_of ps) ≡ 2) (sym w.1)
      (version_two w.0),
)
  where
    begins : (ps : List LineText) → proof_version (part_of ps) ≡ 2
        → (rest : List LineText) × (ps ≡ Some first_mark ∷ rest)
    begins [] two = absurd (omega (arith, two))
    begins (piece ∷ rest) two = by_mark (is_mark P.AtStart piece) refl
      where
        by_mark : (marked : Bool) → is_mark P.AtStart piece ≡ marked
            → (others : List LineText) × (piece ∷ rest ≡ Some first_mark ∷ others)
        by_mark true is = (rest, ap (λ p. p ∷ rest) (first_is piece is))
        by_mark false is =
            let one : proof_version (part_of (piece ∷ rest)) ≡ 1 =
            version_by (is_mark P.AtStart piece) rest ∙ ap (λ b. cond b 2 1) is in
            absurd (omega (arith, one, two))

-- a proof of version 1 is judged as it is
first_whole : (pieces : List LineText) → proof_version (part_of pieces) ≡ 1
    → judged_whole pieces ≡ pieces
first_whole [] one = refl
first_whole (piece ∷ rest) one = by_mark (is_mark P.AtStart piece) refl
  where
    by_mark : (marked : Bool) → is_mark P.AtStart piece ≡ marked
        → judged_whole (piece ∷ rest) ≡ piece ∷ rest
    by_mark true is =
        let two : proof_version (part_of (piece ∷ rest)) ≡ 2 =
        version_by (is_mark P.AtStart piece) rest ∙ ap (λ b. cond b 2 1) is in
        absurd (omega (arith, one, two))
    by_mark false is = open_whole piece rest is

-- a list is judged as another one is that is the same
same_judged : (setting : Setting) (ps qs : List LineText) (judgement : Judgement) → ps ≡ qs
    → JudgedInOrder setting ps judgement ↔ JudgedInOrder setting qs judgement
same_judged setting ps qs judgement same = (
  subst (λ xs. JudgedInOrder setting xs judgement) same,
  subst (λ xs. JudgedInOrder setting xs judgement) (sym same),
)

pub first_law : (setting : Setting) (pieces : List LineText) (judgement : Judgement)
    → proof_version (part_of pieces) ≡ 1
    → Judged setting pieces judgement ↔ JudgedInOrder setting pieces judgement
first_law setting pieces judgement one =
    same_judged setting (judged_whole pieces) pieces judgement (first_whole pieces one)

-- a reason that names no counterexample is one alone

pub no_clash : (r last : Reason) → ((clash : Clash) → last ≡ R.False clash → ⊥)
    → without_state r ≡ last → r ≡ last
no_clash R.Long last other same = same
no_clash R.Grammar last other same = same
no_clash R.Number last other same = same
no_clash R.Unknown last other same = same
no_clash R.Family last other same = same
no_clash R.Rule last other same = same
no_clash R.Shape last other same = same
no_clash R.NotOffered last other same = same
no_clash R.Budget last other same = same
no_clash (R.False clash) last other same = absurd (other _ (sym same))

pub as_it_is : (last : Reason) → ((clash : Clash) → last ≡ R.False clash → ⊥)
    → without_state last ≡ last
as_it_is R.Long other = refl
as_it_is R.Grammar other = refl
as_it_is R.Number other = refl
as_it_is R.Unknown other = refl
as_it_is R.Family other = refl
as_it_is R.Rule other = refl
as_it_is R.Shape other = refl
as_it_is R.NotOffered other = refl
as_it_is R.Budget other = refl
as_it_is (R.False clash) other = absurd (other clash refl)

-- a line behind the end that isn't skipped is judged as `end`
loud_by : (comment : Bool) (byte : ℕ) (bytes : List ℕ) → (byte == 35) ≡ comment
    → (IsSkipped (byte ∷ bytes) → ⊥) → cond comment (byte ∷ bytes) last_mark ≡ last_mark
loud_by true byte bytes is loud = absurd (loud (inr ((Decides-eqb byte 35).0 is)))
loud_by false byte bytes is loud = refl

loud_behind : (bytes : List ℕ) → (IsSkipped bytes → ⊥) → line_behind bytes ≡ last_mark
loud_behind [] loud = absurd (loud (inl refl))
loud_behind (byte ∷ bytes) loud = loud_by (byte == 35) byte bytes refl loud

-- the first item, or this one; the others
head_of : {X : Type 0} → X → List X → X
head_of other [] = other
head_of other (x ∷ xs) = x

others_of : {X : Type 0} → List X → List X
others_of [] = []
others_of (x ∷ xs) = xs

-- what holds of each item of a list holds of one in it
All-middle : {X : Type 0} (P : X → Type 0) (front : List X) (x : X) (rest : List X)
    → All P (front ++ x ∷ rest) → P x
All-middle P [] x rest all = All-head P x rest all
All-middle P (y ∷ front) x rest all =
    All-middle P front x rest (All-tail P y (front ++ x ∷ rest) all)

module _ (setting : Setting) where
  -- what is passed over isn't refused
  quiet_good : (older : List LineText) (piece : LineText) (lines : List Line) (r : Reason)
      → Accepts setting older lines → IsReason setting lines piece r → IsPassedOver piece → ⊥
  quiet_good older None lines r accepts why quiet = quiet
  quiet_good older (Some bytes) lines r accepts why quiet =
      not_accepted setting older (Some bytes) lines lines r accepts why (inl (quiet, accepts))

  -- pieces that are passed over change nothing behind others

  with_quiet : (quiet older : List LineText) (lines : List Line) → All IsPassedOver quiet
      → Accepts setting older lines → Accepts setting (quiet ++ older) lines
  with_quiet [] older lines all accepts = accepts
  with_quiet (None ∷ quiet) older lines all accepts =
      absurd (All-head IsPassedOver None quiet all)
  with_quiet (Some bytes ∷ quiet) older lines all accepts = inl (
    All-head IsPassedOver (Some bytes) quiet all,
    with_quiet quiet older lines (All-tail IsPassedOver (Some bytes) quiet all) accepts,
  )

  without_quiet : (quiet older : List LineText) (lines : List Line) → All IsPassedOver quiet
      → Accepts setting (quiet ++ older) lines → Accepts setting older lines
  without_quiet [] older lines all accepts = accepts
  without_quiet (None ∷ quiet) older lines all accepts = absurd accepts
  without_quiet (Some bytes ∷ quiet) older lines all (inl x) =
      without_quiet quiet older lines (All-tail IsPassedOver (Some bytes) quiet all) x.1
  without_quiet (Some bytes ∷ quiet) older lines all
      (inr (line, before, added, spells, good, accepts)) =
      absurd (skipped_apart line bytes spells (All-head IsPassedOver (Some bytes) quiet all))

  module _ (pieces quiet : List LineText) (all : All IsPassedOver (reverse quiet)) where
    turned_quiet : reverse (pieces ++ quiet) ≡ reverse quiet ++ reverse pieces
    turned_quiet = reverse-append pieces quiet

    more_accepted : (lines : List Line) → Accepts setting (reverse pieces) lines
        → Accepts setting (reverse (pieces ++ quiet)) lines
    more_accepted lines accepts =
        subst (λ ps. Accepts setting ps lines) (sym turned_quiet)
        (with_quiet (reverse quiet) (reverse pieces) lines all accepts)

    less_accepted : (lines : List Line) → Accepts setting (reverse (pieces ++ quiet)) lines
        → Accepts setting (reverse pieces) lines
    less_accepted lines accepts =
        without_quiet (reverse quiet) (reverse pieces) lines all
        (subst (λ ps. Accepts setting ps lines) turned_quiet accepts)

  -- where a piece was refused, it is so of all longer lists too
  refused_longer : (pieces more : List LineText) (place : ℕ) (reason : Reason)
      → IsRefused setting pieces place reason → IsRefused setting (pieces ++ more) place reason
  refused_longer pieces more place reason x = record {
    front = x.front;
    bad = x.bad;
    rest = x.rest ++ more;
    cut = ap (λ ps. ps ++ more) x.cut ∙ append_assoc x.front (x.bad ∷ x.rest) more;
    counted = x.counted;
    lines = x.lines;
    accepted = x.accepted;
    reason_is = x.reason_is;
  }

  -- an item that isn't one of those at the end is before them
  cut_before : (pieces quiet front rest : List LineText) (bad : LineText) → All IsPassedOver quiet
      → (IsPassedOver bad → ⊥) → pieces ++ quiet ≡ front ++ bad ∷ rest
      → (more : List LineText) × (pieces ≡ front ++ bad ∷ more)
  unfolding head_of others_of
  cut_before [] quiet front rest bad all loud cut =
      absurd (loud (All-middle IsPassedOver front bad rest (subst (All IsPassedOver) cut all)))
  cut_before (piece ∷ pieces) quiet [] rest bad all loud cut =
      (pieces, ap (λ p. p ∷ pieces) (ap (λ xs. head_of piece xs) cut))
  cut_before (piece ∷ pieces) quiet (other ∷ front) rest bad all loud cut =
      let w = cut_before pieces quiet front rest bad all loud (ap others_of cut) in (
        w.0,
        ap (λ p. p ∷ pieces) (ap (λ xs. head_of piece xs) cut) ∙ ap (λ ps. other ∷ ps) w.1,
      )

  module _ (pieces quiet : List LineText) (all : All IsPassedOver quiet)
      (turned : All IsPassedOver (reverse quiet)) where
    quiet_out : (judgement : Judgement) → JudgedInOrder setting (pieces ++ quiet) judgement
        → JudgedInOrder setting pieces judgement
    quiet_out J.Unsolvable x = record {
      lines = x.lines;
      accepted = less_accepted pieces quiet turned x.lines x.accepted;
      concludes = x.concludes;
    }
    quiet_out (J.Refused place reason) x =
        let w = cut_before pieces quiet x.front x.rest x.bad all
        (quiet_good (reverse x.front) x.bad x.lines reason x.accepted x.reason_is) x.cut in
        record {
          front = x.front;
          bad = x.bad;
          rest = w.0;
          cut = w.1;
          counted = x.counted;
          lines = x.lines;
          accepted = x.accepted;
          reason_is = x.reason_is;
        }
    quiet_out J.NoConclusion x = record {
      lines = x.lines;
      accepted = less_accepted pieces quiet turned x.lines x.accepted;
      silent = x.silent;
    }

    quiet_in : (judgement : Judgement) → JudgedInOrder setting pieces judgement
        → JudgedInOrder setting (pieces ++ quiet) judgement
    quiet_in J.Unsolvable x = record {
      lines = x.lines;
      accepted = more_accepted pieces quiet turned x.lines x.accepted;
      concludes = x.concludes;
    }
    quiet_in (J.Refused place reason) x = refused_longer pieces quiet place reason x
    quiet_in J.NoConclusion x = record {
      lines = x.lines;
      accepted = more_accepted pieces quiet turned x.lines x.accepted;
      silent = x.silent;
    }

  -- a piece that is refused in any case, behind others

  module _ (pieces rest : List LineText) (bad : LineText) (last : Reason)
      (why : (lines : List Line) → IsReason setting lines bad last)
      (plain : (clash : Clash) → last ≡ R.False clash → ⊥) where
    none_accepted : (lines : List Line) → Accepts setting (reverse (pieces ++ bad ∷ rest)) lines → ⊥
    none_accepted lines takes =
        let w = begins_with setting (reverse (bad ∷ rest)) (reverse pieces) lines
        (subst (λ ps. Accepts setting ps lines) (reverse-append pieces (bad ∷ rest)) takes) in
        never setting pieces rest bad w.0 lines last w.1 (why w.0) takes

    last_only : (lines : List Line) (r : Reason) → IsReason setting lines bad r → r ≡ last
    last_only lines r other =
        no_clash r last plain
        (reason_once (Passes setting lines bad) (IsShownBy setting lines bad)
        (shown_once setting lines bad) r last other (why lines)
        ∙ as_it_is last plain)

    refused_out : (place : ℕ) (reason : Reason)
        → IsRefused setting (pieces ++ bad ∷ rest) place reason
        → JudgedUpTo setting pieces last (J.Refused place reason)
    unfolding Cuts
    refused_out place reason x =
        elim (cut_cases x.front pieces x.bad bad x.rest rest (sym x.cut)) [
          | inl same ↦ inr (
            (x.lines, subst (λ ps. Accepts setting (reverse ps) x.lines) same.0 x.accepted),
            x.counted ∙ ap (λ ps. length ps + 1) same.0,
            last_only x.lines reason
                (subst (λ b. IsReason setting x.lines b reason) same.1 x.reason_is),
          )
          | inr (inl w) ↦ absurd (none_before x.front w.0 x.lines w.1 x.accepted)
          | inr (inr w) ↦ inl (record {
            front = x.front;
            bad = x.bad;
            rest = w.0;
            cut = w.1;
            counted = x.counted;
            lines = x.lines;
            accepted = x.accepted;
            reason_is = x.reason_is;
          })
        ]
      where
        none_before : (front more : List LineText) (lines : List Line)
            → front ≡ pieces ++ bad ∷ more → Accepts setting (reverse front) lines → ⊥
        none_before front more lines is takes =
            let accepted = subst (λ ps. Accepts setting (reverse ps) lines) is takes in
            let w = begins_with setting (reverse (bad ∷ more)) (reverse pieces) lines
            (subst (λ ps. Accepts setting ps lines) (reverse-append pieces (bad ∷ more)) accepted)
            in
            never setting pieces more bad w.0 lines last w.1 (why w.0) accepted

    refused_in : (place : ℕ) (reason : Reason)
        → JudgedUpTo setting pieces last (J.Refused place reason)
        → IsRefused setting (pieces ++ bad ∷ rest) place reason
    refused_in place reason (inl x) = refused_longer pieces (bad ∷ rest) place reason x
    refused_in place reason (inr (accepted, counted, is)) = record {
      front = pieces;
      bad = bad;
      rest = rest;
      cut = refl;
      counted = counted;
      lines = accepted.0;
      accepted = accepted.1;
      reason_is = subst (λ r. IsReason setting accepted.0 bad r) (sym is) (why accepted.0);
    }

    up_to : (judgement : Judgement) → JudgedInOrder setting (pieces ++ bad ∷ rest) judgement
        ↔ JudgedUpTo setting pieces last judgement
    up_to J.Unsolvable = ((λ x. none_accepted x.lines x.accepted), λ x. absurd x)
    up_to (J.Refused place reason) = (refused_out place reason, refused_in place reason)
    up_to J.NoConclusion = ((λ x. none_accepted x.lines x.accepted), λ x. absurd x)

  -- why a piece behind the end is refused
  pub behind_why : (bad : LineText) → (IsPassedOver bad → ⊥) → (lines : List Line)
      → IsReason setting lines (judged_as P.PastEnd bad) (reason_behind bad)
  behind_why None loud lines = long_reason setting lines
  behind_why (Some bytes) loud lines =
      subst (λ bs. IsReason setting lines (Some bs) R.Grammar) (sym (loud_behind bytes loud))
      (grammar_reason setting lines last_mark last_stays none_last)

pub behind_plain : (bad : LineText) (clash : Clash) → reason_behind bad ≡ R.False clash → ⊥
behind_plain None clash is = absurd (cc)
behind_plain (Some bytes) clash is = absurd (cc)

module _ (setting : Setting) (body quiet : List LineText) (none : NoneEnds body)
    (all : All IsPassedOver quiet) where
  quiet_marked : All IsPassedOver (Some [] ∷ quiet)
  quiet_marked = All-cons IsPassedOver (Some []) quiet (inl refl) all

  pub second_law : (judgement : Judgement)
      → Judged setting (Some first_mark ∷ body ++ Some last_mark ∷ quiet) judgement
      ↔ JudgedInOrder setting (Some [] ∷ body) judgement
  second_law judgement =
      let same : judged_whole (Some first_mark ∷ body ++ Some last_mark ∷ quiet)
      ≡ (Some [] ∷ body) ++ Some [] ∷ quiet =
      closed_judged body quiet none
      ∙ ap (λ ps. Some [] ∷ body ++ Some [] ∷ ps) (quiet_judged quiet all) in
      let turned = All-reversed IsPassedOver (Some [] ∷ quiet) quiet_marked in (
        λ x. quiet_out setting (Some [] ∷ body) (Some [] ∷ quiet) quiet_marked turned judgement
            (subst (λ ps. JudgedInOrder setting ps judgement) same x),
        λ x. subst (λ ps. JudgedInOrder setting ps judgement) (sym same)
            (quiet_in setting (Some [] ∷ body) (Some [] ∷ quiet) quiet_marked turned judgement x),
      )

  pub behind_law : (rest : List LineText) (bad : LineText) (judgement : Judgement)
      → (IsPassedOver bad → ⊥)
      → Judged setting (Some first_mark ∷ body ++ Some last_mark ∷ quiet ++ bad ∷ rest) judgement
      ↔ JudgedUpTo setting (Some [] ∷ body ++ Some [] ∷ quiet) (reason_behind bad) judgement
  behind_law rest bad judgement loud =
      let front = Some [] ∷ body ++ Some [] ∷ quiet in
      let more = judged_from P.PastEnd rest in
      let same : judged_whole (Some first_mark ∷ body ++ Some last_mark ∷ quiet ++ bad ∷ rest)
      ≡ front ++ judged_as P.PastEnd bad ∷ more =
      ap judged_whole
      (append_assoc (Some first_mark ∷ body) (Some last_mark ∷ quiet) (bad ∷ rest))
      ∙ closed_judged body (quiet ++ bad ∷ rest) none
      ∙ (ap (λ ps. Some [] ∷ body ++ Some [] ∷ ps) behind_is
      ∙ sym (append_assoc (Some [] ∷ body) (Some [] ∷ quiet) (judged_as P.PastEnd bad ∷ more))) in
      let law = up_to setting front more (judged_as P.PastEnd bad) (reason_behind bad)
      (behind_why setting bad loud) (behind_plain bad) judgement in (
        λ x. law.0 (subst (λ ps. JudgedInOrder setting ps judgement) same x),
        λ x. subst (λ ps. JudgedInOrder setting ps judgement) (sym same) (law.1 x),
      )
    where
      behind_is : judged_from P.PastEnd (quiet ++ bad ∷ rest)
          ≡ quiet ++ judged_as P.PastEnd bad ∷ judged_from P.PastEnd rest
      behind_is =
          judged_append P.PastEnd quiet (bad ∷ rest)
          ∙ (ap (λ ps. ps ++ judged_from (part_from P.PastEnd quiet) (bad ∷ rest))
          (quiet_judged quiet all)
          ∙ ap (λ part. quiet ++ judged_from part (bad ∷ rest)) (past_part quiet))

pub unended_law : (setting : Setting) (body : List LineText) (judgement : Judgement)
    → NoneEnds body
    → Judged setting (Some first_mark ∷ body) judgement
    ↔ JudgedUpTo setting (Some [] ∷ body) R.Grammar judgement
unended_law setting body judgement none =
    let same = unended_judged body none in
    let law = up_to setting (Some [] ∷ body) [] (Some last_mark) R.Grammar
    (λ lines. grammar_reason setting lines last_mark last_stays none_last)
    (behind_plain (Some last_mark)) judgement in (
      λ x. law.0 (subst (λ ps. JudgedInOrder setting ps judgement) same x),
      λ x. subst (λ ps. JudgedInOrder setting ps judgement) (sym same) (law.1 x),
    )
