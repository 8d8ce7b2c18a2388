-- The places of a table's lines: what is read there, and what one more line does.
use Rattle.std.proofs.Common.{◌≡◌, ℕ, zero, suc, ◌<◌, ◌+◌, ◌∙◌, ◌⊎◌, List, [], ◌∷◌, ◌++◌, Some}
use Rattle.std.proofs.Common.{length, reverse, get_or, refl, sym, ap, subst, inl, inr, arith}
use Rattle.std.proofs.Common.{length-append}
use Rattle.std.proofs.lemmas.List.{get_or_append_left, get_or_read, reverse-append}
use Rattle.std.proofs.lemmas.Option.{slice_get_within, get_or_from_slice_get}
use Rattle.std.proofs.Math.Seq.{get_or-append_seam}
use Rattle.std.specs.List.{slice_get}
use Rattle.hv_lines.specs.declared.line.Acts.{Acts}
use Rattle.hv_lines.specs.declared.line.Expr.{Expr}
use Rattle.hv_lines.specs.declared.line.Line.{Line}
use Rattle.hv_lines.specs.declared.line.Line.TheVariants as L
use Rattle.hv_lines.specs.declared.line.Statement.{Statement}
use Rattle.hv_lines.specs.declared.line.Word.{Word}
use Rattle.hv_lines.specs.Numbering.{acts_count, expr_count, known_count, MayFollow, IsTable}
use Rattle.hv_lines.specs.Working.TableState.{IsActsLine, IsExprLine, IsKnownLine, LeadsToLines}
use Rattle.hv_lines.specs.Working.TableState.{IsIndexed}
use Rattle.hv_lines.proofs.Laws.{acts_at_more, expr_at_more, statement_at_more, word_at_more}
use Rattle.hv_lines.proofs.Laws.{premises_at_more, acts_at_here, expr_at_here, statement_at_here}
use Rattle.hv_lines.proofs.Laws.{word_at_here, premises_at_here}

-- what is at a place of a list is there in a longer list
slice_get-append : {X : Type 0} (xs ys : List X) (k : ℕ) (x : X) → slice_get xs k ≡ Some x
    → slice_get (xs ++ ys) k ≡ Some x
slice_get-append [] ys k x h = absurd (cc)
slice_get-append (y ∷ xs) ys zero x h = h
slice_get-append (y ∷ xs) ys (suc k) x h = slice_get-append xs ys k x h

slice_get-push : {X : Type 0} (xs : List X) (x : X) → slice_get (xs ++ x ∷ []) (length xs) ≡ Some x
slice_get-push [] x = refl
slice_get-push (y ∷ xs) x = slice_get-push xs x

before_or_last : (id n : ℕ) → id < n + 1 → (id < n) ⊎ (id ≡ n)
before_or_last id n below = grind arith

-- the places of one letter, after a line of another letter or of this one

found_kept : (pushed : List Line) (places : List ℕ) (line : Line)
    (IsLine IsLater : ℕ → Line → Type 0)
    → ((id : ℕ) (l : Line) → id < length places → IsLine id l → IsLater id l)
    → LeadsToLines pushed places IsLine
    → LeadsToLines (pushed ++ line ∷ []) places IsLater
found_kept pushed places line IsLine IsLater later found id below =
    let at = found id below in (
      at.0,
      slice_get-append pushed (line ∷ []) (get_or places id 0) at.0 at.1,
      later id at.0 below
          at.2,
    )

found_push : (pushed : List Line) (places : List ℕ) (line : Line)
    (IsLine IsLater : ℕ → Line → Type 0)
    → ((id : ℕ) (l : Line) → id < length places → IsLine id l → IsLater id l)
    → IsLater (length places) line
    → LeadsToLines pushed places IsLine → LeadsToLines (pushed ++ line ∷ [])
    (places ++ length pushed ∷ []) IsLater
found_push pushed places line IsLine IsLater later here found id below =
    elim (before_or_last id (length places)
    (omega (arith, length-append places (length pushed ∷ [])))) [
      | inl earlier ↦
          let at = found_kept pushed places line IsLine IsLater later found id earlier in (
            at.0,
            subst (λ p. slice_get (pushed ++ line ∷ []) p ≡ Some at.0)
                (sym (get_or_append_left places (length pushed ∷ []) 0 id earlier)) at.1,
            at.2,
          )
      | inr last ↦
          let place : get_or (places ++ length pushed ∷ []) id 0 ≡ length pushed =
          ap (λ n. get_or (places ++ length pushed ∷ []) n 0) last
          ∙ get_or-append_seam places (length pushed) [] 0 in (
            line,
            subst (λ p. slice_get (pushed ++ line ∷ []) p ≡ Some line) (sym place)
                (slice_get-push pushed line),
            subst (λ n. IsLater n line) (sym last) here,
          )
    ]

-- the line of an earlier identifier stays its line

later_acts : (line : Line) (lines : List Line) (n : ℕ) → MayFollow lines line → n ≡ acts_count lines
    → (id : ℕ) (l : Line) → id < n
    → IsActsLine lines id l → IsActsLine (line ∷ lines) id l
later_acts line lines n next same id l below is =
    (is.0, is.1, acts_at_more line lines id next (omega arith) ∙ is.2)

later_expr : (line : Line) (lines : List Line) (n : ℕ) → MayFollow lines line → n ≡ expr_count lines
    → (id : ℕ) (l : Line) → id < n
    → IsExprLine lines id l → IsExprLine (line ∷ lines) id l
later_expr line lines n next same id l below is =
    (is.0, is.1, expr_at_more line lines id next (omega arith) ∙ is.2)

later_known : (line : Line) (lines : List Line) (n : ℕ) → MayFollow lines line
    → n ≡ known_count lines → (id : ℕ) (l : Line) → id < n
    → IsKnownLine lines id l → IsKnownLine (line ∷ lines) id l
later_known line lines n next same id l below is =
    let earlier : id < known_count lines = omega arith in (
      is.0,
      is.1,
      is.2,
      is.3,
      statement_at_more line lines id next earlier ∙ is.4,
      word_at_more line lines id next earlier ∙ is.5,
      premises_at_more line lines id next earlier ∙ is.6,
    )

-- one more line of each letter
module _ (pushed lines : List Line) (acts exprs knowns : List ℕ)
    (i : IsIndexed pushed lines acts exprs knowns) where
  pub indexed_acts : (id : ℕ) (x : Acts) → MayFollow lines (L.Acts id x)
      → IsIndexed (pushed ++ L.Acts id x ∷ []) (L.Acts id x ∷ lines) (acts ++ length pushed ∷ [])
      exprs knowns
  indexed_acts id x next =
      let line = L.Acts id x in
      let same : length acts ≡ id = i.acts_length ∙ sym next.numbered in
      record {
        table = (next, i.table);
        acts_length = omega (arith, length-append acts (length pushed ∷ []), i.acts_length);
        exprs_length = i.exprs_length;
        knowns_length = i.knowns_length;
        acts_found =
            found_push pushed acts line (IsActsLine lines) (IsActsLine (line ∷ lines))
            (later_acts line lines (length acts) next i.acts_length)
            (subst (λ n. IsActsLine (line ∷ lines) n line) (sym same)
            (x, refl, acts_at_here id x lines)) i.acts_found;
        exprs_found =
            found_kept pushed exprs line (IsExprLine lines) (IsExprLine (line ∷ lines))
            (later_expr line lines (length exprs) next i.exprs_length) i.exprs_found;
        knowns_found =
            found_kept pushed knowns line (IsKnownLine lines) (IsKnownLine (line ∷ lines))
            (later_known line lines (length knowns) next i.knowns_length) i.knowns_found;
      }

  pub indexed_expr : (id : ℕ) (x : Expr) → MayFollow lines (L.Expr id x)
      → IsIndexed (pushed ++ L.Expr id x ∷ []) (L.Expr id x ∷ lines) acts
      (exprs ++ length pushed ∷ []) knowns
  indexed_expr id x next =
      let line = L.Expr id x in
      let same : length exprs ≡ id = i.exprs_length ∙ sym next.numbered in
      record {
        table = (next, i.table);
        acts_length = i.acts_length;
        exprs_length = omega (arith, length-append exprs (length pushed ∷ []), i.exprs_length);
        knowns_length = i.knowns_length;
        acts_found =
            found_kept pushed acts line (IsActsLine lines) (IsActsLine (line ∷ lines))
            (later_acts line lines (length acts) next i.acts_length) i.acts_found;
        exprs_found =
            found_push pushed exprs line (IsExprLine lines) (IsExprLine (line ∷ lines))
            (later_expr line lines (length exprs) next i.exprs_length)
            (subst (λ n. IsExprLine (line ∷ lines) n line) (sym same)
            (x, refl, expr_at_here id x lines)) i.exprs_found;
        knowns_found =
            found_kept pushed knowns line (IsKnownLine lines) (IsKnownLine (line ∷ lines))
            (later_known line lines (length knowns) next i.knowns_length) i.knowns_found;
      }

  pub indexed_known : (id : ℕ) (st : Statement) (w : Word) (ps : List ℕ)
      → MayFollow lines (L.Known id st w ps)
      → IsIndexed (pushed ++ L.Known id st w ps ∷ []) (L.Known id st w ps ∷ lines) acts exprs
      (knowns ++ length pushed ∷ [])
  indexed_known id st w ps next =
      let line = L.Known id st w ps in
      let same : length knowns ≡ id = i.knowns_length ∙ sym next.numbered in
      record {
        table = (next, i.table);
        acts_length = i.acts_length;
        exprs_length = i.exprs_length;
        knowns_length = omega (arith, length-append knowns (length pushed ∷ []), i.knowns_length);
        acts_found =
            found_kept pushed acts line (IsActsLine lines) (IsActsLine (line ∷ lines))
            (later_acts line lines (length acts) next i.acts_length) i.acts_found;
        exprs_found =
            found_kept pushed exprs line (IsExprLine lines) (IsExprLine (line ∷ lines))
            (later_expr line lines (length exprs) next i.exprs_length) i.exprs_found;
        knowns_found =
            found_push pushed knowns line (IsKnownLine lines) (IsKnownLine (line ∷ lines))
            (later_known line lines (length knowns) next i.knowns_length)
            (subst (λ n. IsKnownLine (line ∷ lines) n line) (sym same) (
              st,
              w,
              ps,
              refl,
              statement_at_here id st w ps lines,
              word_at_here id st w ps lines,
              premises_at_here id st w ps lines,
            )) i.knowns_found;
      }

-- what the places lead to, in the words of reads of the two lists

read_place : (pushed : List Line) (places : List ℕ) (IsLine : ℕ → Line → Type 0) (id place : ℕ)
    → LeadsToLines pushed places IsLine
    → id < length places → place ≡ get_or places id place
    → (place < length pushed) × ((line : Line) → line ≡ get_or pushed place line → IsLine id line)
read_place pushed places IsLine id place found below read =
    let at = found id below in
    let same : place ≡ get_or places id 0 = get_or_read places id place below read 0 in
    let stands : slice_get pushed place ≡ Some at.0 = subst
    (λ p. slice_get pushed p ≡ Some at.0) (sym same) at.1 in (
      slice_get_within pushed place at.0 stands,
      λ line here. subst (IsLine id) (sym (here
          ∙ get_or_from_slice_get pushed place at.0 line stands)) at.2,
    )

module _ (pushed now : List Line) (acts exprs knowns : List ℕ)
    (i : IsIndexed pushed (reverse pushed) acts exprs knowns)
    (same : reverse pushed ≡ now) (id place : ℕ) where
  pub read_acts : id < acts_count now → place ≡ get_or acts id place
      → (place < length pushed) × ((line : Line) → line ≡ get_or pushed place line
      → IsActsLine now id line) × IsTable now
  read_acts below read =
      let within : id < length acts = omega (arith, i.acts_length, ap acts_count same) in
      let at = read_place pushed acts (IsActsLine (reverse pushed)) id place i.acts_found within
      read in (
        at.0,
        λ line here. subst (λ lines. IsActsLine lines id line) same (at.1 line here),
        subst
            IsTable same i.table,
      )

  pub read_expr : id < expr_count now → place ≡ get_or exprs id place
      → (place < length pushed) × ((line : Line) → line ≡ get_or pushed place line
      → IsExprLine now id line) × IsTable now
  read_expr below read =
      let within : id < length exprs = omega (arith, i.exprs_length, ap expr_count same) in
      let at = read_place pushed exprs (IsExprLine (reverse pushed)) id place i.exprs_found within
      read in (
        at.0,
        λ line here. subst (λ lines. IsExprLine lines id line) same (at.1 line here),
        subst
            IsTable same i.table,
      )

  pub read_known : id < known_count now → place ≡ get_or knowns id place
      → (place < length pushed) × ((line : Line) → line ≡ get_or pushed place line
      → IsKnownLine now id line) × IsTable now
  read_known below read =
      let within : id < length knowns = omega (arith, i.knowns_length, ap known_count same) in
      let at = read_place pushed knowns (IsKnownLine (reverse pushed)) id place i.knowns_found
      within read in (
        at.0,
        λ line here. subst (λ lines. IsKnownLine lines id line) same (at.1 line here),
        subst
            IsTable same i.table,
      )

-- a table after one more line, as the two vectors grow

grown : (old new now : List Line) (line : Line) → new ≡ old ++ line ∷ [] → reverse old ≡ now
    → line ∷ reverse old ≡ reverse new
grown old new now line longer same = sym (ap reverse longer ∙ reverse-append old (line ∷ []))

module _ (old new now : List Line) (line : Line) (same : reverse old ≡ now)
    (next : MayFollow now line) (longer : new ≡ old ++ line ∷ [])
    (place : ℕ) (last : place ≡ length old) where
  pub push_acts : (acts more exprs knowns : List ℕ) → IsIndexed old (reverse old) acts exprs knowns
      → (id : ℕ) (x : Acts) → line ≡ L.Acts id x
      → more ≡ acts ++ place ∷ [] → IsIndexed new (reverse new) more exprs knowns
  push_acts acts more exprs knowns i id x is added =
      let next_old : MayFollow (reverse old) (L.Acts id x) = subst
      (λ l. MayFollow (reverse old) l) is (subst
      (λ lines. MayFollow lines line) (sym same) next) in
      let at = indexed_acts old (reverse old) acts exprs knowns i id x next_old in
      let places : acts ++ length old ∷ [] ≡ more = ap (λ n. acts ++ n ∷ []) (sym last)
      ∙ sym added in
      subst (λ lines. IsIndexed new lines more exprs knowns) (grown old new now line longer same)
      (subst (λ l. IsIndexed new (l ∷ reverse old) more exprs knowns) (sym is)
      (subst (λ list. IsIndexed list (L.Acts id x ∷ reverse old) more exprs knowns)
      (ap (λ l. old ++ l ∷ []) (sym is) ∙ sym longer)
      (subst (λ list. IsIndexed (old ++ L.Acts id x ∷ []) (L.Acts id x ∷ reverse old) list exprs
      knowns) places at)))

  pub push_expr : (acts exprs more knowns : List ℕ) → IsIndexed old (reverse old) acts exprs knowns
      → (id : ℕ) (x : Expr) → line ≡ L.Expr id x
      → more ≡ exprs ++ place ∷ [] → IsIndexed new (reverse new) acts more knowns
  push_expr acts exprs more knowns i id x is added =
      let next_old : MayFollow (reverse old) (L.Expr id x) = subst
      (λ l. MayFollow (reverse old) l) is (subst
      (λ lines. MayFollow lines line) (sym same) next) in
      let at = indexed_expr old (reverse old) acts exprs knowns i id x next_old in
      let places : exprs ++ length old ∷ [] ≡ more = ap (λ n. exprs ++ n ∷ []) (sym last)
      ∙ sym added in
      subst (λ lines. IsIndexed new lines acts more knowns) (grown old new now line longer same)
      (subst (λ l. IsIndexed new (l ∷ reverse old) acts more knowns) (sym is)
      (subst (λ list. IsIndexed list (L.Expr id x ∷ reverse old) acts more knowns)
      (ap (λ l. old ++ l ∷ []) (sym is) ∙ sym longer)
      (subst (λ list. IsIndexed (old ++ L.Expr id x ∷ []) (L.Expr id x ∷ reverse old) acts list
      knowns) places at)))

  pub push_known : (acts exprs knowns more : List ℕ) → IsIndexed old (reverse old) acts exprs knowns
      → (id : ℕ) (st : Statement) (w : Word) (ps : List ℕ)
      → line ≡ L.Known id st w ps → more ≡ knowns ++ place ∷ []
      → IsIndexed new (reverse new) acts exprs more
  push_known acts exprs knowns more i id st w ps is added =
      let next_old : MayFollow (reverse old) (L.Known id st w ps) = subst
      (λ l. MayFollow (reverse old) l) is (subst
      (λ lines. MayFollow lines line) (sym same) next) in
      let at = indexed_known old (reverse old) acts exprs knowns i id st w ps next_old in
      let places : knowns ++ length old ∷ [] ≡ more = ap (λ n. knowns ++ n ∷ []) (sym last)
      ∙ sym added in
      subst (λ lines. IsIndexed new lines acts exprs more) (grown old new now line longer same)
      (subst (λ l. IsIndexed new (l ∷ reverse old) acts exprs more) (sym is)
      (subst (λ list. IsIndexed list (L.Known id st w ps ∷ reverse old) acts exprs more)
      (ap (λ l. old ++ l ∷ []) (sym is) ∙ sym longer)
      (subst (λ list. IsIndexed (old ++ L.Known id st w ps ∷ []) (L.Known id st w ps ∷ reverse old)
      acts exprs list) places at)))
