-- What clap makes of words, one after another.
use Rattle.std.proofs.Common.{◌≡◌, ◌∙◌, ◌&&◌, ℕ, true, false, eqb, List, [], ◌∷◌, None}
use Rattle.std.proofs.Common.{cond, drop, fold, map, refl, ap, ap₂, subst, sym, true≢false}
use Rattle.std.proofs.lemmas.Bool.{not-true}
use Rattle.std.specs.List.{list_all}
use Rattle.clap.proofs.TakesLemmas.{leaf_takes}
use Rattle.clap.specs.Simple.{App, Shape, argument_words, built, is_simple, label_of, matches_of}
use Rattle.clap.specs.Simple.{names_of}
use Rattle.clap.specs.Takes.{built_takes, default_passes, is_valid, level_passes, settle_passes}
use Rattle.clap.specs.Takes.{step_passes, takes, turn_passes, walk_passes, word_passes}
use Rattle.clap.specs.Walk.{Held, Rule, Text, Waiting, Walk, after_step, finished, idle}
use Rattle.clap.specs.Walk.{nothing_held, option, plain_word, positional, walk, walk_from, walked}
use Rattle.clap.specs.Walk.{word_met}
use Rattle.hv_words.specs.Forms.{is_argument}

-- a word that may be an argument is no flag
module _ (rules : List Rule) where
  met_at : (waiting : Waiting) (position x : ℕ) (xs : Text) (held : Held) → eqb x 45 ≡ false
      → word_met rules [] false waiting position (x ∷ xs) held
      ≡ plain_word rules waiting (x ∷ xs) held
  met_at idle position x xs held h = rw (h, h) refl
  met_at (option id) position x xs held h = rw (h, h) refl
  met_at positional position x xs held h = rw (h, h) refl

  met : (waiting : Waiting) (position : ℕ) (word : Text) (held : Held) → is_argument word ≡ true
      → word_met rules [] false waiting position word held ≡ plain_word rules waiting word held
  met waiting position [] held h = absurd (true≢false (sym h))
  met waiting position (x ∷ xs) held h = met_at waiting position x xs held (not-true (eqb x 45) h)

  -- where the walk is before a word
  abbrev pub at : Held → Waiting → ℕ → Walk
  at held waiting position = record {
    held = held;
    waiting = waiting;
    position = position;
    is_trailing = false;
    stopped = None;
  }

  -- the walk after such a word
  abbrev pub after : Held → Waiting → ℕ → Text → Walk
  after held waiting position word =
      after_step rules word (at held waiting position) (plain_word rules waiting word held).0
      (plain_word rules waiting word held).1

  pub walked_after : (held : Held) (waiting : Waiting) (position : ℕ) (word : Text)
      → is_argument word ≡ true
      → walked rules [] (at held waiting position) word ≡ after held waiting position word
  unfolding walked
  walked_after held waiting position word h =
      ap (λ m. after_step rules word (at held waiting position) m.0 m.1)
      (met waiting position word held h)

-- such a word passes where its step does
module _ (shape : Shape) where
  abbrev pub AtPasses : Held → Waiting → ℕ → Text → Type 0
  AtPasses held waiting position word =
      step_passes shape position (plain_word shape.rules waiting word held).0
      (plain_word shape.rules waiting word held).1 ≡ true

  no_flag : (waiting : Waiting) (x : ℕ) (xs : Text) (held : Held) → eqb x 45 ≡ false
      → word_passes shape [] false waiting (x ∷ xs) held ≡ true
  no_flag idle x xs held h = rw (h, h) refl
  no_flag (option id) x xs held h = rw (h, h) refl
  no_flag positional x xs held h = rw (h, h) refl

  turn : (held : Held) (waiting : Waiting) (position : ℕ) (word : Text) → is_argument word ≡ true
      → AtPasses held waiting position word
      → turn_passes shape [] (at shape.rules held waiting position) word ≡ true
  turn held waiting position [] h passes = absurd (true≢false (sym h))
  turn held waiting position (x ∷ xs) h passes =
      let word : Text = x ∷ xs in
      ap₂ (λ a b. a && b) (no_flag waiting x xs held (not-true (eqb x 45) h))
      (ap (λ m. step_passes shape position m.0 m.1) (met shape.rules waiting position word held h)
      ∙ passes)

  pub passes_more : (walk : Walk) (word : Text) (rest : List Text)
      → turn_passes shape [] walk word ≡ true
      → walk_passes shape [] (walked shape.rules [] walk word) rest ≡ true
      → walk_passes shape [] walk (word ∷ rest) ≡ true
  unfolding walk_passes
  passes_more walk word rest here more = rw (here, more) refl

  -- the walk passes over the words, from one place to another
  abbrev pub Goes : Walk → List Text → Walk → Type 0
  Goes start words end =
      (fold (walked shape.rules []) start words ≡ end) × (walk_passes shape [] start words ≡ true)

  pub goes_nowhere : (start : Walk) → Goes start [] start
  unfolding walk_passes
  goes_nowhere start = (refl, refl)

  pub goes_by : (start next end : Walk) (word : Text) (rest : List Text)
      → walked shape.rules [] start word ≡ next
      → turn_passes shape [] start word ≡ true → Goes next rest end → Goes start (word ∷ rest) end
  goes_by start next end word rest e here more = (
    ap (λ w. fold (walked shape.rules []) w rest) e ∙ more.0,
    passes_more start word rest here (subst
        (λ w. walk_passes shape [] w rest ≡ true) (sym e) more.1),
  )

  pub goes_on : (held : Held) (waiting : Waiting) (position : ℕ) (end : Walk) (word : Text)
      (rest : List Text) → is_argument word ≡ true
      → AtPasses held waiting position word
      → Goes (after shape.rules held waiting position word) rest end
      → Goes (at shape.rules held waiting position) (word ∷ rest) end
  goes_on held waiting position end word rest h here more =
      goes_by (at shape.rules held waiting position) (after shape.rules held waiting position word)
      end word rest
      (walked_after shape.rules held waiting position word h)
      (turn held waiting position word h here) more

-- what is found at the end of a walk is valid
abbrev pub Ends : Shape → Held → Type 0
Ends shape held =
    (settle_passes shape.rules shape.args_override_self held
    && (list_all default_passes shape.rules && is_valid shape (finished shape.rules held) false))
    ≡ true

-- the command takes words over which the walk passes, and reads what is found at their end
module _ (app : App) (simple : is_simple app ≡ true) (whole : app.top.no_binary_name ≡ true)
    (leaf : (built app).subs ≡ []) where
  abbrev pub shape : Shape
  shape = (built app).top

  pub reached : (words : List Text) (end : Walk) → Goes shape (walk_from nothing_held) words end
      → Ends shape end.held
      → (takes app words ≡ true) × (matches_of app words ≡ finished shape.rules end.held)
  reached words end goes ends =
      let same : argument_words app words ≡ words = ap (λ b. cond b words (drop 1 words)) whole in
      let none : names_of (built app) ≡ [] = ap (map label_of) leaf in
      let level : level_passes shape [] nothing_held words false ≡ true =
      ap₂ (λ a b. a && b) goes.1 (subst (λ (w : Walk). Ends shape w.held) (sym goes.0) ends) in
      let passes : built_takes (built app) nothing_held words
      ≡ true = leaf_takes (built app) nothing_held words leaf level in (
        ap₂ (λ a b. a && b) simple (subst (λ ws. built_takes (built app) nothing_held ws ≡ true)
            (sym same) passes),
        ap₂ (λ names ws. finished shape.rules (walk shape.rules names nothing_held ws).held) none
            same
            ∙ ap (λ (w : Walk). finished shape.rules w.held) goes.0,
      )
