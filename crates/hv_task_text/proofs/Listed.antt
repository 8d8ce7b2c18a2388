-- Lines up to the one that closes their list, and what follows the list.
use Rattle.std.proofs.Common.{◌≡◌, ℕ, ◌+◌, List, [], ◌∷◌, ◌++◌, Option, None}
use Rattle.std.proofs.Common.{Some, Ok, Err, refl, subst, sym}
use Rattle.std.specs.Prelude.{IsErrAnd, Result}
use Rattle.hv_bytes.specs.Pieces.{PieceBytes}
use Rattle.hv_grammar.specs.Parsers.{Parser, after, done_or, followed, iterate, line}
use Rattle.hv_grammar.specs.Parsers.{many_till, pure, tested}
use Rattle.hv_grammar.specs.Parsers.{◌>>=◌}
use Rattle.hv_grammar.specs.Positions.{Position}
use Rattle.hv_grammar.specs.Reads.{Reads}
use Rattle.hv_grammar.specs.Working.Reads.{placed}
use Rattle.hv_grammar.specs.declared.fault.ParseFault.{ParseFault}
use Rattle.hv_grammar.proofs.Going.{Goes, done, exchange, go, stops}
use Rattle.hv_task_text.specs.TaskFile.{with_said}
use Rattle.hv_task_text.specs.declared.fault.TaskKind.{TaskKind}
use Rattle.hv_task_text.specs.declared.fault.TaskRefusal.{TaskRefusal}
use Rattle.hv_task_text.specs.declared.fault.TaskRefusal.TheVariants as R

module _ {A C : Type 0} (kind : TaskKind) (test : List ℕ → Result (Option A) TaskRefusal)
    (rest : List A → Parser TaskRefusal C) where
  -- the lines that are left of a list, behind the earlier ones, and what follows it
  abbrev pub left : List A → Parser TaskRefusal C
  left earlier =
      many_till (R.Place kind) (λ list bytes. with_said list (test bytes)) earlier >>= rest

  -- what follows one of them
  abbrev pub later : List A → Option A → Parser TaskRefusal C
  later earlier None = rest earlier
  later earlier (Some a) = left (earlier ++ a ∷ [])

  same_said : (earlier : List A) (n : ℕ) (ps : List PieceBytes) (said : Result (Option A)
      TaskRefusal)
      → after (tested (n + 1) ps said) (later earlier)
      ≡ after (followed (n + 1) (done_or earlier (n + 1) ps
      (λ b. many_till (R.Place kind) (λ list bytes. with_said list (test bytes)) b (n + 1) ps))
      (with_said earlier said)) rest
  same_said earlier n ps (Ok None) = refl
  same_said earlier n ps (Ok (Some a)) = refl
  same_said earlier n ps (Err bad) = refl

  same_left : (earlier : List A) (n : ℕ) (ps : List PieceBytes)
      → (line (R.Place kind) test >>= later earlier) n ps ≡ left earlier n ps
  same_left earlier n [] = refl
  same_left earlier n (None ∷ ps) = refl
  same_left earlier n (Some l ∷ ps) = same_said earlier n ps (test l)

  -- one of them is ahead
  pub ahead : {whole : Parser TaskRefusal C} {earlier : List A} {old mid : Position}
      → Goes whole old (left earlier) mid
      → Goes whole old (line (R.Place kind) test >>= later earlier) mid
  ahead {earlier = earlier} g =
      exchange (line (R.Place kind) test >>= later earlier) g (same_left earlier)

  -- it was read, and says something
  pub more_read : {whole : Parser TaskRefusal C} {earlier : List A} {old mid new : Position}
      (o : Option A) (a : A) → Goes whole old (left earlier) mid
      → Reads (line (R.Place kind) test) mid new (Ok o) → o ≡ Some a
      → Goes whole old (left (earlier ++ a ∷ [])) new
  more_read {whole = whole} {earlier = earlier} {old = old} {new = new} o a g r is =
      subst (λ x. Goes whole old (later earlier x) new) is (go (later earlier) (ahead g) r)

  -- it was read, and is the last one
  pub last_read : {whole : Parser TaskRefusal C} {earlier : List A} {old mid new : Position}
      (o : Option A) → Goes whole old (left earlier) mid
      → Reads (line (R.Place kind) test) mid new (Ok o) → ((a : A) → o ≡ Some a → ⊥)
      → Goes whole old (rest earlier) new
  last_read {earlier = earlier} None g r none = go (later earlier) (ahead g) r
  last_read (Some a) g r none = absurd (none a refl)

-- a part whose value isn't asked for, and a value that is known before it
pub closed : {A B : Type 0} {whole : Parser B A} {part : Parser B (Unit {0})} (a : A)
    {old mid new : Position} (result : Result (Unit {0}) (ParseFault B))
    → Goes whole old (part >>= λ _. pure a) mid → Reads part mid new result
    → Reads whole old new (placed a result)
closed a (Ok u) g r = done _ a a _ _ (go (λ _. pure a) g r) r.can refl
closed a (Err e) g r = stops (λ _. pure a) g r refl

-- the same steps, where what a part hangs on is known by another name
module _ {A B C X : Type 0} (part : X → Parser B A) (rest : A → Parser B C) {x y : X} (same : x ≡ y)
    {whole : Parser B C} {old mid new : Position} where
  pub go_as : {a : A} → Goes whole old (part y >>= rest) mid → Reads (part x) mid new (Ok a)
      → Goes whole old (rest a) new
  go_as {a = a} g r = go rest g (subst (λ z. Reads (part z) mid new (Ok a)) same r)

  pub stops_as : {e : ParseFault B} {result : Result C (ParseFault B)}
      → Goes whole old (part y >>= rest) mid → Reads (part x) mid new (Err e)
      → IsErrAnd result (λ f. f ≡ e) → Reads whole old new result
  stops_as {e = e} g r is =
      stops rest g (subst (λ z. Reads (part z) mid new (Err e)) same r) is

-- what was read, by another word for what it hangs on
pub named_as : {A B X : Type 0} (part : X → Parser B A) {x y : X} {old new : Position}
    {result : Result A (ParseFault B)} → x ≡ y → Reads (part x) old new result
    → Reads (part y) old new result
named_as part {old = old} {new = new} {result = result} same r =
    subst (λ z. Reads (part z) old new result) same r

-- and by another word for its value
pub value_as : {A B : Type 0} {part : Parser B A} {a b : A} {old new : Position} → b ≡ a
    → Reads part old new (Ok a) → Reads part old new (Ok b)
value_as {part = part} {old = old} {new = new} same r =
    subst (λ x. Reads part old new (Ok x)) (sym same) r

-- no turn is left
pub turned : {A B : Type 0} (whole : Parser B A) (part : A → Parser B A) (a : A) (k : ℕ)
    (old mid : Position) → Goes whole old (iterate k part a) mid → k ≡ 0
    → Goes whole old (pure a) mid
turned whole part a k old mid g none = subst (λ n. Goes whole old (iterate n part a) mid) none g
