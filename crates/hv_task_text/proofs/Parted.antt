-- Parts of a format, and the lines that they are read from.
use Rattle.std.proofs.Common.{◌≡◌, ◌∙◌, ℕ, zero, suc, ◌+◌, List, [], ◌∷◌, ◌++◌, Option, None, Some}
use Rattle.std.proofs.Common.{Ok, Err, append-nil, append_assoc, ap, arith, length, length-append}
use Rattle.std.proofs.Common.{map, refl, sym}
use Rattle.std.specs.Prelude.{Result}
use Rattle.std.specs.List.{All, flat_map}
use Rattle.std.proofs.lemmas.List.{map-append}
use Rattle.std.proofs.lemmas.List.Elements.{All-cons, All-head, All-nil, All-tail}
use Rattle.hv_bytes.specs.Pieces.{PieceBytes, as_pieces}
use Rattle.hv_grammar.specs.Parsers.{Outcome, Parser, after, done_or}
use Rattle.hv_grammar.specs.Parsers.{end_of_input, followed, iterate}
use Rattle.hv_grammar.specs.Parsers.{line, long, many_till, one_more, parsed, pure, refused, tested}
use Rattle.hv_grammar.specs.Parsers.{◌>>=◌, ◌>>◌}
use Rattle.hv_task_text.specs.TaskFile.{with_said}
use Rattle.hv_task_text.specs.declared.fault.TaskKind.{TaskKind}
use Rattle.hv_task_text.specs.declared.fault.TaskRefusal.{TaskRefusal}
use Rattle.hv_task_text.specs.declared.fault.TaskRefusal.TheVariants as R

pub pieces_append : (xs ys : List (List ℕ)) (rest : List PieceBytes)
    → as_pieces (xs ++ ys) ++ rest ≡ as_pieces xs ++ (as_pieces ys ++ rest)
pieces_append xs ys rest =
    ap (λ ps. ps ++ rest) (map-append (λ (l : List ℕ). Some l) xs ys)
    ∙ append_assoc (as_pieces xs) (as_pieces ys) rest

-- Lines are read as a value, whatever follows them.

abbrev pub Spells : {A B : Type 0} → Parser B A → List (List ℕ) → A → Type 0
Spells part lines a =
    (n : ℕ) (rest : List PieceBytes) → part n (as_pieces lines ++ rest) ≡ parsed a
    (n + length lines) rest

same_count : {A B : Type 0} (a : A) (n m : ℕ) (rest : List PieceBytes) → n ≡ m
    → ◌≡◌ {A = Outcome B A} (parsed a n rest) (parsed a m rest)
same_count a n m rest e = ap (λ k. parsed a k rest) e

pub spells_none : {A B : Type 0} (a : A) → Spells {B = B} (pure a) [] a
spells_none a = λ n rest. same_count a n (n + 0) rest (omega arith)

pub spells_line : {A B : Type 0} (lacking : B) (test : List ℕ → Result A B) (l : List ℕ) (a : A)
    → test l ≡ Ok a → Spells (line lacking test) (l ∷ []) a
spells_line lacking test l a e = λ n rest. ap (tested (n + 1) rest) e

-- what follows a part goes on behind its lines
pub over : {A B C : Type 0} (part : Parser B A) (f : A → Parser B C) (xs ys : List (List ℕ)) (a : A)
    (n : ℕ) (rest : List PieceBytes) → Spells part xs a
    → (part >>= f) n (as_pieces (xs ++ ys) ++ rest) ≡ f a (n + length xs) (as_pieces ys ++ rest)
over part f xs ys a n rest s =
    ap ((part >>= f) n) (pieces_append xs ys rest)
    ∙ ap (λ o. after o f) (s n (as_pieces ys ++ rest))

pub spells_then : {A B C : Type 0} (part : Parser B A) (f : A → Parser B C) (xs ys : List (List ℕ))
    (a : A) (c : C) → Spells part xs a → Spells (f a) ys c → Spells (part >>= f) (xs ++ ys) c
spells_then part f xs ys a c s t = λ n rest.
    over part f xs ys a n rest s ∙ t (n + length xs) rest
    ∙ same_count c ((n + length xs) + length ys) (n + length (xs ++ ys)) rest
    (let e = length-append xs ys in omega arith)

-- so many values, each by its lines
module _ {A B Y : Type 0} (part : Parser B A) (spell : Y → List (List ℕ)) (value : Y → A)
    (P : Y → Type 0) where
  pub spells_each : (ys : List Y) (front : List A) → ((y : Y) → P y → Spells part (spell y)
      (value y))
      → All P ys
      → Spells (iterate (length ys) (one_more part) front) (flat_map spell ys)
      (front ++ map value ys)
  spells_each [] front one all = λ n rest.
      ap (λ (made : List A). parsed made n rest) (sym (append-nil front))
      ∙ same_count (front ++ []) n (n + 0) rest (omega arith)
  spells_each (y ∷ ys) front one all = λ n rest.
      over (one_more part front) (λ b. iterate (length ys) (one_more part) b) (spell y)
      (flat_map spell ys) (front ++ value y ∷ []) n rest
      (λ k more. ap (λ o. after o (λ a. pure (front ++ a ∷ []))) (one y
      (All-head P y ys all) k more))
      ∙ spells_each ys (front ++ value y ∷ []) one (All-tail P y ys all) (n + length (spell y)) rest
      ∙ ap (λ (made : List A). parsed made ((n + length (spell y)) + length
      (flat_map spell ys)) rest)
      (append_assoc front (value y ∷ []) (map value ys))
      ∙ same_count (front ++ value y ∷ map value ys)
      ((n + length (spell y)) + length (flat_map spell ys))
      (n + length (spell y ++ flat_map spell ys)) rest
      (let e = length-append (spell y) (flat_map spell ys) in omega arith)

-- a list of values, a line each, and its closing line
module _ {A : Type 0} (kind : TaskKind) (test : List ℕ → Result (Option A) TaskRefusal)
    (spell : A → List ℕ) (closing : List ℕ) (P : A → Type 0) where
  abbrev listing : List A → Parser TaskRefusal (List A)
  listing = many_till (R.Place kind) (λ earlier bytes. with_said earlier (test bytes))

  abbrev going : List A → ℕ → List PieceBytes → Result (Option A) TaskRefusal
      → Outcome TaskRefusal (List A)
  going front n ps said =
      followed n (done_or front n ps (λ b. listing b n ps)) (with_said front said)

  pub spells_list : (xs front : List A) → ((x : A) → P x → test (spell x) ≡ Ok (Some x))
      → test closing ≡ Ok None → All P xs
      → Spells (listing front) (map spell xs ++ closing ∷ []) (front ++ xs)
  spells_list [] front one last all = λ n rest.
      ap (going front (n + 1) rest) last
      ∙ ap (λ (made : List A). parsed made (n + 1) rest) (sym (append-nil front))
  spells_list (x ∷ xs) front one last all = λ n rest.
      ap (going front (n + 1) (as_pieces (map spell xs ++ closing ∷ []) ++ rest))
      (one x (All-head P x xs all))
      ∙ spells_list xs (front ++ x ∷ []) one last (All-tail P x xs all) (n + 1) rest
      ∙ ap (λ (made : List A). parsed made ((n + 1) + length (map spell xs ++ closing ∷ [])) rest)
      (append_assoc front (x ∷ []) xs)
      ∙ same_count (front ++ x ∷ xs) ((n + 1) + length (map spell xs ++ closing ∷ []))
      (n + suc (length (map spell xs ++ closing ∷ []))) rest (omega arith)

-- Lines are read as a value, where nothing follows them.

abbrev pub Ends : {A B : Type 0} → Parser B A → List (List ℕ) → A → Type 0
Ends part lines a = (n : ℕ) → part n (as_pieces lines) ≡ parsed a (n + length lines) []

pub ends_pure : {A B : Type 0} (extra : B) (a : A) → Ends (end_of_input extra >> pure a) [] a
ends_pure extra a = λ n. same_count a n (n + 0) [] (omega arith)

pub ends_then : {A B C : Type 0} (part : Parser B A) (f : A → Parser B C) (xs ys : List (List ℕ))
    (a : A) (c : C) → Spells part xs a → Ends (f a) ys c → Ends (part >>= f) (xs ++ ys) c
ends_then part f xs ys a c s t = λ n.
    ap ((part >>= f) n) (map-append (λ (l : List ℕ). Some l) xs ys)
    ∙ ap (λ o. after o f) (s n (as_pieces ys)) ∙ t (n + length xs)
    ∙ same_count c ((n + length xs) + length ys) (n + length (xs ++ ys)) []
    (let e = length-append xs ys in omega arith)

-- And back: a value that came of pieces came of lines in front.

-- what follows a part came of what the part left
pub came_of : {A B C : Type 0} (f : A → Parser B C) (o : Outcome B A) (c : C) (m : ℕ)
    (qs : List PieceBytes) → after o f ≡ parsed c m qs
    → (a : A) × (k : ℕ) × (rs : List PieceBytes) × (o ≡ parsed a k rs) × (f a k rs ≡ parsed c m qs)
came_of f (parsed a k rs) c m qs e = (a, k, rs, refl, e)
came_of f (refused k b) c m qs e = absurd cc
came_of f (long k) c m qs e = absurd cc

-- of each value that comes of a part, with the lines that it came of
abbrev pub Splits : {A B : Type 0} → Parser B A → (A → List (List ℕ) → Type 0) → Type 0
Splits {A} {B} part Says =
    (n m : ℕ) (ps qs : List PieceBytes) (a : A) → part n ps ≡ parsed a m qs
    → (lines : List (List ℕ)) × (ps ≡ as_pieces lines ++ qs) × Says a lines

pub same_parsed : {A B : Type 0} (a b : A) (n m : ℕ) (ps qs : List PieceBytes)
    → ◌≡◌ {A = Outcome B A} (parsed a n ps) (parsed b m qs) → (a ≡ b) × (ps ≡ qs)
same_parsed a b n m ps qs e = (cc, cc)

said_line : {A B : Type 0} (n m : ℕ) (ps qs : List PieceBytes) (said : Result A B) (a : A)
    → tested n ps said ≡ parsed a m qs → (said ≡ Ok a) × (ps ≡ qs)
said_line n m ps qs (Ok b) a e =
    let s = same_parsed b a n m ps qs e in (ap (λ x. Ok x) s.0, s.1)
said_line n m ps qs (Err bad) a e = absurd cc

pub splits_line : {A B : Type 0} (lacking : B) (test : List ℕ → Result A B)
    → Splits (line lacking test) (λ a lines. (l : List ℕ) × (test l ≡ Ok a) × (lines ≡ l ∷ []))
splits_line lacking test n m [] qs a e = absurd cc
splits_line lacking test n m (None ∷ ps) qs a e = absurd cc
splits_line lacking test n m (Some l ∷ ps) qs a e =
    let s = said_line (n + 1) m ps qs (test l) a e in
    (l ∷ [], ap (λ rs. Some l ∷ rs) s.1, (l, s.0, refl))

pub splits_pure : {A B : Type 0} (a : A)
    → Splits {B = B} (pure a) (λ b lines. (b ≡ a) × (lines ≡ []))
splits_pure a n m ps qs b e =
    let s = same_parsed a b n m ps qs e in ([], s.1, (sym s.0, refl))

pub splits_as : {A B : Type 0} (part : Parser B A) (Says Other : A → List (List ℕ) → Type 0)
    → ((a : A) (lines : List (List ℕ)) → Says a lines → Other a lines) → Splits part Says
    → Splits part Other
splits_as part Says Other f s n m ps qs a e =
    let w = s n m ps qs a e in (w.0, w.1, f a w.0 w.2)

module _ {A B Y : Type 0} (part : Parser B A) (spell : Y → List (List ℕ)) (value : Y → A)
    (P : Y → Type 0) where
  -- one of these values is spelled by these lines
  abbrev pub Is : A → List (List ℕ) → Type 0
  Is a lines = (y : Y) × P y × (a ≡ value y) × (lines ≡ spell y)

  pub record Are (k : ℕ) (front made : List A) (lines : List (List ℕ)) (ys : List Y) : Type 0 where
    pub values : made ≡ front ++ map value ys
    pub lines_are : lines ≡ flat_map spell ys
    pub count : length ys ≡ k
    pub each : All P ys

  pub splits_each : (k : ℕ) (front : List A) → Splits part Is
      → Splits (iterate k (one_more part) front) (λ made lines.
      (ys : List Y) × Are k front made lines ys)
  splits_each zero front one n m ps qs made e =
      let s = same_parsed front made n m ps qs e in (
        [],
        s.1,
        (
          [],
          record {
            values = sym s.0 ∙ sym (append-nil front);
            lines_are = refl;
            count = refl;
            each = All-nil P;
          },
        ),
      )
  splits_each (suc k) front one n m ps qs made e =
      let w = came_of (λ b. iterate k (one_more part) b) (one_more part front n ps) made m qs e in
      let v = came_of (λ a. pure (front ++ a ∷ [])) (part n ps) w.0 w.1 w.2 w.3 in
      let s = same_parsed (front ++ v.0 ∷ []) w.0 v.1 w.1 v.2 w.2 v.4 in
      let x = one n v.1 ps v.2 v.0 v.3 in
      let y = splits_each k w.0 one w.1 m w.2 qs made w.4 in
      let is = x.2 in
      let are = y.2 in (
        x.0 ++ y.0,
        x.1 ∙ ap (λ rs. as_pieces x.0 ++ rs) (s.1 ∙ y.1) ∙ sym (pieces_append x.0 y.0 qs),
        (
          is.0 ∷ are.0,
          record {
            values = are.1.values ∙ ap (λ (f : List A). f ++ map value are.0) (sym s.0)
                ∙ append_assoc front (v.0 ∷ []) (map value are.0)
                ∙ ap (λ a. front ++ a ∷ map value are.0) is.2;
            lines_are = ap (λ ls. ls ++ y.0) is.3 ∙ ap (λ ls. spell is.0 ++ ls) are.1.lines_are;
            count = ap (λ i. suc i) are.1.count;
            each = All-cons P is.0 are.0 is.1 are.1.each;
          },
        ),
      )

module _ {A : Type 0} (kind : TaskKind) (test : List ℕ → Result (Option A) TaskRefusal)
    (spell : A → List ℕ) (closing : List ℕ) (P : A → Type 0)
    (one : (l : List ℕ) (a : A) → test l ≡ Ok (Some a) → P a × (l ≡ spell a))
    (last : (l : List ℕ) → test l ≡ Ok None → l ≡ closing) where
  pub record Listed (front made : List A) (lines : List (List ℕ)) (xs : List A) : Type 0 where
    pub values : made ≡ front ++ xs
    pub lines_are : lines ≡ map spell xs ++ closing ∷ []
    pub each : All P xs

  abbrev Lists : List PieceBytes → Type 0
  Lists ps =
      (front made : List A) (n m : ℕ) (qs : List PieceBytes)
      → many_till (R.Place kind) (λ earlier bytes. with_said earlier (test bytes)) front n ps
      ≡ parsed made m qs
      → (lines : List (List ℕ)) × (ps ≡ as_pieces lines ++ qs)
      × ((xs : List A) × Listed front made lines xs)

  said_next : (front made : List A) (n m : ℕ) (l : List ℕ) (ps qs : List PieceBytes)
      (said : Result (Option A) TaskRefusal) → Lists ps → test l ≡ said
      → going kind test spell closing P front n ps said ≡ parsed made m qs
      → (lines : List (List ℕ)) × (Some l ∷ ps ≡ as_pieces lines ++ qs)
      × ((xs : List A) × Listed front made lines xs)
  said_next front made n m l ps qs (Err bad) more is e = absurd cc
  said_next front made n m l ps qs (Ok None) more is e =
      let s = same_parsed front made n m ps qs e in (
        l ∷ [],
        ap (λ rs. Some l ∷ rs) s.1,
        (
          [],
          record {
            values = sym s.0 ∙ sym (append-nil front);
            lines_are = ap (λ b. b ∷ []) (last l is);
            each = All-nil P;
          },
        ),
      )
  said_next front made n m l ps qs (Ok (Some a)) more is e =
      let w = more (front ++ a ∷ []) made n m qs e in
      let o = one l a is in (
        l ∷ w.0,
        ap (λ rs. Some l ∷ rs) w.1,
        (
          a ∷ w.2.0,
          record {
            values = w.2.1.values ∙ append_assoc front (a ∷ []) w.2.0;
            lines_are = ap (λ b. b ∷ w.0) o.1 ∙ ap (λ ls. spell a ∷ ls) w.2.1.lines_are;
            each = All-cons P a w.2.0 o.0 w.2.1.each;
          },
        ),
      )

  lists : (ps : List PieceBytes) → Lists ps
  lists [] front made n m qs e = absurd cc
  lists (None ∷ ps) front made n m qs e = absurd cc
  lists (Some l ∷ ps) front made n m qs e =
      said_next front made (n + 1) m l ps qs (test l) (lists ps) refl e

  pub splits_list : (front : List A)
      → Splits (many_till (R.Place kind) (λ earlier bytes. with_said earlier (test bytes)) front)
      (λ made lines. (xs : List A) × Listed front made lines xs)
  splits_list front n m ps qs made e = lists ps front made n m qs e

-- nothing is behind the end
pub ended : {A B : Type 0} (extra : B) (t a : A) (n m : ℕ) (ps qs : List PieceBytes)
    → (end_of_input extra >> pure t) n ps ≡ parsed a m qs → (a ≡ t) × (ps ≡ [])
ended extra t a n m [] qs e = (sym (same_parsed t a n m [] qs e).0, refl)
ended extra t a n m (None ∷ ps) qs e = absurd cc
ended extra t a n m (Some l ∷ ps) qs e = absurd cc

-- the pieces of two runs of lines
pub glued : (pieces rs : List PieceBytes) (xs ys : List (List ℕ)) → pieces ≡ as_pieces xs ++ rs
    → rs ≡ as_pieces ys → pieces ≡ as_pieces (xs ++ ys)
glued pieces rs xs ys p q =
    p ∙ ap (λ r. as_pieces xs ++ r) q ∙ sym (map-append (λ (l : List ℕ). Some l) xs ys)
