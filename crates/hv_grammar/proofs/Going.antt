-- Parts read one after another.
use Rattle.std.proofs.Common.{◌≡◌, ℕ, ◌≤◌, List, Option, None, Some, IfSome, refl, sym}
use Rattle.std.proofs.Common.{ap, subst, ◌∙◌, arith, Ok, Err}
use Rattle.std.specs.Prelude.{Result, option_map, IsErrAnd}
use Rattle.hv_bytes.specs.Devices.{Rose}
use Rattle.hv_bytes.specs.Pieces.{PieceBytes}
use Rattle.hv_grammar.specs.declared.fault.ParseFault.{ParseFault}
use Rattle.hv_grammar.specs.declared.fault.ParseFault.TheVariants as F
use Rattle.hv_grammar.specs.Parsers.{Outcome, Parser, after, long, parsed, pure, refused, ◌>>=◌}
use Rattle.hv_grammar.specs.Positions.{CanRead, KeepsShelf, Position, coming}
use Rattle.hv_grammar.specs.Reads.{Reads, Yields, outcome_at}
use Rattle.hv_grammar.specs.Working.Reads.{placed}

-- what comes of the whole from the one place on is what comes of the rest from the other place on
pub record Goes {A B : Type 0} (whole : Parser B A) (old : Position) (rest : Parser B A)
    (now : Position)
    : Type 0
  where
    pub same : IfSome (outcome_at whole old) (λ o. outcome_at rest now ≡ Some o)
    pub keeps : KeepsShelf old now

pub keeps_more : (a b c : Position) → KeepsShelf a b → KeepsShelf b c → KeepsShelf a c
keeps_more a b c p q =
    let u = p.later in
    let v = q.later in
    record {
      shelf = q.shelf ∙ p.shelf;
      held = q.held ∙ p.held;
      allows = q.allows ∙ p.allows;
      later = omega arith;
      limits = q.limits ∙ p.limits;
    }

pub keeps_self : (p : Position) → KeepsShelf p p
keeps_self p =
    record { shelf = refl; held = refl; allows = refl; later = omega arith; limits = refl }

pub same_more : {A : Type 0} (x y z : Option A) → IfSome x (λ o. y ≡ Some o)
    → IfSome y (λ o. z ≡ Some o) → IfSome x (λ o. z ≡ Some o)
same_more None y z p q = tt
same_more (Some a) None z p q = absurd cc
same_more (Some a) (Some b) z p q = q ∙ p

same_self : {A : Type 0} (x : Option A) → IfSome x (λ o. x ≡ Some o)
same_self None = tt
same_self (Some a) = refl

pub same_then : {A : Type 0} (x y : Option A) (P : A → Type 0) → IfSome x (λ o. y ≡ Some o)
    → IfSome y P → IfSome x P
same_then None y P p q = tt
same_then (Some a) None P p q = absurd cc
same_then (Some a) (Some b) P p q = let e : b ≡ a = cc in subst P e q

from_some : {A : Type 0} (a b : A) → ◌≡◌ {A = Option A} (Some a) (Some b) → a ≡ b
from_some a b e = cc

part_next : {A B C : Type 0} (part : Parser B A) (rest : A → Parser B C) (a : A) (n m : ℕ)
    (cs ds : Option (List PieceBytes))
    → IfSome (option_map (part n) cs)
    (λ o. ◌≡◌ {A = Option (Outcome B A)} (option_map (pure a m) ds) (Some o))
    → IfSome (option_map ((part >>= rest) n) cs)
    (λ o. ◌≡◌ {A = Option (Outcome B C)} (option_map (rest a m) ds) (Some o))
part_next part rest a n m None ds h = tt
part_next part rest a n m (Some ps) None h = absurd cc
part_next part rest a n m (Some ps) (Some qs) h =
    ap (λ o. Some (after o rest)) (from_some (parsed a m qs) (part n ps) h)

part_stop : {A B C : Type 0} (part : Parser B A) (rest : A → Parser B C) (n : ℕ)
    (cs : Option (List PieceBytes)) (bad : Outcome B A) → IfSome (option_map (part n) cs) (λ o. o ≡
    bad)
    → IfSome (option_map ((part >>= rest) n) cs) (λ o. o ≡ after bad rest)
part_stop part rest n None bad h = tt
part_stop part rest n (Some ps) bad h = ap (λ o. after o rest) h

pub start : {A B : Type 0} (part : Parser B A) (s : Position) → Goes part s part s
start part s = record {
  same = same_self (outcome_at part s);
  keeps = keeps_self s;
}

-- one part on
pub next : {A B C : Type 0} (whole : Parser B C) (part : Parser B A) (rest : A → Parser B C) (a : A)
    (old mid new : Position) → Goes whole old (part >>= rest) mid → Reads part mid new (Ok a)
    → Goes whole old (rest a) new
next whole part rest a old mid new g r = record {
  same = same_more (outcome_at whole old) (outcome_at (part >>= rest) mid) (outcome_at
      (rest a) new) g.same
      (part_next part rest a mid.lines.number new.lines.number (coming mid) (coming new) r.yields);
  keeps = keeps_more old mid new g.keeps r.keeps;
}

-- the same, as a chain of what was read
pub go : {A B C : Type 0} {whole : Parser B C} {part : Parser B A} (rest : A → Parser B C) {a : A}
    {old mid new : Position} → Goes whole old (part >>= rest) mid → Reads part mid new (Ok a)
    → Goes whole old (rest a) new
go rest g r = next _ _ rest _ _ _ _ g r

part_moves : {A B C : Type 0} (part : Parser B A) (now later : Parser B C) (a : A) (n m : ℕ)
    (cs ds : Option (List PieceBytes))
    → IfSome (option_map (part n) cs)
    (λ o. ◌≡◌ {A = Option (Outcome B A)} (option_map (pure a m) ds) (Some o))
    → ((ps qs : List PieceBytes) → part n ps ≡ parsed a m qs → now n ps ≡ later m qs)
    → IfSome (option_map (now n) cs)
    (λ o. ◌≡◌ {A = Option (Outcome B C)} (option_map (later m) ds) (Some o))
part_moves part now later a n m None ds h same = tt
part_moves part now later a n m (Some ps) None h same = absurd cc
part_moves part now later a n m (Some ps) (Some qs) h same =
    ap (λ o. Some o) (sym (same ps qs (sym (from_some (parsed a m qs) (part n ps) h))))

-- one part on, where what is left is another thing afterwards
pub moves : {A B C : Type 0} (whole now later : Parser B C) (part : Parser B A) (a : A)
    (old mid new : Position) → Goes whole old now mid → Reads part mid new (Ok a)
    → ((ps qs : List PieceBytes) → part mid.lines.number ps ≡ parsed a new.lines.number qs
    → now mid.lines.number ps ≡ later new.lines.number qs)
    → Goes whole old later new
moves whole now later part a old mid new g r same = record {
  same = same_more (outcome_at whole old) (outcome_at now mid) (outcome_at later new) g.same
      (part_moves part now later a mid.lines.number new.lines.number (coming mid) (coming new)
      r.yields same);
  keeps = keeps_more old mid new g.keeps r.keeps;
}

refused_in : {A B : Type 0} (rest : Parser B A) (m : ℕ) (b : B) (n : ℕ)
    (cs : Option (List PieceBytes)) → ((ps : List PieceBytes) → rest n ps ≡ refused m b)
    → IfSome (option_map (rest n) cs) (λ o. o ≡ refused m b)
refused_in rest m b n None same = tt
refused_in rest m b n (Some ps) same = same ps

-- what is left is a refusal already, whatever is read until it is said
pub refuses : {A B : Type 0} (whole rest : Parser B A) (m : ℕ) (b : B) (old mid new : Position)
    → Goes whole old rest mid → KeepsShelf mid new
    → ((ps : List PieceBytes) → rest mid.lines.number ps ≡ refused m b)
    → Reads whole old new (Err (F.Refused m b))
refuses whole rest m b old mid new g keeps same = record {
  yields = same_then (outcome_at whole old) (outcome_at rest mid) (λ o. o ≡ refused m b) g.same
      (refused_in rest m b mid.lines.number (coming mid) same);
  keeps = keeps_more old mid new g.keeps keeps;
  can = tt;
}

-- memory ran out, whatever was read since
pub ran_out : {A B : Type 0} (whole rest : Parser B A) (old mid new : Position)
    → Goes whole old rest mid → KeepsShelf mid new → Reads whole old new (Err F.Memory)
ran_out whole rest old mid new g keeps =
    record { yields = tt; keeps = keeps_more old mid new g.keeps keeps; can = tt }

pub rose_more : (a b c : ℕ) → a ≤ b → Rose b c → Rose a c
rose_more a b c p q = omega arith

stop_answers : {A B C : Type 0} (whole : Parser B C) (part : Parser B A) (rest : A → Parser B C)
    (e : ParseFault B) (old mid new : Position) → Goes whole old (part >>= rest) mid
    → Yields part mid new (Err e) → Yields whole old new (Err e)
stop_answers whole part rest (F.Refused n b) old mid new g r =
    same_then (outcome_at whole old) (outcome_at (part >>= rest) mid) (λ o. o ≡ refused n b) g.same
    (part_stop part rest mid.lines.number (coming mid) (refused n b) r)
stop_answers whole part rest (F.Long n) old mid new g r =
    same_then (outcome_at whole old) (outcome_at (part >>= rest) mid) (λ o. o ≡ long n) g.same
    (part_stop part rest mid.lines.number (coming mid) (long n) r)
stop_answers whole part rest F.ReadFault old mid new g r =
    rose_more old.faults mid.faults new.faults g.keeps.later r
stop_answers whole part rest F.Memory old mid new g r = tt

-- the next part stops
pub stop : {A B C : Type 0} (whole : Parser B C) (part : Parser B A) (rest : A → Parser B C)
    (e : ParseFault B)
    (old mid new : Position) (result : Result C (ParseFault B)) → Goes whole old (part >>= rest) mid
    → Reads part mid new (Err e) → IsErrAnd result (λ f. f ≡ e) → Reads whole old new result
stop whole part rest e old mid new (Ok c) g r is = absurd is
stop whole part rest e old mid new (Err f) g r is =
    subst (λ f. Reads whole old new (Err f)) (sym is) (record {
      yields = stop_answers whole part rest e old mid new g r.yields;
      keeps = keeps_more old mid new g.keeps r.keeps;
      can = tt;
    })

-- the end of such a chain, where a part stopped: what a `?` hands on, as it is or into a place
pub stops : {A B C : Type 0} {whole : Parser B C} {part : Parser B A} (rest : A
    → Parser B C) {e : ParseFault B}
    {old mid new : Position} {result : Result C (ParseFault B)} → Goes whole old (part >>= rest) mid
    → Reads part mid new (Err e) → IsErrAnd result (λ f. f ≡ e) → Reads whole old new result
stops rest g r is = stop _ _ rest _ _ _ _ _ g r is

-- the same of the only part
pub stop_last : {A B : Type 0} (part : Parser B A) (e : ParseFault B) (old new : Position)
    (result : Result A (ParseFault B)) → Reads part old new (Err e) → IsErrAnd result (λ f. f ≡ e)
    → Reads part old new result
stop_last part e old new (Ok c) r is = absurd is
stop_last part e old new (Err f) r is = subst (λ f. Reads part old new (Err f)) (sym is) r

-- nothing is left to read
pub done : {A B : Type 0} (whole : Parser B A) (a b : A) (old new : Position)
    → Goes whole old (pure a) new → CanRead new → b ≡ a → Reads whole old new (Ok b)
done whole a b old new g can e =
    subst (λ x. Reads whole old new (Ok x)) (sym e)
    (record { yields = g.same; keeps = g.keeps; can = can })

-- memory ran out
pub no_memory : {A B : Type 0} (whole rest : Parser B A) (old new : Position) (result : Result A
    (ParseFault B))
    → Goes whole old rest new → IsErrAnd result (λ f. f ≡ F.Memory) → Reads whole old new result
no_memory whole rest old new (Ok a) g is = absurd is
no_memory whole rest old new (Err f) g is =
    subst (λ f. Reads whole old new (Err f)) (sym is)
    (record { yields = tt; keeps = g.keeps; can = tt })

-- the same errors, where the value is left where it was told to
pub filled_err : {A B : Type 0} (a : A) (e : ParseFault B) (r : Result (Unit {0}) (ParseFault B))
    → IsErrAnd r (λ f. f ≡ e) → IsErrAnd (placed a r) (λ f. f ≡ e)
filled_err a e (Ok u) is = absurd is
filled_err a e (Err f) is = is

last_answers : {A B : Type 0} (whole part : Parser B A) (old mid new : Position) (r : Result A
    (ParseFault B))
    → Goes whole old part mid → Yields part mid new r → Yields whole old new r
last_answers whole part old mid new (Ok a) g r =
    same_more (outcome_at whole old) (outcome_at part mid) (outcome_at (pure a) new) g.same r
last_answers whole part old mid new (Err (F.Refused n b)) g r =
    same_then (outcome_at whole old) (outcome_at part mid) (λ o. o ≡ refused n b) g.same r
last_answers whole part old mid new (Err (F.Long n)) g r =
    same_then (outcome_at whole old) (outcome_at part mid) (λ o. o ≡ long n) g.same r
last_answers whole part old mid new (Err F.ReadFault) g r =
    rose_more old.faults mid.faults new.faults g.keeps.later r
last_answers whole part old mid new (Err F.Memory) g r = tt

-- the part that is left
pub last : {A B : Type 0} (whole part : Parser B A) (old mid new : Position) (r : Result A
    (ParseFault B))
    → Goes whole old part mid → Reads part mid new r → Reads whole old new r
last whole part old mid new r g h = record {
  yields = last_answers whole part old mid new r g h.yields;
  keeps = keeps_more old mid new g.keeps h.keeps;
  can = h.can;
}

-- The same comes of two parts: one goes on as the other.

same_by : {A : Type 0} (x y z : Option A) → IfSome x (λ o. y ≡ Some o) → z ≡ y
    → IfSome x (λ o. z ≡ Some o)
same_by None y z p e = tt
same_by (Some a) y z p e = e ∙ p

mapped : {A B : Type 0} (f g : A → B) (x : Option A) → ((a : A) → f a ≡ g a)
    → option_map f x ≡ option_map g x
mapped f g None same = refl
mapped f g (Some a) same = ap (λ b. Some b) (same a)

pub exchange : {A B : Type 0} {whole part : Parser B A} (other : Parser B A) {old mid : Position}
    → Goes whole old part mid → ((n : ℕ) (ps : List PieceBytes) → other n ps ≡ part n ps)
    → Goes whole old other mid
exchange {A = A} {B = B} {whole = whole} {part = part} other {old = old} {mid = mid} g same =
    record {
      same = same_by (outcome_at whole old) (outcome_at part mid) (outcome_at other mid) g.same
          (mapped (other mid.lines.number) (part mid.lines.number) (coming mid)
          (same mid.lines.number));
      keeps = g.keeps;
    }
