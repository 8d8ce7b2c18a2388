-- Nodes that are tested later than they are read.
use Rattle.std.proofs.Common.{◌≡◌, ℕ, suc, ◌+◌, ◌∙◌, ◌++◌, ◌⊎◌, inl, inr, List, [], ◌∷◌, Option}
use Rattle.std.proofs.Common.{None, Some, Ok, Err, length, length-append, map, refl, ap, sym, subst}
use Rattle.std.proofs.Common.{arith}
use Rattle.std.proofs.lemmas.List.{length-map, map-append}
use Rattle.std.specs.Prelude.{IfOk, IsErrAnd, Result}
use Rattle.hv_bytes.specs.Pieces.{PieceBytes}
use Rattle.hv_grammar.specs.Parsers.{Parser, after, check, iterate, line, parsed, refused, tested}
use Rattle.hv_grammar.specs.Positions.{KeepsShelf, Position}
use Rattle.hv_grammar.specs.Reads.{Reads}
use Rattle.hv_grammar.specs.declared.fault.ParseFault.{ParseFault}
use Rattle.hv_grammar.specs.declared.fault.ParseFault.TheVariants as P
use Rattle.hv_grammar.proofs.Going.{Goes, exchange, moves, ran_out, refuses, start, stops}
use Rattle.hv_bdd.specs.declared.fault.NodeKind.{NodeKind}
use Rattle.hv_bdd.specs.declared.fault.NodeKind.TheVariants as K
use Rattle.hv_bdd.specs.declared.fault.NodeRefusal.{NodeRefusal}
use Rattle.hv_bdd.specs.declared.fault.NodeRefusal.TheVariants as R
use Rattle.hv_bdd.specs.declared.node.Node.{Node}
use Rattle.hv_bdd.specs.Building.{fault_of}
use Rattle.hv_bdd.specs.NodeFile.{next_node_line, node_in, or_fault, with_next}
use Rattle.hv_bdd.specs.Nodes.{NodeList}
use Rattle.hv_bdd.specs.Working.Listing.{FailsTried, Tried, at_node_line, behind_tried, then_listed}
use Rattle.hv_bdd.specs.Working.Building.{as_node, with_node}
use Rattle.hv_bdd.specs.Working.Listing.{Finishes, next_line_of, read_count, tried, tried_by}
use Rattle.hv_bdd.specs.declared.node_listing.NodeListing.{NodeListing}
use Rattle.hv_bdd.specs.declared.numbers.Triple.{Triple}

-- a refusal stays one
tried_failed : (e : ℕ × NodeRefusal) (xs : List Node) → tried (Err e) xs ≡ Err e
tried_failed e [] = refl
tried_failed e (x ∷ xs) = tried_failed e xs

-- one node more
pub tried_more : (so_far : Tried) (xs : List Node) (x : Node)
    → tried so_far (xs ++ x ∷ []) ≡ then_listed (tried so_far xs) x
tried_more so_far [] x = refl
tried_more so_far (y ∷ xs) x = tried_more (then_listed so_far y) xs x

-- all nodes are in the list
pub record Grew (list : NodeList) (xs : List Node) (new : NodeList) : Type 0 where
  pub size : length new.nodes ≡ length list.nodes + length xs
  pub atoms : new.atoms ≡ list.atoms
  pub order : new.order ≡ list.order

not_failed : (so_far : Tried) (e : ℕ × NodeRefusal) (new : NodeList) → so_far ≡ Err e
    → so_far ≡ Ok new → ⊥
not_failed so_far e new a b = absurd cc

grew_by : (list : NodeList) (x : Node) (xs : List Node) (new : NodeList) (f : Option NodeKind)
    → ((more : NodeList) → tried (Ok more) xs ≡ Ok new → Grew more xs new)
    → tried (at_node_line (next_line_of list) (or_fault list x f)) xs ≡ Ok new
    → Grew list (x ∷ xs) new
grew_by list x xs new None rest e =
    let g = rest (with_node list x) e in
    let size = g.size in
    record {
      size = omega (arith, size, length-append list.nodes (x ∷ []));
      atoms = g.atoms;
      order = g.order;
    }
grew_by list x xs new (Some kind) rest e =
    absurd (not_failed (tried (Err (next_line_of list, R.Place kind)) xs)
    (next_line_of list, R.Place kind) new
    (tried_failed (next_line_of list, R.Place kind) xs) e)

pub tried_grew : (list : NodeList) (xs : List Node) (new : NodeList)
    → tried (Ok list) xs ≡ Ok new → Grew list xs new
tried_grew list [] new e =
    let same : list ≡ new = cc in
    let size = ap (λ (l : NodeList). length l.nodes) same in
    record {
      size = omega (arith, size);
      atoms = sym (ap (λ (l : NodeList). l.atoms) same);
      order = sym (ap (λ (l : NodeList). l.order) same);
    }
tried_grew list (x ∷ xs) new e =
    grew_by list x xs new (fault_of list x) (λ more. tried_grew more xs new) e

-- what is listed next, and what isn't
pub tried_next : (list new : NodeList) (x : Node) (xs : List Node) → fault_of list x ≡ None
    → new ≡ with_node list x → tried (Ok list) (x ∷ xs) ≡ tried (Ok new) xs
tried_next list new x xs good is =
    ap (λ f. tried (at_node_line (next_line_of list) (or_fault list x f)) xs) good
    ∙ ap (λ (l : NodeList). tried (Ok l) xs) (sym is)

pub tried_bad : (list : NodeList) (x : Node) (xs : List Node) (kind : NodeKind)
    → fault_of list x ≡ Some kind
    → tried (Ok list) (x ∷ xs) ≡ Err (next_line_of list, R.Place kind)
tried_bad list x xs kind bad =
    ap (λ f. tried (at_node_line (next_line_of list) (or_fault list x f)) xs) bad
    ∙ tried_failed (next_line_of list, R.Place kind) xs

-- as many nodes as were read
pub listed_total : (r : NodeListing) (list : NodeList) → tried_by r ≡ Ok list
    → length list.nodes ≡ read_count r
listed_total r list e =
    let size = (tried_grew r.list (map as_node r.waiting.items) list e).size in
    omega (arith, size, length-map r.waiting.items as_node)

-- in the same order
pub listed_order : (r : NodeListing) (list : NodeList) → tried_by r ≡ Ok list
    → list.order ≡ r.list.order
listed_order r list e = (tried_grew r.list (map as_node r.waiting.items) list e).order

-- none waits
pub none_waits : (list : NodeList) (waiting : List Triple) → waiting ≡ []
    → tried (Ok list) (map as_node waiting) ≡ Ok list
none_waits list waiting e = ap (λ (ts : List Triple). tried (Ok list) (map as_node ts)) e

-- one more node waits
pub one_waits : (list : NodeList) (waiting more : List Triple) (t : Triple)
    → more ≡ waiting ++ t ∷ []
    → tried (Ok list) (map as_node more)
    ≡ then_listed (tried (Ok list) (map as_node waiting)) (as_node t)
one_waits list waiting more t e =
    ap (λ (ts : List Triple). tried (Ok list) (map as_node ts)) e
    ∙ ap (tried (Ok list)) (map-append as_node waiting (t ∷ []))
    ∙ tried_more (Ok list) (map as_node waiting) (as_node t)

-- one more line was read

checked : (k i m : ℕ) (qs : List PieceBytes) (t : Result NodeList NodeRefusal) → m ≡ i
    → after (tested m qs t) (λ b. iterate k next_node_line b)
    ≡ behind_tried (at_node_line i t) (iterate k next_node_line) m qs
checked k i m qs (Ok list) e = refl
checked k i m qs (Err b) e = ap (λ j. refused j b) e

step : (so_far : Tried) (x : Node) (k n m : ℕ) (ps qs : List PieceBytes)
    → line (R.Place K.Node) node_in n ps ≡ parsed x m qs
    → ((list : NodeList) → so_far ≡ Ok list → m ≡ next_line_of list)
    → behind_tried so_far (iterate (suc k) next_node_line) n ps
    ≡ behind_tried (then_listed so_far x) (iterate k next_node_line) m qs
step (Ok list) x k n m ps qs h number =
    ap (λ o. after (after o (check (with_next list))) (λ b. iterate k next_node_line b)) h
    ∙ checked k (next_line_of list) m qs (with_next list x) (number list refl)
step (Err e) x k n m ps qs h number = refl

module _ {A : Type 0} (whole : Parser NodeRefusal A) (old mid new : Position) where
  -- a node that was read is refused, or memory ran out
  pub fails : (rest : NodeList → Parser NodeRefusal A) (so_far : Tried) (e : ParseFault NodeRefusal)
      (result : Result A (ParseFault NodeRefusal)) → Goes whole old (behind_tried so_far rest) mid
      → KeepsShelf mid new → FailsTried so_far e → IsErrAnd result (λ f. f ≡ e)
      → Reads whole old new result
  fails rest so_far e (Ok a) g keeps f is = absurd is
  fails rest so_far (P.Refused n b) (Err e) g keeps f is =
      subst (λ h. Reads whole old new (Err h)) (sym is)
      (refuses whole (behind_tried so_far rest) n b old mid new g keeps
      (λ ps. ap (λ s. behind_tried s rest mid.lines.number ps) f))
  fails rest so_far (P.Long n) (Err e) g keeps f is = absurd f
  fails rest so_far P.ReadFault (Err e) g keeps f is = absurd f
  fails rest so_far P.Memory (Err e) g keeps f is =
      subst (λ h. Reads whole old new (Err h)) (sym is)
      (ran_out whole (behind_tried so_far rest) old mid new g keeps)

-- all nodes that were read are listed
pub all_listed : {A : Type 0} (whole : Parser NodeRefusal A) (rest : NodeList
    → Parser NodeRefusal A)
    (so_far : Tried) (list : NodeList) (old mid : Position)
    → Goes whole old (behind_tried so_far rest) mid → so_far ≡ Ok list
    → Goes whole old (rest list) mid
all_listed whole rest so_far list old mid g e =
    exchange (rest list) g (λ n ps. sym (ap (λ s. behind_tried s rest n ps) e))

module _ (whole : Parser NodeRefusal NodeList) (old mid new : Position) where
  pub goes_on : (so_far : Tried) (x : Node) (k : ℕ)
      → Goes whole old (behind_tried so_far (iterate (suc k) next_node_line)) mid
      → Reads (line (R.Place K.Node) node_in) mid new (Ok x)
      → ((list : NodeList) → so_far ≡ Ok list → new.lines.number ≡ next_line_of list)
      → Goes whole old (behind_tried (then_listed so_far x) (iterate k next_node_line)) new
  goes_on so_far x k g r number =
      moves whole (behind_tried so_far (iterate (suc k) next_node_line))
      (behind_tried (then_listed so_far x) (iterate k next_node_line))
      (line (R.Place K.Node) node_in) x old mid new g r
      (λ ps qs h. step so_far x k mid.lines.number new.lines.number ps qs h number)

  stops_here : (so_far : Tried) (k : ℕ) (list : NodeList) (e : ParseFault NodeRefusal)
      → Goes whole old (behind_tried so_far (iterate (suc k) next_node_line)) mid
      → Reads (line (R.Place K.Node) node_in) mid new (Err e) → so_far ≡ Ok list
      → Reads whole old new (Err e)
  stops_here so_far k list e g r is =
      stops (λ b. iterate k next_node_line b)
      (all_listed whole (iterate (suc k) next_node_line) so_far list old mid g is)
      (stops (check (with_next list)) (start (next_node_line list) mid) r refl) refl

  -- the line of a node can't be had, or isn't one
  pub node_stops : (so_far : Tried) (k : ℕ) (e f : ParseFault NodeRefusal)
      → Goes whole old (behind_tried so_far (iterate (suc k) next_node_line)) mid
      → Reads (line (R.Place K.Node) node_in) mid new (Err e)
      → FailsTried so_far f ⊎ ((list : NodeList) × (so_far ≡ Ok list) × (f ≡ e))
      → Reads whole old new (Err f)
  node_stops so_far k e f g r (inl bad) =
      fails whole old mid new (iterate (suc k) next_node_line) so_far f (Err f) g r.keeps bad refl
  node_stops so_far k e f g r (inr (list, is, same)) =
      subst (λ h. Reads whole old new (Err h)) (sym same) (stops_here so_far k list e g r is)

-- one more line is expected
pub one_left : (whole : Parser NodeRefusal NodeList) (old mid : Position) (so_far : Tried)
    (k j : ℕ) → Goes whole old (behind_tried so_far (iterate k next_node_line)) mid → k ≡ suc j
    → Goes whole old (behind_tried so_far (iterate (suc j) next_node_line)) mid
one_left whole old mid so_far k j g e =
    subst (λ i. Goes whole old (behind_tried so_far (iterate i next_node_line)) mid) e g

-- the atoms stay those of the list
pub finished_atoms : (r : NodeListing) (result : Result NodeList (ParseFault NodeRefusal)) (atoms :
    ℕ)
    → r.list.atoms ≡ atoms → Finishes result r → IfOk result (λ list. list.atoms ≡ atoms)
finished_atoms r (Ok list) atoms same h =
    (tried_grew r.list (map as_node r.waiting.items) list h).atoms ∙ same
finished_atoms r (Err e) atoms same h = tt
