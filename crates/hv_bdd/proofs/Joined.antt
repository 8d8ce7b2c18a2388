-- What comes of a node file is a list exactly where the file is the text of this list.
use Rattle.std.proofs.Common.{◌≡◌, ℕ, zero, suc, ◌+◌, ◌<◌, ◌≤◌, ◌^◌, List, [], ◌∷◌, ◌++◌, Option}
use Rattle.std.proofs.Common.{None, Some, Result, Ok, Err, length, map, refl, sym, ◌∙◌, ap, subst}
use Rattle.std.proofs.Common.{Bool, true, false, arith, decimal, cond, nat_le, append_assoc}
use Rattle.std.proofs.Common.{append-nil, length-append}
use Rattle.std.specs.Prelude.{IfOk, IfSome, codes, option_and_then}
use Rattle.std.proofs.lemmas.List.{length-map}
use Rattle.std.proofs.lemmas.Bool.{le-leb, leb-true}
use Rattle.std.proofs.lemmas.List.Elements.{All-head, All-tail}
use Rattle.std.specs.List.{All}
use Rattle.hv_bytes.specs.Fields.{cut_fields}
use Rattle.hv_bytes.specs.Files.{Names, bytes_of}
use Rattle.hv_bytes.specs.Pieces.{PieceBytes, as_pieces, pieces_of}
use Rattle.hv_bytes.specs.declared.cutting.Limits.{Limits}
use Rattle.hv_grammar.specs.Reads.{at_number}
use Rattle.hv_grammar.specs.Working.Reads.{IsReadAs}
use Rattle.hv_grammar.specs.declared.fault.ParseFault.{ParseFault}
use Rattle.hv_grammar.specs.declared.fault.ParseFault.TheVariants as P
use Rattle.hv_bdd.specs.declared.fault.NodesFault.{NodesFault}
use Rattle.hv_grammar.specs.Forms.{at_most, decimal_of, number_behind, or_refused}
use Rattle.hv_grammar.specs.Forms.{rest_behind}
use Rattle.hv_grammar.specs.Parsers.{Outcome, Parser, after, check, end_of_input, iterate, long}
use Rattle.hv_grammar.specs.Parsers.{parsed}
use Rattle.hv_grammar.specs.Parsers.{pure, refused, tested, ◌>>=◌, ◌>>◌}
use Rattle.hv_grammar.proofs.Numerals.{behind_append, behind_some, decimal_of_is, is_decimal_of}
use Rattle.hv_bdd.specs.declared.fault.NodeKind.{NodeKind}
use Rattle.hv_bdd.specs.declared.fault.NodeKind.TheVariants as K
use Rattle.hv_bdd.specs.declared.fault.NodeLimit.TheVariants as W
use Rattle.hv_bdd.specs.declared.fault.NodeRefusal.{NodeRefusal}
use Rattle.hv_bdd.specs.declared.fault.NodeRefusal.TheVariants as R
use Rattle.hv_bdd.specs.declared.first.FirstLine.{FirstLine}
use Rattle.hv_bdd.specs.declared.first.FirstLine.TheVariants as L
use Rattle.hv_bdd.specs.declared.node.Node.{Node}
use Rattle.hv_bdd.specs.Building.{fault_of}
use Rattle.hv_bdd.specs.NodeFile.{as_counted, as_listed, behind_first, count_in, first_in}
use Rattle.hv_bdd.specs.NodeFile.{next_node_line, node_file, node_in, node_of_fields, or_fault}
use Rattle.hv_bdd.specs.NodeFile.{fault_in, nodes_fault, so_many, three_numbers, with_next}
use Rattle.hv_bdd.specs.NodeText.{AreNodeTextOf, IsNodesReadFrom, first_lines, header_line}
use Rattle.hv_bdd.specs.NodeText.{node_line}
use Rattle.hv_bdd.specs.NodeText.{node_lines}
use Rattle.hv_bdd.specs.Nodes.{NodeList}
use Rattle.hv_bdd.specs.Order.{IsOrder}
use Rattle.hv_bdd.specs.OrderLine.{begins_with, order_line, order_of_fields}
use Rattle.hv_bdd.specs.Working.Ordered.{same_order}
use Rattle.hv_bdd.specs.Reduced.{IsReduced}
use Rattle.hv_bdd.specs.Working.Building.{with_node}
use Rattle.hv_bdd.specs.Working.NodeText.{IsBegun, IsHeader, IsTriple, list_over}
use Rattle.hv_bdd.proofs.Built.{bare_reduced, none_reduced, passes_from, reduced_more}
use Rattle.hv_bdd.proofs.Prefixed.{IsShort, are_short, next_good}
use Rattle.hv_bdd.proofs.Ranked.{begins_line, order_is, order_of_line}
use Rattle.hv_bdd.proofs.Tripled.{cut_triple, triple_from}

node_read : (x : Node) → IsShort x → node_of_fields (cut_fields (node_line x)) ≡ Some x
node_read x short =
    ap node_of_fields (cut_triple (node_line x) x
    (record { spelled = refl; atom = short.atom; low = short.low; high = short.high }))
    ∙ rw (decimal_of_is (decimal x.atom) x.atom (record { spelled = refl; short = short.atom }))
    (rw (decimal_of_is (decimal x.low) x.low (record { spelled = refl; short = short.low }))
    (rw (decimal_of_is (decimal x.high) x.high (record {
      spelled = refl;
      short =
          short.high;
    })) refl))

line_taken : (x : Node) → IsShort x → node_in (node_line x) ≡ Ok x
line_taken x short = ap (or_refused (R.Place K.Node)) (node_read x short)

node_taken : (list : NodeList) (x : Node) → fault_of list x ≡ None
    → with_next list x ≡ Ok (with_node list x)
node_taken list x good = ap (or_fault list x) good

nodes_read : (atoms : ℕ) (order : Option (List ℕ)) (front rest : List Node) (n : ℕ)
    → IsReduced (list_over atoms order (front ++ rest)) → All IsShort rest
    → iterate (length rest) next_node_line (list_over atoms order front) n
    (as_pieces (map node_line rest))
    ≡ parsed (list_over atoms order (front ++ rest)) (n + length rest) []
nodes_read atoms order front [] n reduced short =
    let same : n ≡ n + 0 = omega arith in
    ap (λ ns. parsed (list_over atoms order ns) n []) (sym (append-nil front))
    ∙ ap (λ k. parsed (list_over atoms order (front ++ [])) k []) same
nodes_read atoms order front (x ∷ rest) n reduced short =
    let same : (front ++ x ∷ []) ++ rest ≡ front ++ x ∷ rest = append_assoc front (x ∷ []) rest in
    let good = next_good atoms order front rest x reduced in
    let more = nodes_read atoms order (front ++ x ∷ []) rest (n + 1)
    (subst (λ ns. IsReduced (list_over atoms order ns)) (sym same) reduced)
    (All-tail IsShort x rest short) in
    ap (λ r. after
    (after (tested (n + 1) (as_pieces (map node_line rest)) r)
    (check (with_next (list_over atoms order front))))
    (λ l. iterate (length rest) next_node_line l))
    (line_taken x (All-head IsShort x rest short))
    ∙ ap (λ r. after (tested (n + 1) (as_pieces (map node_line rest)) r)
    (λ l. iterate (length rest) next_node_line l)) (node_taken (list_over atoms order front) x good)
    ∙ more
    ∙ ap (λ ns. parsed (list_over atoms order ns) ((n + 1) + length rest) []) same
    ∙ ap (λ k. parsed (list_over atoms order (front ++ x ∷ rest)) k [])
    (let e : (n + 1) + length rest ≡ n + suc (length rest) = omega arith in e)

header_number : (k : ℕ) → k < 10 ^ 18 → number_behind (codes "nodes ") (header_line k) ≡ Some k
header_number k short =
    ap (option_and_then decimal_of) (behind_append (codes "nodes ") (decimal k))
    ∙ decimal_of_is (decimal k) k (record { spelled = refl; short = short })

header_taken : (k : ℕ) → k ≤ 16777216 → count_in (header_line k) ≡ Ok k
header_taken k few =
    ap (at_most 16777216 (R.Place K.Header) (R.Limit W.Nodes)) (header_number k (omega arith))
    ∙ rw (le-leb k 16777216 few) refl

abbrev at_end : NodeList → Parser NodeRefusal NodeList
at_end list = end_of_input (R.Place K.End) >> pure list

first_counted : (atoms k : ℕ) → k ≤ 16777216 → first_in atoms (header_line k) ≡ Ok (L.Counted k)
first_counted atoms k few = ap as_counted (header_taken k few)

first_listed : (atoms : ℕ) (order : List ℕ) → atoms < 10 ^ 18
    → IsOrder (list_over atoms (Some order) [])
    → first_in atoms (order_line order) ≡ Ok (L.Listed order)
first_listed atoms order small is =
    ap (λ t. cond t (as_listed (order_of_fields atoms (cut_fields (order_line order))))
    (as_counted (count_in (order_line order)))) (begins_line order)
    ∙ ap as_listed (order_of_line atoms order small is)

text_by : (atoms : ℕ) (order : Option (List ℕ)) (nodes : List Node) → atoms < 10 ^ 18
    → IsReduced (list_over atoms order nodes)
    → node_file atoms 0 (as_pieces (node_lines (list_over atoms order nodes)))
    ≡ parsed (list_over atoms order nodes)
    (length (as_pieces (node_lines (list_over atoms order nodes)))) []
text_by atoms None nodes small reduced =
    let ps = as_pieces (map node_line nodes) in
    let size = length-map (map node_line nodes) (λ (l : List ℕ). Some l) in
    let count = length-map nodes node_line in
    let read = nodes_read atoms None [] nodes 1 reduced
    (are_short atoms None nodes small reduced) in
    ap (λ t. after (tested 1 ps t) (λ first. behind_first atoms first >>= at_end))
    (first_counted atoms (length nodes) reduced.few)
    ∙ ap (λ o. after o at_end) read
    ∙ ap (λ k. parsed (list_over atoms None nodes) k [])
    (let e : 1 + length nodes ≡ suc (length ps) = omega arith in e)
text_by atoms (Some order) nodes small reduced =
    let ps = as_pieces (map node_line nodes) in
    let size = length-map (map node_line nodes) (λ (l : List ℕ). Some l) in
    let count = length-map nodes node_line in
    let is = same_order atoms (Some order) nodes [] reduced.ordered in
    let read = nodes_read atoms (Some order) [] nodes 2 reduced
    (are_short atoms (Some order) nodes small reduced) in
    ap (λ t. after (tested 1 (Some (header_line (length nodes)) ∷ ps) t)
    (λ first. behind_first atoms first >>= at_end)) (first_listed atoms order small is)
    ∙ ap (λ t. after (after (tested 2 ps t) (so_many (list_over atoms (Some order) []))) at_end)
    (header_taken (length nodes) reduced.few)
    ∙ ap (λ o. after o at_end) read
    ∙ ap (λ k. parsed (list_over atoms (Some order) nodes) k [])
    (let e : 2 + length nodes ≡ suc (suc (length ps)) = omega arith in e)

-- a text of a list is read as this list
pub text_is_read : (atoms : ℕ) (pieces : List PieceBytes) (list : NodeList) → atoms < 10 ^ 18
    → AreNodeTextOf atoms pieces list → node_file atoms 0 pieces ≡ parsed list (length pieces) []
text_is_read atoms pieces list small (over, text) =
    subst (λ ps. node_file atoms 0 ps ≡ parsed list (length ps) []) text.spelled
    (subst (λ n. node_file n 0 (as_pieces (node_lines list))
    ≡ parsed list (length (as_pieces (node_lines list))) []) over
    (text_by list.atoms list.order list.nodes
    (subst (λ n. n < 10 ^ 18) (sym over) small) text.reduced))

-- And back: what comes of a file is the list of which it is the text.

three_parts : (p q r : Option ℕ) (x : Node) → three_numbers p q r ≡ Some x
    → (p ≡ Some x.atom) × (q ≡ Some x.low) × (r ≡ Some x.high)
three_parts None q r x e = absurd cc
three_parts (Some a) None r x e = absurd cc
three_parts (Some a) (Some b) None x e = absurd cc
three_parts (Some a) (Some b) (Some c) x e =
    let same : record { atom = a; low = b; high = c } ≡ x = cc in (
      ap (λ (y : Node). Some y.atom) same,
      ap (λ (y : Node). Some y.low) same,
      ap (λ (y : Node). Some y.high) same,
    )

triple_read : (l : List ℕ) (fs : List (List ℕ)) (x : Node) → cut_fields l ≡ fs
    → node_of_fields fs ≡ Some x → IsTriple l x
triple_read l [] x c e = absurd cc
triple_read l (a ∷ []) x c e = absurd cc
triple_read l (a ∷ b ∷ []) x c e = absurd cc
triple_read l (a ∷ b ∷ d ∷ []) x c e =
    let w = three_parts (decimal_of a) (decimal_of b) (decimal_of d) x e in
    triple_from l a b d x.atom x.low x.high c (is_decimal_of a x.atom w.0)
    (is_decimal_of b x.low w.1) (is_decimal_of d x.high w.2)
triple_read l (a ∷ b ∷ d ∷ f ∷ fs) x c e = absurd cc

-- so many nodes were read behind the first ones
record NodesRead
    (atoms : ℕ) (order : Option (List ℕ)) (k : ℕ) (front : List Node) (ps : List PieceBytes)
    (list : NodeList) (qs : List PieceBytes) (rest : List Node) : Type 0
  where
    pub list_is : list ≡ list_over atoms order (front ++ rest)
    pub size : length rest ≡ k
    pub reduced : IsReduced list
    pub pieces : ps ≡ as_pieces (map node_line rest) ++ qs

same_got : (a b : NodeList) (n m : ℕ) (ps qs : List PieceBytes)
    → ◌≡◌ {A = Outcome NodeRefusal NodeList} (parsed a n ps) (parsed b m qs) → (a ≡ b) × (ps ≡ qs)
same_got a b n m ps qs e = (cc, cc)

-- the same of any first nodes
abbrev Reads : ℕ → Option (List ℕ) → ℕ → Type 0
Reads atoms order k =
    (front : List Node) (n m : ℕ) (ps qs : List PieceBytes) (list : NodeList)
    → IsReduced (list_over atoms order front) → length front + k ≤ 16777216
    → iterate k next_node_line (list_over atoms order front) n ps ≡ parsed list m qs
    → (rest : List Node) × NodesRead atoms order k front ps list qs rest

good_node : (list : NodeList) (x : Node) (f : Option NodeKind) (n : ℕ) (ps : List PieceBytes)
    (k m : ℕ) (qs : List PieceBytes) (new : NodeList)
    → after (tested n ps (or_fault list x f)) (λ b. iterate k next_node_line b) ≡ parsed new m qs
    → (f ≡ None) × (iterate k next_node_line (with_node list x) n ps ≡ parsed new m qs)
good_node list x None n ps k m qs new e = (refl, e)
good_node list x (Some kind) n ps k m qs new e = absurd cc

turn_is : (atoms : ℕ) (order : Option (List ℕ)) (k : ℕ) → Reads atoms order k
    → (front : List Node) (n m : ℕ) (l : List ℕ) (ps qs : List PieceBytes) (list : NodeList)
    (o : Option Node)
    → IsReduced (list_over atoms order front) → length front + suc k ≤ 16777216
    → node_of_fields (cut_fields l) ≡ o
    → after
    (after (tested (n + 1) ps (or_refused (R.Place K.Node) o)) (check (with_next
    (list_over atoms order front))))
    (λ b. iterate k next_node_line b) ≡ parsed list m qs
    → (rest : List Node) × NodesRead atoms order (suc k) front (Some l ∷ ps) list qs rest
turn_is atoms order k ih front n m l ps qs list None reduced few t e = absurd cc
turn_is atoms order k ih front n m l ps qs list (Some x) reduced few t e =
    let old = list_over atoms order front in
    let w = good_node old x (fault_of old x) (n + 1) ps k m qs list e in
    let triple = triple_read l (cut_fields l) x refl t in
    let size : length (front ++ x ∷ []) ≡ length front + 1 = length-append front (x ∷ []) in
    let more = reduced_more (list_over atoms order front) x reduced
    (passes_from (list_over atoms order front) x w.0) (omega arith) in
    let r = ih (front ++ x ∷ []) (n + 1) m ps qs list more (omega arith) w.1 in
    let others = r.1.size in
    let same = r.1.pieces in (
      x ∷ r.0,
      record {
        list_is = r.1.list_is ∙ ap (list_over atoms order) (append_assoc front (x ∷ []) r.0);
        size = ap suc others;
        reduced = r.1.reduced;
        pieces = ap (λ z. Some z ∷ ps) triple.spelled ∙ ap (λ z. Some (node_line x) ∷ z) same;
      },
    )

nodes_are : (atoms : ℕ) (order : Option (List ℕ)) (k : ℕ) → Reads atoms order k
nodes_are atoms order zero front n m ps qs list reduced few e =
    let w = same_got (list_over atoms order front) list n m ps qs e in (
      [],
      record {
        list_is = sym w.0 ∙ ap (list_over atoms order) (sym (append-nil front));
        size = refl;
        reduced = subst IsReduced w.0 reduced;
        pieces = w.1;
      },
    )
nodes_are atoms order (suc k) front n m [] qs list reduced few e = absurd cc
nodes_are atoms order (suc k) front n m (None ∷ ps) qs list reduced few e = absurd cc
nodes_are atoms order (suc k) front n m (Some l ∷ ps) qs list reduced few e =
    turn_is atoms order k (nodes_are atoms order k) front n m l ps qs list
    (node_of_fields (cut_fields l)) reduced few refl e

nothing_behind : (o : Outcome NodeRefusal NodeList) (list : NodeList) (n : ℕ) (rest : List
    PieceBytes)
    → after o (λ l. end_of_input (R.Place K.End) >> pure l) ≡ parsed list n rest
    → (m : ℕ) × (o ≡ parsed list m [])
nothing_behind (parsed a m []) list n rest e =
    let w = same_got a list m n [] rest e in (m, ap (λ l. parsed l m []) w.0)
nothing_behind (parsed a m (None ∷ qs)) list n rest e = absurd cc
nothing_behind (parsed a m (Some l ∷ qs)) list n rest e = absurd cc
nothing_behind (refused m b) list n rest e = absurd cc
nothing_behind (long m) list n rest e = absurd cc

within_is : (n : ℕ) (t : Bool) (k : ℕ) → nat_le n 16777216 ≡ t
    → ◌≡◌ {A = Result ℕ NodeRefusal} (cond t (Ok n) (Err (R.Limit W.Nodes))) (Ok k)
    → (n ≡ k) × (k ≤ 16777216)
within_is n true k t e =
    let same : n ≡ k = cc in (same, subst (λ j. j ≤ 16777216) same (leb-true n 16777216 t))
within_is n false k t e = absurd cc

header_from : (l : List ℕ) (o : Option (List ℕ)) (k : ℕ) → rest_behind (codes "nodes ") l ≡ o
    → option_and_then decimal_of o ≡ Some k → IsHeader l k
header_from l None k c e = absurd cc
header_from l (Some rest) k c e =
    let d = is_decimal_of rest k e in
    record {
      spelled = behind_some (codes "nodes ") l rest c ∙ ap (λ x. codes "nodes " ++ x) d.spelled;
      short = d.short;
    }

count_is : (l : List ℕ) (o : Option ℕ) (k : ℕ) → number_behind (codes "nodes ") l ≡ o
    → at_most 16777216 (R.Place K.Header) (R.Limit W.Nodes) o ≡ Ok k
    → IsHeader l k × (k ≤ 16777216)
count_is l None k c e = absurd cc
count_is l (Some n) k c e =
    let w = within_is n (nat_le n 16777216) k refl e in
    (header_from l (rest_behind (codes "nodes ") l) k refl (c ∙ ap (λ j. Some j) w.0), w.1)

-- what the nodes of a file are, behind the lines before them
record ListedNodes (atoms : ℕ) (order : Option (List ℕ)) (k : ℕ) (ps : List PieceBytes) (list :
    NodeList)
    : Type 0
  where
    pub atoms_are : list.atoms ≡ atoms
    pub order_is : list.order ≡ order
    pub size : length list.nodes ≡ k
    pub reduced : IsReduced list
    pub pieces : ps ≡ as_pieces (map node_line list.nodes)

nodes_listed : (atoms : ℕ) (order : Option (List ℕ)) (k n : ℕ) (ps : List PieceBytes) (list :
    NodeList)
    (m : ℕ) (rest : List PieceBytes) → IsReduced (list_over atoms order []) → k ≤ 16777216
    → after (iterate k next_node_line (list_over atoms order []) n ps) at_end ≡ parsed list m rest
    → ListedNodes atoms order k ps list
nodes_listed atoms order k n ps list m rest none few e =
    let o = nothing_behind (iterate k next_node_line (list_over atoms order []) n ps) list m rest e
    in
    let w = nodes_are atoms order k [] n o.0 ps [] list none (omega arith) o.1 in
    let nodes = ap (λ (x : NodeList). x.nodes) w.1.list_is in
    record {
      atoms_are = ap (λ (x : NodeList). x.atoms) w.1.list_is;
      order_is = ap (λ (x : NodeList). x.order) w.1.list_is;
      size = ap length nodes ∙ w.1.size;
      reduced = w.1.reduced;
      pieces = w.1.pieces ∙ append-nil (as_pieces (map node_line w.0))
          ∙ ap (λ ns. as_pieces (map node_line ns)) (sym nodes);
    }

-- what a first line says
counted_is : (t : Bool) (o : Option (List ℕ)) (c : Result ℕ NodeRefusal) (k : ℕ)
    → cond t (as_listed o) (as_counted c) ≡ Ok (L.Counted k) → c ≡ Ok k
counted_is true None c k e = absurd cc
counted_is true (Some order) c k e = absurd cc
counted_is false o (Ok j) k e = cc
counted_is false o (Err b) k e = absurd cc

listed_is : (t : Bool) (o : Option (List ℕ)) (c : Result ℕ NodeRefusal) (order : List ℕ)
    → cond t (as_listed o) (as_counted c) ≡ Ok (L.Listed order) → o ≡ Some order
listed_is true None c order e = absurd cc
listed_is true (Some other) c order e = cc
listed_is false o (Ok j) order e = absurd cc
listed_is false o (Err b) order e = absurd cc

module _ (atoms : ℕ) (l : List ℕ) where
  count_said : (k : ℕ) → first_in atoms l ≡ Ok (L.Counted k) → IsHeader l k × (k ≤ 16777216)
  count_said k e =
      count_is l (number_behind (codes "nodes ") l) k refl
      (counted_is (begins_with (codes "order") l) (order_of_fields atoms (cut_fields l))
      (count_in l) k e)

  order_said : (order : List ℕ) → first_in atoms l ≡ Ok (L.Listed order)
      → (l ≡ order_line order) × IsOrder (list_over atoms (Some order) [])
  order_said order e =
      order_is atoms l order
      (listed_is (begins_with (codes "order") l) (order_of_fields atoms (cut_fields l))
      (count_in l) order e)

  -- so it says an order, or a number that a file may have
  begun : (first : FirstLine) → first_in atoms l ≡ Ok first → IsBegun atoms first
  begun (L.Counted k) e = (count_said k e).1
  begun (L.Listed order) e = (order_said order e).1

  pub begun_by : (n : ℕ) (said : Result FirstLine NodeRefusal)
      (result : Result FirstLine (ParseFault NodeRefusal)) → said ≡ first_in atoms l
      → result ≡ at_number n said → IfOk result (IsBegun atoms)
  begun_by n (Ok first) (Ok found) is e =
      begun found (sym is ∙ ap (λ (f : FirstLine). Ok f) (let same : first ≡ found = cc in same))
  begun_by n (Ok first) (Err fault) is e = tt
  begun_by n (Err b) (Ok found) is e = absurd cc
  begun_by n (Err b) (Err fault) is e = tt

counted_text : (atoms : ℕ) (l : List ℕ) (ps : List PieceBytes) (list : NodeList) (n k : ℕ)
    (rest : List PieceBytes) → IsHeader l k × (k ≤ 16777216)
    → after (iterate k next_node_line (list_over atoms None []) 1 ps) at_end ≡ parsed list n rest
    → AreNodeTextOf atoms (Some l ∷ ps) list
counted_text atoms l ps list n k rest h e =
    let w = nodes_listed atoms None k 1 ps list n rest (none_reduced atoms) h.1 e in (
      w.atoms_are,
      record {
        reduced = w.reduced;
        spelled = ap (λ o. as_pieces (first_lines o ++ header_line (length list.nodes)
            ∷ map node_line list.nodes)) w.order_is
            ∙ ap (λ j. Some (header_line j) ∷ as_pieces (map node_line list.nodes)) w.size
            ∙ ap (λ z. Some z ∷ as_pieces (map node_line list.nodes)) (sym h.0.spelled)
            ∙ ap (λ z. Some l ∷ z) (sym w.pieces);
      },
    )

listed_text : (atoms : ℕ) (l : List ℕ) (order : List ℕ) (ps : List PieceBytes) (list : NodeList)
    (n : ℕ) (rest : List PieceBytes) (h : List ℕ) (t : Result ℕ NodeRefusal)
    → (l ≡ order_line order) × IsOrder (list_over atoms (Some order) []) → count_in h ≡ t
    → after (after (tested 2 ps t) (so_many (list_over atoms (Some order) []))) at_end
    ≡ parsed list n rest
    → AreNodeTextOf atoms (Some l ∷ Some h ∷ ps) list
listed_text atoms l order ps list n rest h (Err b) is t e = absurd cc
listed_text atoms l order ps list n rest h (Ok k) is t e =
    let c = count_is h (number_behind (codes "nodes ") h) k refl t in
    let w = nodes_listed atoms (Some order) k 2 ps list n rest
    (bare_reduced atoms (Some order) is.1) c.1 e in (
      w.atoms_are,
      record {
        reduced = w.reduced;
        spelled = ap (λ o. as_pieces (first_lines o ++ header_line (length list.nodes)
            ∷ map node_line list.nodes)) w.order_is
            ∙ ap (λ j. Some (order_line order) ∷ Some (header_line j)
            ∷ as_pieces (map node_line list.nodes)) w.size
            ∙ ap (λ z. Some (order_line order) ∷ Some z ∷ as_pieces (map node_line list.nodes))
            (sym c.0.spelled)
            ∙ ap (λ z. Some z ∷ Some h ∷ as_pieces (map node_line list.nodes)) (sym is.0)
            ∙ ap (λ z. Some l ∷ Some h ∷ z) (sym w.pieces);
      },
    )

order_text : (atoms : ℕ) (l : List ℕ) (order : List ℕ) (ps : List PieceBytes) (list : NodeList)
    (n : ℕ) (rest : List PieceBytes)
    → (l ≡ order_line order) × IsOrder (list_over atoms (Some order) [])
    → after (behind_first atoms (L.Listed order) 1 ps) at_end ≡ parsed list n rest
    → AreNodeTextOf atoms (Some l ∷ ps) list
order_text atoms l order [] list n rest is e = absurd cc
order_text atoms l order (None ∷ ps) list n rest is e = absurd cc
order_text atoms l order (Some h ∷ ps) list n rest is e =
    listed_text atoms l order ps list n rest h (count_in h) is refl e

file_is : (atoms : ℕ) (l : List ℕ) (ps : List PieceBytes) (list : NodeList) (n : ℕ) (rest : List
    PieceBytes)
    (t : Result FirstLine NodeRefusal) → first_in atoms l ≡ t
    → after (tested 1 ps t) (λ first. behind_first atoms first >>= at_end) ≡ parsed list n rest
    → AreNodeTextOf atoms (Some l ∷ ps) list
file_is atoms l ps list n rest (Err b) t e = absurd cc
file_is atoms l ps list n rest (Ok (L.Counted k)) t e =
    counted_text atoms l ps list n k rest (count_said atoms l k t) e
file_is atoms l ps list n rest (Ok (L.Listed order)) t e =
    order_text atoms l order ps list n rest (order_said atoms l order t) e

pub read_is_text : (atoms : ℕ) (pieces : List PieceBytes) (list : NodeList) (n : ℕ) (rest : List
    PieceBytes)
    → node_file atoms 0 pieces ≡ parsed list n rest → AreNodeTextOf atoms pieces list
read_is_text atoms [] list n rest e = absurd cc
read_is_text atoms (None ∷ ps) list n rest e = absurd cc
read_is_text atoms (Some l ∷ ps) list n rest e =
    file_is atoms l ps list n rest (first_in atoms l) refl e

-- What is answered, by what comes of the whole file.

pub answers_list : (files : Option Names) (name : List ℕ) (limits : Limits) (atoms : ℕ)
    (list : NodeList)
    → IfSome files (λ f. IsReadAs (node_file atoms 0 (pieces_of limits (bytes_of f name)))
    (Ok list))
    → IfSome files (λ f. IsNodesReadFrom limits atoms (bytes_of f name) (Ok list))
answers_list None name limits atoms list h = tt
answers_list (Some f) name limits atoms list h =
    read_is_text atoms (pieces_of limits (bytes_of f name)) list h.0 h.1 h.2

fault_is : (limits : Limits) (atoms : ℕ) (bytes : List ℕ) (e : ParseFault NodeRefusal)
    → IsReadAs (node_file atoms 0 (pieces_of limits bytes)) (Err e)
    → IsNodesReadFrom limits atoms bytes (Err (nodes_fault e))
fault_is limits atoms bytes (P.Refused n (R.Place kind)) h = ap fault_in h
fault_is limits atoms bytes (P.Refused n (R.Limit limit)) h = ap fault_in h
fault_is limits atoms bytes (P.Long n) h = ap fault_in h
fault_is limits atoms bytes P.ReadFault h = tt
fault_is limits atoms bytes P.Memory h = tt

pub answers_fault : (files : Option Names) (name : List ℕ) (limits : Limits) (atoms : ℕ)
    (e : ParseFault NodeRefusal) (answer : NodesFault) → answer ≡ nodes_fault e
    → IfSome files (λ f. IsReadAs (node_file atoms 0 (pieces_of limits (bytes_of f name))) (Err e))
    → IfSome files (λ f. IsNodesReadFrom limits atoms (bytes_of f name) (Err answer))
answers_fault None name limits atoms e answer is h = tt
answers_fault (Some f) name limits atoms e answer is h =
    subst (λ a. IsNodesReadFrom limits atoms (bytes_of f name) (Err a)) (sym is)
    (fault_is limits atoms (bytes_of f name) e h)
