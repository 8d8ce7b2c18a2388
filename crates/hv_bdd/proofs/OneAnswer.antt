-- One answer to the pieces of a node file: the list is one, a list and a fault exclude each other,
-- and the first fault is one.
use Rattle.std.proofs.Common.{◌≡◌, ℕ, ◌<◌, ◌^◌, ◌∙◌, List, Option, None, Some, [], length}
use Rattle.std.proofs.Common.{sym, ap}
use Rattle.hv_bytes.specs.Pieces.{PieceBytes}
use Rattle.hv_grammar.specs.Parsers.{Outcome, parsed}
use Rattle.hv_bdd.specs.declared.fault.NodeRefusal.{NodeRefusal}
use Rattle.hv_bdd.specs.declared.fault.NodesFault.{NodesFault}
use Rattle.hv_bdd.specs.NodeFile.{fault_in}
use Rattle.hv_bdd.specs.NodeText.{AreNodeTextOf, HasNodesFault}
use Rattle.hv_bdd.specs.Nodes.{NodeList}
use Rattle.hv_bdd.proofs.Joined.{text_is_read}

same_list : (a b : NodeList) (n m : ℕ) (ps qs : List PieceBytes)
    → ◌≡◌ {A = Outcome NodeRefusal NodeList} (parsed a n ps) (parsed b m qs) → a ≡ b
same_list a b n m ps qs e = cc

same_fault : (f g : NodesFault) → ◌≡◌ {A = Option NodesFault} (Some f) (Some g) → f ≡ g
same_fault f g e = cc

no_fault : (f : NodesFault) → ◌≡◌ {A = Option NodesFault} None (Some f) → ⊥
no_fault f e = absurd cc

module _ (atoms : ℕ) (small : atoms < 10 ^ 18) (pieces : List PieceBytes) where
  pub one_list : (s t : NodeList) → AreNodeTextOf atoms pieces s → AreNodeTextOf atoms pieces t → s
      ≡ t
  one_list s t p q =
      same_list s t (length pieces) (length pieces) [] []
      (sym (text_is_read atoms pieces s small p) ∙ text_is_read atoms pieces t small q)

  pub text_or_fault : (list : NodeList) (fault : NodesFault) → AreNodeTextOf atoms pieces list
      → HasNodesFault atoms pieces fault → ⊥
  text_or_fault list fault p q =
      no_fault fault (sym (ap fault_in (text_is_read atoms pieces list small p)) ∙ q)

pub one_fault : (atoms : ℕ) (small : atoms < 10 ^ 18) (pieces : List PieceBytes) (f g : NodesFault)
    → HasNodesFault atoms pieces f → HasNodesFault atoms pieces g → f ≡ g
one_fault atoms small pieces f g p q = same_fault f g (sym p ∙ q)
