-- The lines of a node file: a line with three decimals has three fields, and these are the
-- decimals.
use Rattle.std.proofs.Common.{◌≡◌, ℕ, ◌∙◌, ◌++◌, List, [], ◌∷◌, eqb, refl, sym, ap, decimal}
use Rattle.std.specs.List.{join_with_byte}
use Rattle.std.proofs.lemmas.List.Splits.{join_with_byte-slice_split, slice_split_at}
use Rattle.std.proofs.lemmas.List.Splits.{slice_split_none}
use Rattle.hv_bytes.specs.Decimals.{IsDecimal}
use Rattle.hv_bytes.specs.Fields.{cut_fields}
use Rattle.hv_bytes.proofs.DecimalTexts.{no_space}
use Rattle.hv_bdd.specs.declared.node.Node.{Node}
use Rattle.hv_bdd.specs.Working.NodeText.{IsTriple}

module _ (line : List ℕ) where
  pub cut_triple : (node : Node) → IsTriple line node
      → cut_fields line ≡ decimal node.atom ∷ decimal node.low ∷ decimal node.high ∷ []
  cut_triple node is =
      ap cut_fields is.spelled
      ∙ (slice_split_at (λ b. eqb b 32) (decimal node.atom) 32
      (decimal node.low ++ 32 ∷ decimal node.high) (no_space node.atom is.atom) refl
      ∙ ap (λ fs. decimal node.atom ∷ fs)
      (slice_split_at (λ b. eqb b 32) (decimal node.low) 32 (decimal node.high)
      (no_space node.low is.low) refl
      ∙ ap (λ fs. decimal node.low ∷ fs)
      (slice_split_none (λ b. eqb b 32) (decimal node.high) (no_space node.high is.high))))

  pub triple_from : (a b c : List ℕ) (x y z : ℕ) → cut_fields line ≡ a ∷ b ∷ c ∷ [] → IsDecimal a x
      → IsDecimal b y → IsDecimal c z
      → IsTriple line (record { atom = x; low = y; high = z })
  triple_from a b c x y z fields da db dc =
      let ea = da.spelled in
      let eb = db.spelled in
      let ec = dc.spelled in
      let same : a ∷ b ∷ c ∷ [] ≡ decimal x ∷ decimal y ∷ decimal z ∷ [] = cc in
      record {
        spelled = sym (join_with_byte-slice_split 32 line) ∙ ap (join_with_byte 32) (fields ∙ same);
        atom = da.short;
        low = db.short;
        high = dc.short;
      }

pub same_node : (n m : Node) → n.atom ≡ m.atom → n.low ≡ m.low → n.high ≡ m.high → n ≡ m
same_node n m a b c =
    ap (λ x. record { atom = x; low = n.low; high = n.high }) a
    ∙ (ap (λ x. record { atom = m.atom; low = x; high = n.high }) b ∙ ap (λ x.
    record { atom = m.atom; low = m.low; high = x }) c)
