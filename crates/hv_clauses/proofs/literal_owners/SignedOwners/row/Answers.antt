use Rattle.std.proofs.Common.{◌≡◌, ◌∙◌, ℕ, Bool, List, length, sym, ap, subst}
use Rattle.std.proofs.lemmas.List.{length-map}
use Rattle.hv_clauses.specs.declared.literal_owners.SignedOwners.{SignedOwners}
use Rattle.hv_clauses.specs.Working.Owners.{AreSignedOwners}
use Rattle.hv_clauses.specs.Working.Posed.{ProblemState}
use Rattle.hv_indexes.specs.Rows.{AreHeads, IsPartOf, place_of_code}
use Rattle.hv_clauses.proofs.Owned.{row_has}
use Rattle.hv_clauses.proofs.literal_owners.SignedOwners.row.Goals as goal

size_of : (p : ProblemState) (sign : Bool) (owners : SignedOwners)
    → (are : AreSignedOwners p sign owners) → (places : List ℕ) → places ≡ owners.places.items
    → length are.codes ≡ length places
size_of p sign owners are places same =
    sym (ap length (same ∙ are.places) ∙ length-map are.codes place_of_code)

pub numbers_at-requires : goal.numbers_at-requires
numbers_at-requires c =
    let are = c.requires.2 in (
      are.codes,
      subst (AreHeads are.codes) (sym c.deref.ensures.value) are.heads,
      size_of c.requires.0 c.requires.1 c.args.self.now are c.deref-2.result.now
          c.deref-2.ensures.value,
    )

pub returns : goal.returns
returns c = λ p sign are place owns.
    row_has p sign c.args.self.now are c.args.atom c.numbers_at.result.now
    (subst (λ xs. IsPartOf c.args.atom are.codes xs c.numbers_at.result.now)
    c.deref-2.ensures.value
    (c.numbers_at.ensures are.codes
    (subst (AreHeads are.codes) (sym c.deref.ensures.value) are.heads)
    (size_of p sign c.args.self.now are c.deref-2.result.now c.deref-2.ensures.value)))
    place owns
