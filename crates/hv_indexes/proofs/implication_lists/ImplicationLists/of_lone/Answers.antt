use Rattle.std.proofs.Common.{ℕ, List, [], ◌∷◌, ap, sym, subst}
use Rattle.hv_indexes.specs.Implied.{ImpliesNumber, literal_number}
use Rattle.hv_indexes.specs.Rows.{AreRows}
use Rattle.hv_indexes.proofs.Alone.{clauses, lone_implied, own_head}
use Rattle.hv_indexes.proofs.implication_lists.ImplicationLists.of_lone.Goals as goal

pub returns : goal.returns
returns c =
    let literal = c.args.literal in
    subst (λ (numbers : List ℕ). AreRows (ImpliesNumber (clauses literal))
    (own_head c.number_of.result ∷ []) numbers) (ap (λ n. n ∷ []) (sym c.number_of-2.ensures))
    (subst (λ (key : ℕ). AreRows (ImpliesNumber (clauses literal)) (own_head key ∷ [])
    (literal_number literal ∷ [])) (sym c.number_of.ensures) (lone_implied literal c.requires))
