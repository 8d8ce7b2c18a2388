use Rattle.std.proofs.Common.{false, ◌<◌, ◌∙◌, ◌∷◌, [], get_or, ap₂, arith, inl, sym}
use Rattle.std.proofs.lemmas.List.Elements.{All-contains, Contains-get_or}
use Rattle.hv_sets.specs.declared.literal.Literal.{Literal}
use Rattle.hv_indexes.proofs.Paired.{two_are}
use Rattle.hv_indexes.proofs.partners.entries_in.Goals as goal

abbrev none : Literal
none = record { atom = 0; positive = false }

pub entry_of-first-requires : goal.entry_of-first-requires
entry_of-first-requires c =
    let clause = c.args.clause.now in
    All-contains (λ (l : Literal). l.atom < 2147483648) clause (get_or clause 0 none) c.requires
    (Contains-get_or clause 0 none (omega (arith, c.if-clause-ne2.false)))

pub entry_of-second-requires : goal.entry_of-second-requires
entry_of-second-requires c =
    let clause = c.args.clause.now in
    All-contains (λ (l : Literal). l.atom < 2147483648) clause (get_or clause 1 none) c.requires
    (Contains-get_or clause 1 none (omega (arith, c.if-clause-ne2.false)))

pub returns : goal.returns
returns c =
    inl (two_are c.args.clause.now none c.if-clause-ne2.false
    ∙ ap₂ (λ (a b : Literal). a ∷ b ∷ []) (sym c.entry_of-first.ensures)
    (sym c.entry_of-second.ensures))
