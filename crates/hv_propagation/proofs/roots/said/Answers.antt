use Rattle.std.proofs.Common.{◌∙◌, sym, ap, arith}
use Rattle.std.proofs.lemmas.List.{get_or_default}
use Rattle.hv_sets.specs.declared.literal.Literal.{Literal}
use Rattle.hv_propagation.proofs.Trailed.{said_at, said_none}
use Rattle.hv_propagation.proofs.roots.said.Goals as goal

pub returns : goal.returns
returns c =
    let less = c.if-place-roots.false in
    sym (said_at c.args.roots.now c.args.atoms c.args.atom c.place_in-place.result _
    c.requires.rises
    c.requires.atom less
    (get_or_default c.args.roots.now c.place_in-place.result _ _ less) c.if-literal-atom.false)

pub returns-then-literal-atom : goal.returns-then-literal-atom
returns-then-literal-atom c =
    let other = c.if-literal-atom.true in
    sym (said_none c.args.roots.now c.args.atoms c.args.atom c.place_in-place.result
    c.requires.rises
    c.place_in-place.ensures
    (λ d less same. other (ap (λ (l : Literal). l.atom)
    (get_or_default c.args.roots.now c.place_in-place.result _ d less) ∙ same)))

pub returns-then-roots-near : goal.returns-then-roots-near
returns-then-roots-near c =
    let less = c.if-near-roots.true in
    sym (said_at c.args.roots.now c.args.atoms c.args.atom c.saturating_sub-near.result _
    c.requires.rises c.requires.atom less
    (get_or_default c.args.roots.now c.saturating_sub-near.result _ _ less) c.if-roots-near.true)

pub returns-then-place-roots : goal.returns-then-place-roots
returns-then-place-roots c =
    let past = c.if-place-roots.true in
    sym (said_none c.args.roots.now c.args.atoms c.args.atom c.place_in-place.result
    c.requires.rises
    c.place_in-place.ensures
    (λ d less same. omega arith))
