use Rattle.std.proofs.Common.{◌≡◌, ◌<◌, ◌∙◌, ap, arith, false, true, length, refl, subst, sym}
use Rattle.std.proofs.lemmas.List.Elements.{All-nil}
use Rattle.hv_sets.specs.Cubes.{SpeakBelow}
use Rattle.hv_sets.specs.declared.literal.Literal.{Literal}
use Rattle.hv_bdd.specs.Fronts.{AreFronts}
use Rattle.hv_bdd.specs.Jumps.{AreJumps}
use Rattle.hv_bdd.proofs.Along.{along_again, fronts_first}
use Rattle.hv_bdd.proofs.front_ask.FrontAsk.new.Goals as goal

pub returns-clause-stands : goal.returns-clause-stands
returns-clause-stands g c =
    let list = c.args.nodes.now in
    let inside = c.args.inside in
    let node = c.args.node in
    let atoms = g.A.Asker.atoms c.args.asked in
    let wanted = g.A.Asker.wanted c.args.asked in
    let literals = c.new.result.items in
    let fronts = c.in_ok-fronts.fronts in
    let levels = fronts.levels.items in
    let l = c.in_ok-fronts.ensures.level in (
      c.requires.asked,
      along_again list inside node atoms atoms wanted wanted (g.A.Asker.assumed c.args.asked)
          literals fronts.reached levels c.new-2.result.items false c.requires.over refl
          (λ s. refl) (c.requires.first ∙ sym c.new.ensures.items)
          (subst (SpeakBelow list.atoms) (sym c.new.ensures.items)
          (All-nil (λ (m : Literal). m.atom < list.atoms)))
          (subst (λ n. AreFronts list inside node literals n levels)
          (sym c.in_ok-fronts.ensures.reached)
          (fronts_first list inside node literals (l.0) levels c.requires.node (l.1) (l.2) (l.3)))
          (λ batch d less. let size = ap length c.new-2.ensures.items in absurd (omega arith))
          (λ e. let f : false ≡ true = e in absurd cc),
      record {
        within = c.requires.node;
        side = c.requires.wanted;
        known = subst (AreJumps list) (sym c.none.ensures) (record {
          few = omega arith;
          each = λ i less. absurd (omega (arith, less));
        });
      },
    )
