use Rattle.std.proofs.Common.{◌∙◌, ap, length}
use Rattle.hv_bdd.specs.Live.{no_marks}
use Rattle.hv_bdd.specs.Working.Sets.{mark_literals}
use Rattle.hv_bdd.proofs.Marked.{length-no_marks}
use Rattle.hv_bdd.proofs.Within.{can_look}
use Rattle.hv_bdd.proofs.set.find.Goals as goal

pub new-search-requires-clause-tuples : goal.new-search-requires-clause-tuples
new-search-requires-clause-tuples c =
    can_look _ c.args.node c.args.inside c.args.cube.now (record {
      needed = c.signs.ensures.signs
          ∙ ap (λ n. mark_literals c.args.cube.now (no_marks n)) c.atoms-atoms.ensures.atoms;
      asked = c.from_ref.ensures.value;
    })
    c.atoms-atoms.ensures.reduced c.requires.node
    (ap length c.none-2.ensures
    ∙ (length-no_marks c.atoms-atoms.result ∙ c.atoms-atoms.ensures.atoms))
