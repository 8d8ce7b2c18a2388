use Rattle.std.proofs.Common.{◌<◌, not, arith, inl, inr, length, length-set, subst, sym}
use Rattle.std.proofs.lemmas.Bool.{and_parts}
use Rattle.hv_task.specs.State.{has_atom}
use Rattle.hv_task.proofs.Listing.{within_state}
use Rattle.hv_reach.proofs.Served.{fresh_more, news_more}
use Rattle.hv_reach.proofs.pair_course.list_news.Goals as goal

pub loop-atom-preserved : goal.loop-atom-preserved
loop-atom-preserved c =
    let i = c.loop-atom.invariant in
    let atoms = c.loop-atom.news.atoms.items in
    let count = c.loop-atom.news.count in
    let atom = c.in-Some.atom in
    let upto = i.count in
    let differ = c.if-news-len.false in
    let size = c.len.ensures in
    let room : count < length atoms = omega arith in
    let some = c.in-Some.ensures in
    let inside : atom < length c.args.row.now = within_state c.args.row.now atom
    (and_parts (has_atom c.args.row.now atom) (not (has_atom c.args.told.now atom)) some.1).0 in
    record {
      count = omega (arith, length-set atoms count atom);
      below = λ k less. elim (news_more atoms count atom k room less) [
        | inl w ↦ subst (λ y. y < length c.args.row.now) (sym w.1) (i.below k w.0)
        | inr w ↦ subst (λ y. y < length c.args.row.now) (sym w.1) inside
      ];
      from = omega arith;
      done = fresh_more c.args.row.now c.args.told.now atoms count c.loop-atom.from atom room i.done
          some;
    }
