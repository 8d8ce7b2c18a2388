use Rattle.std.proofs.Common.{◌∙◌, ◌++◌, ◌∷◌, [], ap, refl, subst, sym}
use Rattle.std.specs.List.{Contains}
use Rattle.std.proofs.lemmas.Option.{get_or_from_slice_get}
use Rattle.hv_indexes.proofs.Mated.{put_negative, put_other, put_positive}
use Rattle.hv_indexes.proofs.put_clauses.PutClauses.put.Goals as goal

pub returns-in_default : goal.returns-in_default
returns-in_default c =
    put_other c.args.clauses.now c.args.place c.requires.place c.requires.few c.args.self.now
    c.requires.put _ refl refl c.in_ok-push.ensures.items

pub returns-then-own : goal.returns-then-own
returns-then-own c =
    let clauses = c.args.clauses.now in
    let here = get_or_from_slice_get clauses c.args.place c.get.result.now [] c.get.ensures in
    put_positive clauses c.args.place c.requires.place c.requires.few c.args.self.now
    c.requires.put c.in-Some.own
    (subst (λ ls. Contains ls c.in-Some.own) (sym here) c.in-Some.ensures) c.if-own.true _
    (c.in_ok-push-2.ensures.items
    ∙ ap (λ x. c.args.self.now.positive.items ++ x ∷ []) c.code_of-code.ensures) refl refl

pub returns : goal.returns
returns c =
    let clauses = c.args.clauses.now in
    let here = get_or_from_slice_get clauses c.args.place c.get.result.now [] c.get.ensures in
    put_negative clauses c.args.place c.requires.place c.requires.few c.args.self.now
    c.requires.put c.in-Some.own
    (subst (λ ls. Contains ls c.in-Some.own) (sym here) c.in-Some.ensures) c.if-own.false _
    (c.in_ok-push-3.ensures.items
    ∙ ap (λ x. c.args.self.now.negative.items ++ x ∷ []) c.code_of-code.ensures) refl refl
